use Rattle.std.proofs.Common.{refl, ◌≡◌, [], ◌∷◌, ◌++◌, false, length, map, sym, ap, ap₂, ◌∙◌}
use Rattle.std.specs.Prelude.{Some, option_map}
use Rattle.std.specs.List.{list_any}
use Rattle.lower_dictionary_builders.specs.Keyed.{values_among, value_of}
use Rattle.lower_dictionary_builders.proofs.Keyed.{grow_new, miss_new}
use Rattle.lower_dictionary_builders.proofs.Sets.{value_new, value_back}
use Rattle.lower_dictionary_builders.proofs.primitive.MutablePrimitiveDictionaryArray.push_new.Goals as goal

pub invariant_of-self-in-Err : goal.invariant_of-self-in-Err
invariant_of-self-in-Err g c =
    let s = c.self.inside in
    let eq = g.T.PartialEq.eq in
    let x = c.args.value in
    let all = s.values.keys in
    let absent : list_any (eq x) all ≡ false = ap (list_any (eq x)) (sym c.self.invariant.values ∙ ap (values_among eq) c.self.view_is) ∙ c.requires in
    let more : c.insert.new.self.keys ≡ all ++ x ∷ [] = value_new eq all c.insert.new.self.keys x c.in_ok-insert.ensures.keys absent in
    let back : c.pop.new.self.keys ≡ all = value_back all c.insert.new.self.keys c.pop.new.self.keys x c.pop.result more c.pop.ensures.keys c.pop.ensures.found in
    rw (back, c.in-Err.ensures) c.self.invariant

pub returns-in-Err : goal.returns-in-Err
returns-in-Err g c =
    let s = c.self.inside in
    let eq = g.T.PartialEq.eq in
    let x = c.args.value in
    let all = s.values.keys in
    let absent : list_any (eq x) all ≡ false = ap (list_any (eq x)) (sym c.self.invariant.values ∙ ap (values_among eq) c.self.view_is) ∙ c.requires in
    let more : c.insert.new.self.keys ≡ all ++ x ∷ [] = value_new eq all c.insert.new.self.keys x c.in_ok-insert.ensures.keys absent in
    let back : c.pop.new.self.keys ≡ all = value_back all c.insert.new.self.keys c.pop.new.self.keys x c.pop.result more c.pop.ensures.keys c.pop.ensures.found in (
      ap₂ (λ ks keys. map (value_of ks) (map (option_map g.K.DictionaryKey.integer) keys)) back c.in-Err.ensures ∙ c.self.view_is,
      rw c.from.ensures tt,
    )

pub invariant_of-self-in_default-push : goal.invariant_of-self-in_default-push
invariant_of-self-in_default-push g c =
    let s = c.self.inside in
    let eq = g.T.PartialEq.eq in
    let x = c.args.value in
    let all = s.values.keys in
    let absent : list_any (eq x) all ≡ false = ap (list_any (eq x)) (sym c.self.invariant.values ∙ ap (values_among eq) c.self.view_is) ∙ c.requires in
    let more : c.insert.new.self.keys ≡ all ++ x ∷ [] = value_new eq all c.insert.new.self.keys x c.in_ok-insert.ensures.keys absent in
    (grow_new eq g.K.DictionaryKey.integer all s.keys c.push.new.self c.self.invariant c.in-Some.key c.len.result x c.insert.new.self.keys c.in_default-push.ensures c.in-Some.ensures.0 c.len.ensures.len more absent).0

pub returns : goal.returns
returns g c =
    let s = c.self.inside in
    let eq = g.T.PartialEq.eq in
    let x = c.args.value in
    let all = s.values.keys in
    let absent : list_any (eq x) all ≡ false = ap (list_any (eq x)) (sym c.self.invariant.values ∙ ap (values_among eq) c.self.view_is) ∙ c.requires in
    let more : c.insert.new.self.keys ≡ all ++ x ∷ [] = value_new eq all c.insert.new.self.keys x c.in_ok-insert.ensures.keys absent in
    (grow_new eq g.K.DictionaryKey.integer all s.keys c.push.new.self c.self.invariant c.in-Some.key c.len.result x c.insert.new.self.keys c.in_default-push.ensures c.in-Some.ensures.0 c.len.ensures.len more absent).1
    ∙ ap (λ slots. slots ++ Some x ∷ []) c.self.view_is

pub returns-in_default : goal.returns-in_default
returns-in_default g c =
    let s = c.self.inside in
    let eq = g.T.PartialEq.eq in
    let same = ap (values_among eq) (sym c.self.view_is) ∙ c.self.invariant.values in
    let count : c.len.result ≡ length (values_among eq c.args.self.now) = c.len.ensures.len ∙ ap length (sym same) in
    (refl, miss_new eq c.args.self.now c.args.value g.K.BuildKey.count c.len.result c.requires count c.in_default.ensures)
