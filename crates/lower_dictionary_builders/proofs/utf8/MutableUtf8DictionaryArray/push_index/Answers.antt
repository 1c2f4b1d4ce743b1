use Rattle.std.proofs.Common.{refl, ◌≡◌, [], ◌∷◌, ◌++◌, map, sym, ap, ◌∙◌}
use Rattle.std.specs.Prelude.{Some, slice_get, string_bytes}
use Rattle.std.specs.Str.{bytes_eq}
use Rattle.std.proofs.lemmas.Slice.Eq.{bytes_eq-Decides}
use Rattle.lower_dictionary_builders.specs.Keyed.{values_among}
use Rattle.lower_dictionary_builders.proofs.Keyed.{miss_index, grow_index}
use Rattle.lower_dictionary_builders.proofs.utf8.MutableUtf8DictionaryArray.push_index.Goals as goal

pub invariant_of-self-2 : goal.invariant_of-self-2
invariant_of-self-2 g c =
    let s = c.self.inside in
    let all = map string_bytes s.values.keys in
    let has : slice_get all c.args.index ≡ Some c.args.text.now = ap (λ ts. slice_get ts c.args.index) (sym c.self.invariant.values ∙ ap (values_among bytes_eq) c.self.view_is) ∙ c.requires in
    (grow_index bytes_eq g.K.DictionaryKey.integer all s.keys c.push.new.self c.self.invariant bytes_eq-Decides c.in-Some.key c.args.index c.args.text.now c.in_ok-push.ensures c.in-Some.ensures.0 has).0

pub returns : goal.returns
returns g c =
    let s = c.self.inside in
    let all = map string_bytes s.values.keys in
    let has : slice_get all c.args.index ≡ Some c.args.text.now = ap (λ ts. slice_get ts c.args.index) (sym c.self.invariant.values ∙ ap (values_among bytes_eq) c.self.view_is) ∙ c.requires in
    (grow_index bytes_eq g.K.DictionaryKey.integer all s.keys c.push.new.self c.self.invariant bytes_eq-Decides c.in-Some.key c.args.index c.args.text.now c.in_ok-push.ensures c.in-Some.ensures.0 has).1
    ∙ ap (λ slots. slots ++ Some c.args.text.now ∷ []) c.self.view_is

pub returns-in_default : goal.returns-in_default
returns-in_default g c =
    (refl, miss_index bytes_eq bytes_eq-Decides c.args.self.now c.args.index c.args.text.now g.K.BuildKey.count c.requires c.in_default.ensures)
