use Rattle.std.proofs.Common.{refl, ◌≡◌, [], ◌∷◌, ◌++◌, sym, ap, ◌∙◌}
use Rattle.std.specs.Prelude.{Some, slice_get}
use Rattle.lower_dictionary_builders.specs.Keyed.{values_among}
use Rattle.lower_dictionary_builders.proofs.Keyed.{miss_index, grow_index}
use Rattle.lower_dictionary_builders.proofs.primitive.MutablePrimitiveDictionaryArray.push_index.Goals as goal

pub invariant_of-self-2 : goal.invariant_of-self-2
invariant_of-self-2 g c =
    let s = c.self.inside in
    let eq = g.T.PartialEq.eq in
    let has : slice_get s.values.keys c.args.index ≡ Some c.args.value = ap (λ xs. slice_get xs c.args.index) (sym c.self.invariant.values ∙ ap (values_among eq) c.self.view_is) ∙ c.requires in
    (grow_index eq g.K.DictionaryKey.integer s.values.keys s.keys c.push.new.self c.self.invariant g.met.T.DictionaryValue.decides c.in-Some.key c.args.index c.args.value c.in_ok-push.ensures c.in-Some.ensures.0 has).0

pub returns : goal.returns
returns g c =
    let s = c.self.inside in
    let eq = g.T.PartialEq.eq in
    let has : slice_get s.values.keys c.args.index ≡ Some c.args.value = ap (λ xs. slice_get xs c.args.index) (sym c.self.invariant.values ∙ ap (values_among eq) c.self.view_is) ∙ c.requires in
    (grow_index eq g.K.DictionaryKey.integer s.values.keys s.keys c.push.new.self c.self.invariant g.met.T.DictionaryValue.decides c.in-Some.key c.args.index c.args.value c.in_ok-push.ensures c.in-Some.ensures.0 has).1
    ∙ ap (λ slots. slots ++ Some c.args.value ∷ []) c.self.view_is

pub returns-in_default : goal.returns-in_default
returns-in_default g c =
    (refl, miss_index g.T.PartialEq.eq g.met.T.DictionaryValue.decides c.args.self.now c.args.index c.args.value g.K.BuildKey.count c.requires c.in_default.ensures)
