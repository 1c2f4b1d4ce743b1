use Rattle.std.proofs.Common.{◌≡◌, sym, ap, ◌∙◌}
use Rattle.std.specs.Prelude.{slice_get}
use Rattle.std.specs.List.{list_any}
use Rattle.lower_dictionary_builders.specs.Keyed.{values_among}
use Rattle.lower_dictionary_builders.proofs.Sets.{found_value}
use Rattle.lower_dictionary_builders.proofs.primitive.MutablePrimitiveDictionaryArray.push_value.Goals as goal

pub push_index-requires : goal.push_index-requires
push_index-requires g c =
    let s = c.self.inside in
    let eq = g.T.PartialEq.eq in
    let same : values_among eq c.args.self.now ≡ s.values.keys = ap (values_among eq) (sym c.self.view_is) ∙ c.self.invariant.values in
    ap (λ xs. slice_get xs c.in-Some.index) same ∙ found_value eq g.met.T.DictionaryValue.decides c.args.value s.values.keys c.in-Some.index (sym c.in-Some.ensures.index)

pub push_new-requires : goal.push_new-requires
push_new-requires g c =
    let s = c.self.inside in
    let eq = g.T.PartialEq.eq in
    let same : values_among eq c.args.self.now ≡ s.values.keys = ap (values_among eq) (sym c.self.view_is) ∙ c.self.invariant.values in
    ap (list_any (eq c.args.value)) same ∙ sym c.in-None.ensures.found
