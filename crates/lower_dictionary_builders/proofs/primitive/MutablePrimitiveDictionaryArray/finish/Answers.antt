use Rattle.std.proofs.Common.{arith, ◌≡◌, ◌≤◌, length, map, sym, ap, ◌∙◌}
use Rattle.std.specs.Prelude.{false, None, option_map}
use Rattle.lower.specs.TypeTrees.{plain, dictionary}
use Rattle.lower.specs.TypeViews.{type_view}
use Rattle.lower.specs.Physical.{number_type}
use Rattle.lower_flat_arrays.specs.Options.{options}
use Rattle.lower_flat_arrays.specs.Primitives.{primitive_seen}
use Rattle.lower_validation.specs.AnyKeys.{keys_seen}
use Rattle.lower_arrays.specs.Layouts.{len_of, type_of}
use Rattle.lower_arrays.specs.Primitives.{primitive_layout}
use Rattle.lower_arrays.specs.AnyLayouts.{layout_of}
use Rattle.lower_dictionary_builders.specs.Keyed.{values_among, value_of}
use Rattle.lower_dictionary_builders.proofs.Rules.{no_dictionary_error}
use Rattle.lower_dictionary_builders.proofs.primitive.MutablePrimitiveDictionaryArray.finish.Goals as goal

pub returns-clause-data_type : goal.returns-clause-data_type
returns-clause-data_type g c =
    ap (λ a. a.type) c.in-Ok.ensures.0
    ∙ c.in_ok-data_type.ensures
    ∙ ap (λ k. dictionary k (type_view c.from.result) false) c.key_type.ensures
    ∙ ap (λ t. dictionary g.K.DictionaryKey.key t false) (c.from.ensures.0 ∙ ap (λ p. plain (number_type p)) c.primitive_type.ensures)

pub unreachable-requires : goal.unreachable-requires
unreachable-requires g c =
    let s = c.self.inside in
    let all = s.values.keys in
    let keys = map (option_map g.K.DictionaryKey.integer) s.keys in
    let u = type_view c.from.result in
    let l = layout_of c.in_ok-values.values.value in
    let p = g.T.NativeType.primitive in
    let is : l ≡ primitive_layout p g.T.NativeType.number (primitive_seen (plain (number_type p)) c.as_slice.result.now None) = ap layout_of c.in_ok-values.ensures.ok ∙ c.in_ok-numbers.ensures in
    let type : type_of l ≡ u = ap type_of is ∙ sym (c.from.ensures.0 ∙ ap (λ q. plain (number_type q)) c.primitive_type.ensures) in
    let len : len_of l ≡ length all = ap len_of is ∙ ap length c.as_slice.ensures.keys in
    let enough : length all ≤ len_of l = omega (arith, len) in
    no_dictionary_error g.K.DictionaryKey.key (type_view c.in_ok-data_type.data_type) u (keys_seen c.in_ok-keys.keys) keys (type_of l) (length all) (len_of l) c.in-Err.field-0
    (c.in_ok-data_type.ensures ∙ ap (λ k. dictionary k u false) c.key_type.ensures)
    c.in_ok-keys.ensures type c.self.invariant.each enough c.in-Err.ensures

pub returns-clause-slots : goal.returns-clause-slots
returns-clause-slots g c =
    let eq = g.T.PartialEq.eq in
    let same = ap (values_among eq) (sym c.self.view_is) ∙ c.self.invariant.values in
    ap (λ a. map (value_of (values_among eq c.args.self)) (options a.keys.validity a.keys.integers)) c.in-Ok.ensures.0
    ∙ ap (map (value_of (values_among eq c.args.self))) c.in_ok-keys.ensures.slots_are
    ∙ ap (λ xs. map (value_of xs) (map (option_map g.K.DictionaryKey.integer) c.self.inside.keys)) same
    ∙ c.self.view_is

pub returns-clause-values : goal.returns-clause-values
returns-clause-values g c =
    let p = g.T.NativeType.primitive in
    let f = g.T.NativeType.number in
    ap (λ a. a.values) c.in-Ok.ensures.0
    ∙ ap layout_of c.in_ok-values.ensures.ok
    ∙ c.in_ok-numbers.ensures
    ∙ ap (λ xs. primitive_layout p f (primitive_seen (plain (number_type p)) xs None)) (c.as_slice.ensures.keys ∙ sym c.self.invariant.values ∙ ap (values_among g.T.PartialEq.eq) c.self.view_is)
