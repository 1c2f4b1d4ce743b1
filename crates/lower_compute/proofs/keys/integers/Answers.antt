use Rattle.std.proofs.Common.{◌≡◌, pos, length, map, sym, ap, subst, ◌∙◌}
use Rattle.std.proofs.lemmas.List.{length-map}
use Rattle.lower.specs.TypeTrees.{plain}
use Rattle.lower.specs.Physical.{number_type}
use Rattle.lower.specs.TypeViews.{type_view}
use Rattle.lower.specs.declared.datatypes.physical_type.PhysicalType.TheVariants.{Primitive}
use Rattle.lower_flat_arrays.specs.Validities.{ValidityFits}
use Rattle.lower_flat_arrays.specs.Primitives.{primitive_seen}
use Rattle.lower_compute.proofs.Refusals.{primitive_kept}
use Rattle.lower_compute.proofs.keys.integers.Goals as goal

pub unreachable-requires : goal.unreachable-requires
unreachable-requires g c =
    let places = c.args.places.now in
    let values = c.in_ok-values.values in
    let count : length values ≡ length places =
    sym (length-map values g.K.DictionaryKey.integer)
    ∙ ap (λ l. length l) (ap (map g.K.DictionaryKey.integer) c.in_ok-values.ensures ∙ c.in_ok-numbers.ensures)
    ∙ length-map places (λ n. pos n)
    in
    primitive_kept g.K.NativeType.primitive (primitive_seen (type_view c.from.result) values c.args.validity) c.in-Err.field-0
    (c.from.ensures.1 ∙ ap Primitive c.primitive_type.ensures)
    (subst (ValidityFits c.args.validity) (sym count) c.requires)
    c.in-Err.ensures

pub returns : goal.returns
returns g c =
    let made = c.in-Ok.ensures.0 in (
      ap (λ a. a.type) made ∙ c.from.ensures.0 ∙ ap (λ p. plain (number_type p)) c.primitive_type.ensures,
      ap (λ a. map g.K.DictionaryKey.integer a.values) made ∙ ap (map g.K.DictionaryKey.integer) c.in_ok-values.ensures ∙ c.in_ok-numbers.ensures,
      ap (λ a. a.validity) made,
    )
