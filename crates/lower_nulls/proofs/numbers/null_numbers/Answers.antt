use Rattle.std.proofs.Common.{false, length, sym, ap, ◌∙◌}
use Rattle.std.specs.Prelude.{Some}
use Rattle.std.proofs.lemmas.List.{length-replicate}
use Rattle.lower.specs.TypeViews.{type_view}
use Rattle.lower_flat_arrays.specs.Primitives.{primitive_seen}
use Rattle.lower_builders.proofs.Rules.{primitive_breaks_none}
use Rattle.lower_nulls.proofs.numbers.null_numbers.Goals as goal

pub unreachable-requires : goal.unreachable-requires
unreachable-requires g c =
    let xs = c.in_ok-values.values in
    let bits = c.in_ok-validity.validity in
    let count = ap length (c.in_ok-values.ensures ∙ c.in_ok-repeated.ensures) ∙ length-replicate c.args.length c.zero.result in
    primitive_breaks_none g.T.NativeType.primitive (primitive_seen (type_view c.args.data_type) xs (Some bits)) c.in-Err.field-0
    (record { lies = c.requires; fits = ap length c.in_ok-validity.ensures ∙ length-replicate c.args.length false ∙ sym count }) c.in-Err.ensures

pub returns : goal.returns
returns g c =
    let count = ap length (c.in_ok-values.ensures ∙ c.in_ok-repeated.ensures) ∙ length-replicate c.args.length c.zero.result in
    record {
      type = ap (λ a. a.type) c.in-Ok.ensures.0;
      count = ap (λ a. length a.values) c.in-Ok.ensures.0 ∙ count;
      bits = ap (λ a. a.validity) c.in-Ok.ensures.0 ∙ ap Some c.in_ok-validity.ensures;
    }
