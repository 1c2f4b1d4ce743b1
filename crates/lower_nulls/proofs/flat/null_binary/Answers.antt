use Rattle.std.proofs.Common.{ap, ◌∙◌}
use Rattle.std.specs.Prelude.{Some}
use Rattle.lower.specs.TypeViews.{type_view}
use Rattle.lower_flat_arrays.specs.Spans.{span_count}
use Rattle.lower_nulls.proofs.FlatNulls.{counted, binary_breaks}
use Rattle.lower_nulls.proofs.flat.null_binary.Goals as goal

pub unreachable-requires : goal.unreachable-requires
unreachable-requires g c =
    binary_breaks g.O.NativeType.primitive (type_view c.args.data_type) c.args.length c.in_ok-offsets.offsets c.in_ok-values.values c.in_ok-validity.validity
    c.in_ok-offsets.ensures c.in_ok-validity.ensures c.in-Err.field-0 c.requires.lies c.in-Err.ensures

pub returns : goal.returns
returns g c =
    let seen = c.in-Ok.ensures.0 in
    record {
      type = ap (λ a. a.type) seen;
      count = ap (λ a. span_count a.offsets) seen
          ∙ counted g.O.NativeType.primitive (type_view c.args.data_type) c.args.length c.in_ok-offsets.offsets c.in_ok-values.values c.in_ok-validity.validity c.in_ok-offsets.ensures c.in_ok-validity.ensures;
      bits = ap (λ a. a.validity) seen ∙ ap Some c.in_ok-validity.ensures;
    }
