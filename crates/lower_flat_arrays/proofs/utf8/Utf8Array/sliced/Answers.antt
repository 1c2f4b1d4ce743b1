use Rattle.std.proofs.Common.{arith, ◌≡◌, ◌+◌, ◌≤◌, ap}
use Rattle.lower.specs.TypeViews.{type_view}
use Rattle.lower_flat_arrays.specs.Spans.{spans_seen, span_count}
use Rattle.lower_flat_arrays.proofs.SpanPlaces.{cut_text_is}
use Rattle.lower_flat_arrays.proofs.utf8.Utf8Array.sliced.Goals as goal

pub invariant_of-result : goal.invariant_of-result
invariant_of-result g c =
    let all = spans_seen (type_view c.self.inside.data_type) c.self.inside.offsets c.self.inside.values c.self.inside.validity in
    let count : span_count all.offsets ≡ span_count c.args.self.offsets = ap (λ a. span_count a.offsets) c.self.view_is in
    let within : c.args.offset + c.args.len ≤ span_count all.offsets = omega (arith, count, c.requires) in
    rw (c.sliced.ensures, c.sliced_validity.ensures) (cut_text_is g.O.NativeType.primitive all c.args.offset c.args.len c.self.invariant within)
