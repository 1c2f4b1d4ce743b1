use Rattle.std.proofs.Common.{arith, ◌≡◌, ◌+◌, ◌≤◌, ap}
use Rattle.lower.specs.TypeViews.{type_view}
use Rattle.lower_flat_arrays.specs.Spans.{span_count}
use Rattle.lower_arrays.specs.Lists.{list_seen, list_places, list_width}
use Rattle.lower_arrays.specs.AnyLayouts.{layout_of}
use Rattle.lower_arrays.proofs.NestedParts.{cut_list_is}
use Rattle.lower_arrays.proofs.array.list.ListArray.sliced.Goals as goal

pub invariant_of-result : goal.invariant_of-result
invariant_of-result c =
    let s = c.self.inside in
    let all = list_seen (type_view s.data_type) (list_width s.offsets) (list_places s.offsets) (layout_of s.values.value) s.validity in
    let count : span_count all.offsets ≡ span_count c.args.self.offsets = ap (λ a. span_count a.offsets) c.self.view_is in
    let within : c.args.offset + c.args.len ≤ span_count all.offsets = omega (arith, count, c.requires) in
    rw (c.sliced.ensures.width, c.sliced.ensures.places, c.sliced_validity.ensures) (cut_list_is all c.args.offset c.args.len c.self.invariant within)
