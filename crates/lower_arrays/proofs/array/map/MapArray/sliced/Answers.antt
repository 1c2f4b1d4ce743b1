use Rattle.std.proofs.Common.{arith, ◌≡◌, ◌+◌, ◌≤◌, ap}
use Rattle.lower.specs.TypeViews.{type_view}
use Rattle.lower_flat_arrays.specs.Spans.{span_count}
use Rattle.lower_arrays.specs.Maps.{map_seen}
use Rattle.lower_arrays.specs.AnyLayouts.{layout_of}
use Rattle.lower_arrays.proofs.NestedParts.{cut_map_is}
use Rattle.lower_arrays.proofs.array.map.MapArray.sliced.Goals as goal

pub invariant_of-result : goal.invariant_of-result
invariant_of-result c =
    let s = c.self.inside in
    let all = map_seen (type_view s.data_type) s.offsets (layout_of s.field.value) s.validity in
    let count : span_count all.offsets ≡ span_count c.args.self.offsets = ap (λ a. span_count a.offsets) c.self.view_is in
    let within : c.args.offset + c.args.len ≤ span_count all.offsets = omega (arith, count, c.requires) in
    rw (c.sliced.ensures, c.sliced_validity.ensures) (cut_map_is all c.args.offset c.args.len c.self.invariant within)
