use Rattle.std.proofs.Common.{◌≡◌, ℕ, ◌≤◌, ◌+◌, ◌*◌, get_or, map}
use Rattle.lower_arrays.specs.Layouts.{height, heights, layouts}
use Rattle.lower_arrays.specs.AnyLayouts.{layout_of}
use Rattle.lower_arrays.specs.declared.array.AnyArray.{AnyArray}
use Rattle.lower_arrays.proofs.Children.{CutUpTo}
use Rattle.lower_arrays.proofs.array.+slices.Given as goal

abbrev pub decreases-AnyArray::slice : goal.decreases-AnyArray::slice
decreases-AnyArray::slice l = 4 * height (layout_of l.self.now) + 5

abbrev pub decreases-AnyArray::part : goal.decreases-AnyArray::part
decreases-AnyArray::part l = 4 * height (layout_of l.self) + 4

abbrev pub decreases-struct_::StructArray::sliced : goal.decreases-struct_::StructArray::sliced
decreases-struct_::StructArray::sliced l = 4 * heights (layouts l.self.children) + 3

abbrev pub decreases-union::UnionArray::sliced : goal.decreases-union::UnionArray::sliced
decreases-union::UnionArray::sliced l = 4 * heights (layouts l.self.children) + 3

abbrev pub decreases-children::sliced_each : goal.decreases-children::sliced_each
decreases-children::sliced_each l = 4 * heights (layouts (map layout_of l.children.items)) + 2

abbrev pub decreases-fixed_size_list::FixedSizeListArray::sliced : goal.decreases-fixed_size_list::FixedSizeListArray::sliced
decreases-fixed_size_list::FixedSizeListArray::sliced l = 4 * height l.self.child + 7

abbrev pub invariant-children::sliced_each-loop-i : goal.invariant-children::sliced_each-loop-i
invariant-children::sliced_each-loop-i l = record {
  rest : (k : ℕ) (d : AnyArray) → l.i ≤ k → get_or l.children.items k d ≡ get_or l.initial.children.items k d;
  cut : CutUpTo l.offset l.len l.i l.initial.children.items l.children.items;
}
