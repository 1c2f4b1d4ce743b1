-- A clone of an array equals it by `==`.
use Rattle.std.proofs.Common.{◌≡◌, IsTrue, ap}
use Rattle.std.specs.Ordering.{on}
use Rattle.lower_flat_arrays.specs.Columns.{same_column}
use Rattle.lower_flat_arrays.specs.ColumnLaws.{same_if_one}
use Rattle.lower_arrays.specs.AnyLayouts.{layout_of}
use Rattle.lower_arrays.specs.Slots.{column_of}
use Rattle.lower_arrays.specs.declared.array.AnyArray.{AnyArray}

-- A clone with the layout of its source equals it.
pub clone_equals : (a b : AnyArray) → layout_of b ≡ layout_of a → IsTrue (on (λ l. column_of (layout_of l)) same_column a b)
clone_equals a b h = same_if_one (column_of (layout_of a)) (column_of (layout_of b)) (ap column_of h)
