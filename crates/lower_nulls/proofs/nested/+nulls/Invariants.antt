use Rattle.std.proofs.Common.{map, take}
use Rattle.lower.specs.TypeViews.{field_view}
use Rattle.lower_arrays.specs.AnyLayouts.{layout_of}
use Rattle.lower_nulls.specs.Storage.{AllNulls}
use Rattle.lower_nulls.proofs.nested.+nulls.Given as goal

abbrev pub invariant-null_children-loop-field : goal.invariant-null_children-loop-field
invariant-null_children-loop-field l = AllNulls (map field_view (take l.field-index l.fields)) l.length (map layout_of l.children.items)
