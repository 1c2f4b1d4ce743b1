use Rattle.std.proofs.Common.{drop, map, take, All}
use Rattle.lower_arrays.specs.AnyLayouts.{layout_of}
use Rattle.lower_arrays.specs.Slots.{IsArray}
use Rattle.ipc_write.specs.Writers.{HaveTypes, normal_view}
use Rattle.ipc_write.proofs.stream.check_types.Given as goal

-- Whether all columns have their types depends on those that are left; those so far are arrays.
abbrev pub invariant-loop-i : goal.invariant-loop-i
invariant-loop-i l = record {
  left : HaveTypes (drop l.i l.columns) (map normal_view (drop l.i l.types)) → HaveTypes l.columns (map normal_view l.types);
  all : HaveTypes l.columns (map normal_view l.types) → HaveTypes (drop l.i l.columns) (map normal_view (drop l.i l.types));
  arrays : All (λ array. IsArray (layout_of array)) (take l.i l.columns);
}
