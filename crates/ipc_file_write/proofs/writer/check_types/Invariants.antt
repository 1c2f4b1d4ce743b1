use Rattle.std.proofs.Common.{drop, map, take, All}
use Rattle.lower_arrays.specs.AnyLayouts.{layout_of}
use Rattle.lower_arrays.specs.Slots.{IsArray}
use Rattle.ipc_write.specs.Writers.{HaveTypes}
use Rattle.ipc_file_write.specs.Writes.{field_normal}
use Rattle.ipc_file_write.proofs.writer.check_types.Given as goal

-- Whether all columns have their types depends on those that are left; those so far are arrays.
abbrev pub invariant-loop-i : goal.invariant-loop-i
invariant-loop-i l = record {
  left : HaveTypes (drop l.i l.columns) (map field_normal (drop l.i l.fields)) → HaveTypes l.columns (map field_normal l.fields);
  all : HaveTypes l.columns (map field_normal l.fields) → HaveTypes (drop l.i l.columns) (map field_normal (drop l.i l.fields));
  arrays : All (λ array. IsArray (layout_of array)) (take l.i l.columns);
}
