use Rattle.std.proofs.Common.{◌≡◌, drop}
use Rattle.ipc_base.specs.IdTrees.{all_ids_view}
use Rattle.ipc_schema_write.proofs.dictionaries.+same_ids.Given as goal

-- Whether all ids are the same depends on those that are left.
abbrev pub invariant-are_same_ids-loop-i : goal.invariant-are_same_ids-loop-i
invariant-are_same_ids-loop-i l = record {
  left : all_ids_view (drop l.i l.a) ≡ all_ids_view (drop l.i l.b) → all_ids_view l.a ≡ all_ids_view l.b;
  all : all_ids_view l.a ≡ all_ids_view l.b → all_ids_view (drop l.i l.a) ≡ all_ids_view (drop l.i l.b);
}
