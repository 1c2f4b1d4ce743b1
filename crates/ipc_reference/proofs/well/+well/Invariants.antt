use Rattle.std.proofs.Common.{◌≡◌, ◌+◌, drop}
use Rattle.ipc_model.specs.Kinds.{all_nodes, all_buffers}
use Rattle.ipc_model.specs.Tests
use Rattle.ipc_reference.specs.PlainEntries.{entries_view}
use Rattle.ipc_reference.specs.PlainKinds.{kinds_view}
use Rattle.ipc_reference.proofs.well.+well.Given as goal

-- The result for what is left is that for all.
abbrev pub invariant-all_have_rows-loop-kind : goal.invariant-all_have_rows-loop-kind
invariant-all_have_rows-loop-kind l = record {
  rest : Tests.all_have_rows (entries_view l.entries) (kinds_view (drop l.kind-index l.kinds)) l.node l.buffer l.limit l.rows
      ≡ Tests.all_have_rows (entries_view l.entries) (kinds_view l.kinds) l.fn.a l.fn.b l.limit l.rows;
  node : l.node + all_nodes (kinds_view (drop l.kind-index l.kinds)) ≡ l.fn.a + all_nodes (kinds_view l.kinds);
  buffer : l.buffer + all_buffers l.entries.extra (kinds_view (drop l.kind-index l.kinds))
      ≡ l.fn.b + all_buffers l.entries.extra (kinds_view l.kinds);
}
