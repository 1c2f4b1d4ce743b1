use Rattle.std.proofs.Common.{◌≡◌, ◌+◌, ◌-◌, ◌≤◌, drop, map}
use Rattle.std.specs.List.{range_with_len}
use Rattle.ipc_model.specs.Columns
use Rattle.ipc_model.specs.Kinds.{all_nodes, all_buffers}
use Rattle.ipc_reference.specs.PlainEntries.{entries_view}
use Rattle.ipc_reference.specs.PlainKinds.{kind_view, kinds_view}
use Rattle.ipc_reference.specs.PlainSlots.{slots_view}
use Rattle.ipc_reference.proofs.SlotViews.{onto}
use Rattle.ipc_reference.proofs.slots.+slots.Given as goal

abbrev pub invariant-slot_at-loop-j : goal.invariant-slot_at-loop-j
invariant-slot_at-loop-j l = record {
  read : slots_view l.items.items
      ≡ map (λ j. Columns.slot_at (entries_view l.entries) (kind_view l.item.value) (l.a + 1) (l.b + 2) j) (range_with_len l.initial.j (l.j - l.initial.j));
  few : l.j - l.initial.j ≤ l.j-end - l.initial.j;
}

-- the slots so far and those that are left are all
abbrev pub invariant-slots_at-loop-kind : goal.invariant-slots_at-loop-kind
invariant-slots_at-loop-kind l = record {
  rest : onto (slots_view l.slots.items) (Columns.slots_at (entries_view l.entries) (kinds_view (drop l.kind-index l.kinds)) l.node l.buffer l.i)
      ≡ Columns.slots_at (entries_view l.entries) (kinds_view l.kinds) l.fn.a l.fn.b l.i;
  node : l.node + all_nodes (kinds_view (drop l.kind-index l.kinds)) ≡ l.fn.a + all_nodes (kinds_view l.kinds);
  buffer : l.buffer + all_buffers l.entries.extra (kinds_view (drop l.kind-index l.kinds))
      ≡ l.fn.b + all_buffers l.entries.extra (kinds_view l.kinds);
}
