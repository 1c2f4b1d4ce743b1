use Rattle.std.proofs.Common.{◌≡◌, map}
use Rattle.std.specs.List.{range_with_len}
use Rattle.ipc_model.specs.Columns.{slot_at}
use Rattle.ipc_reference.specs.PlainEntries.{entries_view}
use Rattle.ipc_reference.specs.PlainKinds.{kind_view}
use Rattle.ipc_reference.specs.PlainSlots.{slots_view}
use Rattle.ipc_reference.proofs.slots.column.Given as goal

abbrev pub invariant-loop-i : goal.invariant-loop-i
invariant-loop-i l =
    slots_view l.slots.items ≡ map (λ i. slot_at (entries_view l.entries) (kind_view l.kind) l.a l.b i) (range_with_len 0 l.i)
