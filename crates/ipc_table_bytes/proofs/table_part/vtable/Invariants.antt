use Rattle.std.proofs.Common.{◌≡◌, ◌+◌, ◌*◌, ◌++◌, length, drop}
use Rattle.ipc_table_bytes.specs.Pads.{le}
use Rattle.ipc_table_bytes.specs.Parts.{entries}
use Rattle.ipc_table_bytes.proofs.table_part.vtable.Given as goal

abbrev pub invariant-loop-i : goal.invariant-loop-i
invariant-loop-i l =
    l.bytes.items ++ entries l.i (drop l.i l.slots) ≡ le 2 (4 + 2 * length l.slots) ++ (le 2 (8 + 8 * length l.slots) ++ entries 0 l.slots)
