use Rattle.std.proofs.Common.{◌≡◌, ◌++◌, drop}
use Rattle.ipc_table_bytes.specs.Parts.{tails}
use Rattle.ipc_table_bytes.proofs.table_part.put_tails.Given as goal

abbrev pub invariant-loop-slot : goal.invariant-loop-slot
invariant-loop-slot l = l.bytes.items ++ tails (drop l.slot-index l.slots) ≡ l.initial.bytes.items ++ tails l.slots
