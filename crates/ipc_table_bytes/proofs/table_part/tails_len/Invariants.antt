use Rattle.std.proofs.Common.{◌≡◌, ◌+◌, ◌<◌, ◌^◌, length, drop}
use Rattle.ipc_table_bytes.specs.Parts.{tails}
use Rattle.ipc_table_bytes.proofs.table_part.tails_len.Given as goal

abbrev pub invariant-loop-slot : goal.invariant-loop-slot
invariant-loop-slot l = record {
  ahead : l.len + length (tails (drop l.slot-index l.slots)) ≡ length (tails l.slots);
  small : l.len < 2 ^ 63;
}
