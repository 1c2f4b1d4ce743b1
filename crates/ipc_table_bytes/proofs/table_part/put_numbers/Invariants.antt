use Rattle.std.proofs.Common.{◌≡◌, ◌+◌, ◌++◌, length, drop}
use Rattle.ipc_table_bytes.specs.Parts.{numbers, tails}
use Rattle.ipc_table_bytes.proofs.table_part.put_numbers.Given as goal

abbrev pub invariant-loop-i : goal.invariant-loop-i
invariant-loop-i l = record {
  numbers : l.bytes.items ++ numbers l.before (drop l.i l.slots) ≡ l.initial.bytes.items ++ numbers 0 l.slots;
  ahead : l.before + length (tails (drop l.i l.slots)) ≡ length (tails l.slots);
}
