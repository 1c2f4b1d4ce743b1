use Rattle.std.proofs.Common.{◌≡◌, ◌+◌, ◌++◌, length, drop}
use Rattle.ipc_table_bytes.specs.Parts.{joined_parts, offsets}
use Rattle.ipc_table_bytes.proofs.vector_parts.put_offsets.Given as goal

abbrev pub invariant-loop-i : goal.invariant-loop-i
invariant-loop-i l = record {
  offsets : l.bytes.items ++ offsets l.gap l.before (drop l.i l.parts) ≡ l.initial.bytes.items ++ offsets l.gap 0 l.parts;
  ahead : l.before + length (joined_parts (drop l.i l.parts)) ≡ length (joined_parts l.parts);
}
