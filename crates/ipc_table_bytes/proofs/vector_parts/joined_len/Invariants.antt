use Rattle.std.proofs.Common.{◌≡◌, ◌+◌, ◌<◌, ◌^◌, length, drop}
use Rattle.ipc_table_bytes.specs.Parts.{joined_parts}
use Rattle.ipc_table_bytes.proofs.vector_parts.joined_len.Given as goal

abbrev pub invariant-loop-part : goal.invariant-loop-part
invariant-loop-part l = record {
  ahead : l.len + length (joined_parts (drop l.part-index l.parts)) ≡ length (joined_parts l.parts);
  small : l.len < 2 ^ 63;
}
