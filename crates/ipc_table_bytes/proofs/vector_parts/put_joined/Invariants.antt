use Rattle.std.proofs.Common.{◌≡◌, ◌++◌, drop}
use Rattle.ipc_table_bytes.specs.Parts.{joined_parts}
use Rattle.ipc_table_bytes.proofs.vector_parts.put_joined.Given as goal

abbrev pub invariant-loop-part : goal.invariant-loop-part
invariant-loop-part l = l.bytes.items ++ joined_parts (drop l.part-index l.parts) ≡ l.initial.bytes.items ++ joined_parts l.parts
