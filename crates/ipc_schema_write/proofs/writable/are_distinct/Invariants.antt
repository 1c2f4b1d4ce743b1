use Rattle.std.proofs.Common.{◌≡◌, drop}
use Rattle.ipc_model.specs.Tests.{are_distinct}
use Rattle.ipc_schema_write.proofs.writable.are_distinct.Given as goal

abbrev pub invariant-loop-index : goal.invariant-loop-index
invariant-loop-index l = are_distinct (drop l.index l.ids) ≡ are_distinct l.ids
