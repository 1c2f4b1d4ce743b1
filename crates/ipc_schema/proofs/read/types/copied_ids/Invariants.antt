use Rattle.std.proofs.Common.{◌≡◌, take}
use Rattle.ipc_schema.proofs.read.types.copied_ids.Given as goal

abbrev pub invariant-loop-i : goal.invariant-loop-i
invariant-loop-i l = l.copy.items ≡ take l.i l.ids
