use Rattle.std.proofs.Common.{◌≡◌, take}
use Rattle.ipc_reference.proofs.record.nodes.Given as goal

abbrev pub invariant-loop-index : goal.invariant-loop-index
invariant-loop-index l = l.nodes.items ≡ take l.index l.listed
