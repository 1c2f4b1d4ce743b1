use Rattle.std.proofs.Common.{◌≡◌}
use Rattle.ipc_model.specs.Batches.{nodes_before}
use Rattle.ipc_reference.specs.PlainKinds.{kinds_view}
use Rattle.ipc_reference.proofs.batch.nodes_before.Given as goal

abbrev pub invariant-loop-i : goal.invariant-loop-i
invariant-loop-i l = l.count ≡ nodes_before (kinds_view l.kinds) l.i
