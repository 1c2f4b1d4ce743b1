use Rattle.std.proofs.Common.{◌≡◌}
use Rattle.ipc_model.specs.Batches.{buffers_before}
use Rattle.ipc_reference.specs.PlainKinds.{kinds_view}
use Rattle.ipc_reference.proofs.batch.buffers_before.Given as goal

abbrev pub invariant-loop-i : goal.invariant-loop-i
invariant-loop-i l = l.count ≡ buffers_before l.extra (kinds_view l.kinds) l.i
