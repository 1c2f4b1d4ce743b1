use Rattle.std.proofs.Common.{replicate}
use Rattle.ipc_plan.proofs.Sends.{SentBefore}
use Rattle.ipc_plan.proofs.sending.send_zeros.Given as goal

abbrev pub invariant-loop-left : goal.invariant-loop-left
invariant-loop-left g l =
    SentBefore g.W.Failures.device l.fn.writer l.writer
    (replicate l.left 0) (replicate l.count 0)

abbrev pub decreases-loop-left : goal.decreases-loop-left
decreases-loop-left g l = l.left
