use Rattle.std.proofs.Common.{◌≤◌, ◌-◌, drop, length}
use Rattle.ipc_plan.proofs.Sends.{SentBefore}
use Rattle.ipc_plan.proofs.sending.send_bytes.Given as goal

-- The bytes before byte `at` were sent.
abbrev pub invariant-loop-at : goal.invariant-loop-at
invariant-loop-at g l = record {
  within : l.at ≤ length l.bytes;
  sent : SentBefore g.W.Failures.device l.fn.writer l.writer
      (drop l.at l.bytes) l.bytes;
}

abbrev pub decreases-loop-at : goal.decreases-loop-at
decreases-loop-at g l = length l.bytes - l.at
