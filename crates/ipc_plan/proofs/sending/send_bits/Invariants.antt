use Rattle.std.proofs.Common.{◌≡◌, ◌≤◌, ◌-◌, length, map}
use Rattle.std.specs.List.{range_with_len}
use Rattle.ipc_model.specs.Entries.{bytes_for}
use Rattle.ipc_plan.specs.Pieces.{packed, packed_byte}
use Rattle.ipc_plan.proofs.Sends.{SentBefore}
use Rattle.ipc_plan.proofs.sending.send_bits.Given as goal

-- The bytes before byte `done` were sent.
abbrev pub invariant-loop-done : goal.invariant-loop-done
invariant-loop-done g l = record {
  within : l.done ≤ bytes_for l.count;
  block : length l.block ≡ 4096;
  sent : SentBefore g.W.Failures.device l.fn.writer l.writer
      (map (packed_byte l.bytes l.start l.count) (range_with_len l.done (bytes_for l.count - l.done))) (packed l.bytes l.start l.count);
}

abbrev pub decreases-loop-done : goal.decreases-loop-done
decreases-loop-done g l = bytes_for l.count - l.done
