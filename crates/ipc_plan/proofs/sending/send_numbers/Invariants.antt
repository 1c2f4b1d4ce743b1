use Rattle.std.proofs.Common.{◌≡◌, ◌*◌, ◌≤◌, length}
use Rattle.std.specs.List.{flat_map}
use Rattle.ipc_plan.proofs.Sends.{SentBefore}
use Rattle.ipc_plan.proofs.sending.send_numbers.Given as goal

-- The numbers that were sent and those that are left are all numbers.
abbrev pub invariant-pieces : goal.invariant-pieces
invariant-pieces g l = record {
  size : g.T.NativeType.width * l.piece-iterator.size ≤ 4096;
  block : length l.block ≡ 4096;
  sent : SentBefore g.W.Failures.device l.fn.writer l.writer
      (flat_map (g.T.NativeType.spelt l.order) l.piece-iterator.rest.now) (flat_map (g.T.NativeType.spelt l.order) l.values);
}
