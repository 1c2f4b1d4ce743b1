use Rattle.std.proofs.Common.{◌≡◌, drop, length}
use Rattle.ipc_plan.specs.Pieces.{pieces_bytes}
use Rattle.ipc_plan.proofs.Sends.{SentBefore}
use Rattle.ipc_plan.proofs.sending.send_pieces.Given as goal

-- The pieces that were sent and those that are left are all pieces.
abbrev pub invariant-loop-piece : goal.invariant-loop-piece
invariant-loop-piece g l = record {
  block : length l.block ≡ 4096;
  sent : SentBefore g.W.Failures.device l.fn.writer l.writer
      (pieces_bytes l.order (drop l.piece-index l.pieces)) (pieces_bytes l.order l.pieces);
}
