use Rattle.std.proofs.Common.{◌≡◌, ◌^◌, length}
use Rattle.std.specs.Int.{w64, byte_len}
use Rattle.std.specs.List.{flat_map}
use Rattle.lower_types.specs.Numbers.{unsigned_bytes}
use Rattle.ipc_plan.specs.Pieces.{less}
use Rattle.ipc_plan.proofs.Sends.{SentBefore}
use Rattle.ipc_plan.proofs.sending.send_large_offsets.Given as goal

-- The offsets that were sent and those that are left are all offsets.
abbrev pub invariant-pieces : goal.invariant-pieces
invariant-pieces g l = record {
  size : l.piece-iterator.size ≡ 512;
  block : length l.block ≡ 4096;
  sent : SentBefore g.W.Failures.device l.fn.writer l.writer
      (flat_map (λ z. unsigned_bytes (byte_len w64) l.order (less w64 (2 ^ 64) l.first z)) l.piece-iterator.rest.now)
      (flat_map (λ z. unsigned_bytes (byte_len w64) l.order (less w64 (2 ^ 64) l.first z)) l.offsets);
}
