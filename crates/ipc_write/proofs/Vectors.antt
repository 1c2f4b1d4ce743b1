-- Why a vector refuses to grow.
use Rattle.std.proofs.Common.{ℕ, ◌<◌, true, arith, inl, inr}
use Rattle.ipc_write.specs.Sending.{FailsOrIsFull}

-- Memory fails if it is full.
pub is_full : (room count : ℕ) → FailsOrIsFull true 0 0 room count → room < count
is_full room count h = elim h [ inl rises ↦ absurd (omega (arith, rises)) | inr full ↦ full.1 ]
