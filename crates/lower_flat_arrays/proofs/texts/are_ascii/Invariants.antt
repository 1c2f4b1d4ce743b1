use Rattle.std.proofs.Common.{IsTrue, ◌↔◌, ◌<◌, ℕ, slice_index}
use Rattle.lower_flat_arrays.proofs.texts.are_ascii.Given as goal

abbrev pub invariant-loop-byte : goal.invariant-loop-byte
invariant-loop-byte l = IsTrue l.are_ascii ↔ ((i : ℕ) → i < l.byte-index → slice_index l.bytes i < 128)
