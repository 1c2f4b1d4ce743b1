use Rattle.std.proofs.Common.{◌≡◌, take}
use Rattle.lower_builders.proofs.bitmap.MutableBitmap.from_slice.Given as goal

abbrev pub invariant-loop-bit : goal.invariant-loop-bit
invariant-loop-bit l = l.all ≡ take l.bit-index l.bits
