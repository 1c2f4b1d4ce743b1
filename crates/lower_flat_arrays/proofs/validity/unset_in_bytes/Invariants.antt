use Rattle.std.proofs.Common.{◌≡◌, ◌*◌, ◌≤◌}
use Rattle.lower.specs.Bits.{has_bit}
use Rattle.lower_flat_arrays.specs.Validities.{unset_along}
use Rattle.lower_flat_arrays.proofs.validity.unset_in_bytes.Given as goal

abbrev pub invariant-loop-byte : goal.invariant-loop-byte
invariant-loop-byte l = (l.count ≡ unset_along (has_bit l.bytes) 0 (8 * l.byte-index)) × (l.count ≤ 8 * l.byte-index)
