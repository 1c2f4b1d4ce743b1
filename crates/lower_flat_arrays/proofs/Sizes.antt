-- Slots of as many bytes each.
use Rattle.std.proofs.Common.{arith, ◌≡◌, ℕ, ◌+◌, ◌*◌, ◌≤◌, length}
use Rattle.std.proofs.Math.Nat.{add-mul}
use Rattle.std.proofs.lemmas.Nat.{mul-le}
use Rattle.lower_flat_arrays.specs.FixedBinaries.{FixedBinarySeen, IsFixedBinary, cut_fixed}
use Rattle.lower_flat_arrays.proofs.Cuts.{length-part, fits-cut}

-- the bytes of o slots and of n more are within those of m
within : (o n m size : ℕ) → o + n ≤ m → o * size + n * size ≤ m * size
within o n m size h =
    let both : (o + n) * size ≡ o * size + n * size = add-mul o n size in
    let le : (o + n) * size ≤ m * size = mul-le (o + n) size m size h (omega arith) in
    omega (arith, both, le)

-- the bytes of some slots
pub slots_within : (a : FixedBinarySeen) (o n : ℕ) → IsFixedBinary a → o + n ≤ a.len → o * a.size + n * a.size ≤ length a.values
slots_within a o n is h =
    let all = within o n a.len a.size h in
    let whole = is.whole in
    omega (arith, all, whole)

-- some slots keep the rules
pub cut_fixed_is : (a : FixedBinarySeen) (o n : ℕ) → IsFixedBinary a → o + n ≤ a.len → IsFixedBinary (cut_fixed o n a)
cut_fixed_is a o n is h = record {
  lies = is.lies;
  named = is.named;
  positive = is.positive;
  whole = length-part (o * a.size) (n * a.size) a.values (slots_within a o n is h);
  fits = fits-cut a.validity o n a.len h is.fits;
}
