-- Bits that aren't set, counted by words of eight bytes.
use Rattle.std.proofs.Common.{arith, ℕ, zero, suc, refl, ◌≡◌, ◌+◌, ◌-◌, ◌*◌, ◌/◌, ◌%◌, ◌^◌, ◌<◌, ◌≤◌, List, length, take, drop, ap, ◌∙◌, count_ones}
use Rattle.std.specs.Prelude.{slice_index}
use Rattle.std.specs.List.{sum_by}
use Rattle.std.specs.Int.{w64, byte_worth, sum_through, count_zeros, from_le_bytes}
use Rattle.std.specs.Simd.{first_chunks}
use Rattle.std.proofs.lemmas.Nat.{pow-add, ones_cat}
use Rattle.std.proofs.Math.Nat.{mul-le-mul_right}
use Rattle.std.proofs.lemmas.List.Sums.{sum_by-cons}
use Rattle.lower.specs.Bits.{has_bit}
use Rattle.lower_flat_arrays.specs.Validities.{unset_along}
use Rattle.lower_flat_arrays.proofs.Unset.{one_more, unset-split, bits_after, bits_of_first}

-- how many of the k digits of n aren't set
abbrev zeros_in : ℕ → ℕ → ℕ
zeros_in k n = count_ones (2 ^ k - 1 - n)

-- The m digits of a are above the k digits of r.
zeros_cat : (m k a r : ℕ) → a < 2 ^ m → r < 2 ^ k → zeros_in (m + k) (a * 2 ^ k + r) ≡ zeros_in m a + zeros_in k r
zeros_cat m k a r high low =
    let d = 2 ^ m - 1 - a in
    let top : 2 ^ m ≡ a + 1 + d = omega (arith, high) in
    let both : 2 ^ (m + k) ≡ (a + 1 + d) * 2 ^ k = pow-add 2 m k ∙ ap (λ t. t * 2 ^ k) top in
    let turned : 2 ^ (m + k) - 1 - (a * 2 ^ k + r) ≡ d * 2 ^ k + (2 ^ k - 1 - r) = omega (arith, both, low) in
    ap count_ones turned ∙ ones_cat k d (2 ^ k - 1 - r) (omega (arith, low))

-- a byte has eight digits
byte_pow : (k : ℕ) → 256 ^ k ≡ 2 ^ (8 * k)
byte_pow zero = refl
byte_pow (suc k) =
    let e : 8 * suc k ≡ 8 * k + 8 = omega arith in
    let f : suc k ≡ k + 1 = omega arith in
    let here : 256 ^ suc k ≡ 256 ^ k * 256 = ap (λ j. 256 ^ j) f ∙ pow-add 256 k 1 in
    let there : 2 ^ (8 * suc k) ≡ 2 ^ (8 * k) * 256 = ap (λ j. 2 ^ j) e ∙ pow-add 2 (8 * k) 8 in
    omega (arith, here, there, byte_pow k)

-- the number that the first k + 1 bytes make, the lowest first
abbrev number : List ℕ → ℕ → ℕ
number bytes k = sum_through (λ i. byte_worth i (slice_index bytes i)) k

module _ (bytes : List ℕ) (small : (i : ℕ) → slice_index bytes i < 256) where
  -- the number's digits are the bytes' bits
  digits : (k : ℕ) → (number bytes k < 2 ^ (8 * suc k)) × (unset_along (has_bit bytes) 0 (8 * suc k) ≡ zeros_in (8 * suc k) (number bytes k))
  digits zero = let more : unset_along (has_bit bytes) 0 8 ≡ unset_along (has_bit bytes) 0 0 + zeros_in 8 (number bytes 0) = one_more bytes 0 (small 0) in (small 0, omega (arith, more))
  digits (suc k) =
      let before = digits k in
      let b = slice_index bytes (suc k) in
      let e : 8 * suc (suc k) ≡ 8 + 8 * suc k = omega arith in
      let f : 8 * suc (suc k) ≡ 8 * (suc k + 1) = omega arith in
      let power : 2 ^ (8 * suc (suc k)) ≡ 256 * 2 ^ (8 * suc k) = ap (λ j. 2 ^ j) e ∙ pow-add 2 8 (8 * suc k) in
      let worth : number bytes (suc k) ≡ b * 2 ^ (8 * suc k) + number bytes k = omega (arith, ap (λ p. b * p) (byte_pow (suc k))) in
      let more = one_more bytes (suc k) (small (suc k)) in
      let cat = zeros_cat 8 (8 * suc k) b (number bytes k) (small (suc k)) before.0 in
      let counted : zeros_in (8 * suc (suc k)) (number bytes (suc k)) ≡ zeros_in (8 + 8 * suc k) (b * 2 ^ (8 * suc k) + number bytes k) = ap (λ j. zeros_in j (number bytes (suc k))) e ∙ ap (zeros_in (8 + 8 * suc k)) worth in
      let most : b * 2 ^ (8 * suc k) ≤ 255 * 2 ^ (8 * suc k) = mul-le-mul_right (2 ^ (8 * suc k)) (let s = small (suc k) in omega (arith, s)) in
      (omega (arith, worth, power, before.0, most), omega (arith, ap (unset_along (has_bit bytes) 0) f, more, before.1, cat, counted))

  -- the bits of eight bytes are those of their word
  pub word_bits : unset_along (has_bit bytes) 0 64 ≡ count_zeros w64 (from_le_bytes w64 bytes)
  word_bits = (digits 7).1

-- the bits of the first k words of a slice
pub bits_of_words : (k : ℕ) (bytes : List ℕ) → sum_by (λ word. unset_along (has_bit word) 0 64) (first_chunks 8 k bytes) ≡ unset_along (has_bit bytes) 0 (64 * k)
bits_of_words zero bytes = refl
bits_of_words (suc k) bytes =
    let e : 64 * suc k ≡ 64 + 64 * k = omega arith in
    let whole = sum_by-cons (λ word. unset_along (has_bit word) 0 64) (take 8 bytes) (first_chunks 8 k (drop 8 bytes)) in
    let first = bits_of_first bytes 8 in
    let rest = bits_of_words k (drop 8 bytes) in
    let after = bits_after bytes 8 (64 * k) in
    let cut = unset-split (has_bit bytes) 0 64 (64 * k) in
    omega (arith, ap (unset_along (has_bit bytes) 0) e, whole, first, rest, after, cut)

-- the bits of a slice are those of its words and of the bytes after them
pub words_and_rest : (bytes : List ℕ)
    → sum_by (λ word. unset_along (has_bit word) 0 64) (first_chunks 8 (length bytes / 8) bytes) + unset_along (has_bit (drop (length bytes / 8 * 8) bytes)) 0 (8 * (length bytes % 8))
    ≡ unset_along (has_bit bytes) 0 (8 * length bytes)
words_and_rest bytes =
    let k = length bytes / 8 in
    let e : 8 * length bytes ≡ 64 * k + 8 * (length bytes % 8) = omega arith in
    let f : 8 * (k * 8) ≡ 0 + 64 * k = omega arith in
    let words = bits_of_words k bytes in
    let rest = bits_after bytes (k * 8) (8 * (length bytes % 8)) in
    let cut = unset-split (has_bit bytes) 0 (64 * k) (8 * (length bytes % 8)) in
    omega (arith, words, rest, cut, ap (unset_along (has_bit bytes) 0) e, ap (λ a. unset_along (has_bit bytes) a (8 * (length bytes % 8))) f)
