-- Floats of 16 bits as floats of 32.
use Rattle.std.proofs.Common.{◌≡◌, ℕ, ◌+◌, ◌*◌, ◌^◌, ◌<◌, Bool, false, cond, refl, sym, ap, ◌∙◌, subst, arith}
use native.Mathlib.Nat.{mul_assoc, mul_comm, mul-one, mul-pos, zero-lt-suc, lt_of_lt_of_le}
use borrow.Author.Tests.{ne_eqb}
use lib.IntN.{pos}
use lib.Pow.{pow-add, pow_pos, shl_lt, pow_mono}
use lib.Ieee.{Float, nan, inf, fin, binary32, up, down, unlike, round, div, of_int, of_bits}
use lib.Ieee.Exact.{HasValue, round_exact}
use lib.Ieee.Fits.{down_pos}
use lib.Ieee.Scale.{round_same}
use Rattle.lower.specs.Halves.{half_size}

-- A number of at most 24 digits and some zeros is a float of 32 bits.
whole : (q j : ℕ) → q < 2 ^ 11 → j < 30 → HasValue (round binary32 false (q * 2 ^ j) 1) false (q * 2 ^ j) 1
whole q j small shift =
    round_exact binary32 false (q * 2 ^ j) 1 q (j + 149) (zero-lt-suc 0) (lt_of_lt_of_le small (pow_mono {i = 11} {j = 24} (omega arith)))
    (lt_of_lt_of_le (shl_lt 11 (j + 149) small) (pow_mono {i = 11 + (j + 149)} {j = 149 + 128} (omega (arith, shift))))
    (mul_assoc q (2 ^ j) (2 ^ 149) ∙ ap (λ (x : ℕ). q * x) (sym (pow-add 2 j 149)) ∙ sym (mul-one (q * 2 ^ (j + 149))))

-- A number that is exact is divided by 2 ^ 24 as a fraction.
scaled : (x : Float) (n : ℕ) → HasValue x false n 1 → div binary32 x (fin false 1 (pos 24)) ≡ round binary32 false n (2 ^ 24)
unfolding div
scaled nan n h = absurd h
scaled (inf t) n h = absurd h
scaled (fin t m e) n h =
    ap (λ (s : Bool). round binary32 (unlike s false) (m * up e * 1) (1 * 2 ^ 24 * down e)) h.0
    ∙ round_same binary32 false (m * up e * 1) (1 * 2 ^ 24 * down e) n (2 ^ 24) (mul-pos (pow_pos 24) (down_pos e)) (pow_pos 24)
    (ap (λ (v : ℕ). v * 2 ^ 24) h.1 ∙ mul_assoc n (down e) (2 ^ 24) ∙ ap (λ (v : ℕ). n * v) (mul_comm (down e) (2 ^ 24)))

scaled_is : (q j : ℕ) → q < 2 ^ 11 → j < 30 → div binary32 (of_int binary32 (pos (q * 2 ^ j))) (fin false 1 (pos 24)) ≡ round binary32 false (q * 2 ^ j) (2 ^ 24)
unfolding of_int
scaled_is q j small shift = scaled (round binary32 false (q * 2 ^ j) 1) (q * 2 ^ j) (whole q j small shift)

-- The literal of 2 ^ 24, by its bits.
literal : of_bits binary32 0x4b80_0000 ≡ fin false 1 (pos 24)
unfolding of_bits
literal = refl

pub quotient : (x : Float) (n q j : ℕ) → x ≡ of_int binary32 (pos n) → n ≡ q * 2 ^ j → q < 2 ^ 11 → j < 30
    → div binary32 x (of_bits binary32 0x4b80_0000) ≡ round binary32 false (q * 2 ^ j) (2 ^ 24)
quotient x n q j is e small shift =
    ap (λ (y : Float). div binary32 y (of_bits binary32 0x4b80_0000)) (is ∙ ap (λ (m : ℕ). of_int binary32 (pos m)) e)
    ∙ ap (λ (y : Float). div binary32 (of_int binary32 (pos (q * 2 ^ j))) y) literal
    ∙ scaled_is q j small shift

infinity : of_bits binary32 0x7f80_0000 ≡ inf false
unfolding of_bits
infinity = refl

not_a_number : of_bits binary32 0x7fc0_0000 ≡ nan
unfolding of_bits
not_a_number = refl

pub infinite : (e f : ℕ) → e ≡ 31 → f ≡ 0 → of_bits binary32 0x7f80_0000 ≡ half_size e f
infinite e f p q =
    infinity ∙ subst (λ (x : ℕ). inf false ≡ half_size x f) (sym p) (subst (λ (y : ℕ). inf false ≡ half_size 31 y) (sym q) refl)

pub undefined : (e f : ℕ) → e ≡ 31 → (f ≡ 0 → ⊥) → of_bits binary32 0x7fc0_0000 ≡ half_size e f
undefined e f p q =
    not_a_number ∙ subst (λ (x : ℕ). nan ≡ half_size x f) (sym p) (ap (λ (b : Bool). cond b (inf false) nan) (sym (ne_eqb f 0 q)))
