-- Lists of equal items.
use Rattle.std.proofs.Common.{arith, zero, suc, refl, ◌≡◌, ℕ, ℤ, pos, ◌+◌, ◌-◌, ◌/◌, ◌%◌, ◌<◌, List, [], ◌∷◌, ◌++◌, Bool, false, length, map, take, get_or, replicate, nat_eq, sym, ap, ap₂, ◌∙◌}
use Rattle.std.specs.Prelude.{slice_index}
use Rattle.std.specs.List.{range_with_len}
use Rattle.std.specs.Int.{bit_at}
use Rattle.std.proofs.lemmas.Int.{ints}
use Rattle.std.proofs.lemmas.List.{length-replicate, get_or-replicate}
use Rattle.std.proofs.lemmas.Nat.Bits.{bit_at-zero}
use Rattle.lower.specs.Bits.{has_bit}
use Rattle.lower.specs.Offsets.{AreOffsets, IsOffsets}
use Rattle.lower_flat_arrays.specs.Spans.{span_count}
use Rattle.lower_builders.proofs.OffsetPushes.{same_numbers}

-- the item at any index, or past the end
pub filled : {A : Type 0} (x : A) (n i : ℕ) → get_or (replicate n x) i x ≡ x
filled x zero i = refl
filled x (suc n) zero = refl
filled x (suc n) (suc i) = filled x n i

pub map_filled : {A B : Type 0} (f : A → B) (x : A) (n : ℕ) → map f (replicate n x) ≡ replicate n (f x)
map_filled f x zero = refl
map_filled f x (suc n) = ap (λ ys. f x ∷ ys) (map_filled f x n)

-- an empty list, filled up
pub fills : {A : Type 0} (xs ys : List A) (n m : ℕ) (x : A) → ys ≡ take n xs ++ replicate (n - m) x → xs ≡ [] → m ≡ 0 → ys ≡ replicate n x
fills xs ys n m x is none zero_is =
    is ∙ ap₂ (λ zs k. take n zs ++ replicate (n - k) x) none zero_is ∙ whole n
  where
    whole : (k : ℕ) → take k [] ++ replicate (k - 0) x ≡ replicate k x
    whole zero = refl
    whole (suc k) = let e : suc k - 0 ≡ suc k = omega arith in ap (λ m. take (suc k) [] ++ replicate m x) e

-- ---- bits
each_unset : (f : ℕ → Bool) (a n : ℕ) → ((k : ℕ) → f k ≡ false) → map f (range_with_len a n) ≡ replicate n false
each_unset f a zero h = refl
each_unset f a (suc n) h = ap₂ (λ x xs. x ∷ xs) (h a) (each_unset f (a + 1) n h)

pub unset_run : (bytes : List ℕ) (n len : ℕ) → bytes ≡ replicate n 0 → map (has_bit bytes) (range_with_len 0 len) ≡ replicate len false
unset_run bytes n len is =
    ap (λ xs. map (has_bit xs) (range_with_len 0 len)) is
    ∙ each_unset (has_bit (replicate n 0)) 0 len (λ k.
    ap (λ x. nat_eq (bit_at x (k % 8)) 1) (filled 0 n (k / 8)) ∙ ap (λ x. nat_eq x 1) (bit_at-zero (k % 8)))

pub run_count : {A : Type 0} (xs : List A) (x : A) (n : ℕ) → xs ≡ replicate n x → length xs ≡ n
run_count xs x n is = ap length is ∙ length-replicate n x

pub ruleset bit_runs = (unset_run, run_count)

-- ---- offsets
module _ {O : Type 0} (integer : O → ℤ) (z : O) (zero_is : integer z ≡ pos 0) (n : ℕ) where
  number : (k : ℕ) (d : O) → k < n → integer (get_or (replicate n z) k d) ≡ pos 0
  number k d h = ap integer (get_or-replicate n k z d h) ∙ zero_is

  pub are_offsets : 0 < n → AreOffsets integer (replicate n z)
  are_offsets some = record {
    some = let m = length-replicate n z in omega (arith, m, some);
    start = λ d. let this = number 0 d some in omega (arith, ints, this);
    rising = λ k d below.
        let m = length-replicate n z in
        let this = number k d (omega (arith, m, below)) in
        let next = number (k + 1) d (omega (arith, m, below)) in
        omega (arith, ints, this, next);
  }

  -- the indices of such offsets
  pub places_are : (os : List ℕ) (xs : List O) → map pos os ≡ map integer xs → xs ≡ replicate n z → os ≡ replicate n 0
  places_are os xs e is =
      same_numbers os (replicate n 0)
      (e ∙ ap (map integer) is ∙ map_filled integer z n ∙ ap (replicate n) zero_is ∙ sym (map_filled pos 0 n))

-- offsets of n slots without values
pub zero_offsets : (n : ℕ) → IsOffsets (replicate (n + 1) 0)
zero_offsets n = record {
  some = let m = length-replicate {A = ℕ} (n + 1) 0 in omega (arith, m);
  rising = λ k below.
      let this = filled {A = ℕ} 0 (n + 1) k in
      let next = filled {A = ℕ} 0 (n + 1) (k + 1) in
      omega (arith, this, next);
}

pub zero_count : (n : ℕ) → span_count (replicate (n + 1) 0) ≡ n
zero_count n = let m = length-replicate {A = ℕ} (n + 1) 0 in omega (arith, m)

pub zero_end : (n : ℕ) → slice_index (replicate (n + 1) 0) (length {A = ℕ} (replicate (n + 1) 0) - 1) ≡ 0
zero_end n = filled 0 (n + 1) (length {A = ℕ} (replicate (n + 1) 0) - 1)
