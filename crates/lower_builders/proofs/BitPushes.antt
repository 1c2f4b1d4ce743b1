-- One more bit after the last.
use Rattle.std.proofs.Common.{arith, take, replicate, true, zero, suc, refl, ◌≡◌, ◌≢◌, ℕ, ◌+◌, ◌-◌, ◌*◌, ◌/◌, ◌%◌, ◌≤◌, ◌<◌, List, [], ◌∷◌, ◌++◌, Bool, length, map, get_or, set, nat_eq, sym, ◌∙◌, ap, ap₂}
use Rattle.std.specs.List.{range_with_len}
use Rattle.std.specs.Int.{bit_at}
use Rattle.std.proofs.Common.{inl, inr}
use Rattle.std.proofs.lemmas.Bool.{cases_eq}
use Rattle.std.proofs.lemmas.List.{get_or_append_left, get_or_push, get_or-set_same, get_or-set_other, get_or-take, get_or-replicate}
use Rattle.std.proofs.lemmas.List.FromFn.{map-range_with_len_more, take-map-range_with_len}
use Rattle.std.proofs.lemmas.Nat.Bits.{bit_at_ones}
use Rattle.std.proofs.Math.Nat.{div-add-mod}
use Rattle.lower.specs.Bits.{has_bit}
use Rattle.lower.proofs.BitLists.{many}

-- two functions that agree along a range
pub same_along : {X : Type 0} (f g : ℕ → X) (a n : ℕ) → ((k : ℕ) → k < a + n → f k ≡ g k) → map f (range_with_len a n) ≡ map g (range_with_len a n)
same_along f g a zero h = refl
same_along f g a (suc n) h =
    ap₂ (λ x xs. x ∷ xs) (h a (omega arith)) (same_along f g (a + 1) n (λ k below. h k (omega (arith, below))))

-- the bits before stay, and bit `len` is b
pushed : (bytes after : List ℕ) (len : ℕ) (b : Bool) → ((k : ℕ) → k < len → has_bit after k ≡ has_bit bytes k) → has_bit after len ≡ b
    → map (has_bit after) (range_with_len 0 (len + 1)) ≡ map (has_bit bytes) (range_with_len 0 len) ++ b ∷ []
pushed bytes after len b same there =
    map-range_with_len_more (has_bit after) 0 len len (omega arith)
    ∙ ap₂ (λ xs x. xs ++ x ∷ []) (same_along (has_bit after) (has_bit bytes) 0 len (λ k below. same k (omega (arith, below)))) there

-- bit `len` in a new byte
pub bit_in_new_byte : (bytes : List ℕ) (len y : ℕ) (b : Bool) → length bytes ≡ (len + 7) / 8 → length bytes ≤ len / 8 → nat_eq (bit_at y 0) 1 ≡ b
    → map (has_bit (bytes ++ y ∷ [])) (range_with_len 0 (len + 1)) ≡ map (has_bit bytes) (range_with_len 0 len) ++ b ∷ []
bit_in_new_byte bytes len y b count past bit =
    let at : len % 8 ≡ 0 = omega (arith, count, past) in
    pushed bytes (bytes ++ y ∷ []) len b
    (λ k below. ap (λ x. nat_eq (bit_at x (k % 8)) 1) (get_or_append_left bytes (y ∷ []) 0 (k / 8) (omega (arith, at, count, below))))
    (ap₂ (λ x i. nat_eq (bit_at x i) 1) (get_or_push bytes y 0 (len / 8) (omega (arith, at, count))) at ∙ bit)

-- bit `len` in the last byte
pub bit_in_last_byte : (bytes : List ℕ) (len y : ℕ) (b : Bool) → len / 8 < length bytes → nat_eq (bit_at y (len % 8)) 1 ≡ b
    → ((i : ℕ) → i < 8 → i ≢ len % 8 → bit_at y i ≡ bit_at (get_or bytes (len / 8) 0) i)
    → map (has_bit (set bytes (len / 8) y)) (range_with_len 0 (len + 1)) ≡ map (has_bit bytes) (range_with_len 0 len) ++ b ∷ []
bit_in_last_byte bytes len y b within bit others =
    pushed bytes (set bytes (len / 8) y) len b same (ap (λ x. nat_eq (bit_at x (len % 8)) 1) (get_or-set_same bytes (len / 8) y 0 within) ∙ bit)
  where
    same : (k : ℕ) → k < len → has_bit (set bytes (len / 8) y) k ≡ has_bit bytes k
    same k below = elim (cases_eq (k / 8) (len / 8)) [
      | inl e ↦
          let other : k % 8 ≢ len % 8 = λ f. omega (arith, e, f, below, div-add-mod k 8, div-add-mod len 8) in
          let small : k % 8 < 8 = omega arith in
          let byte : get_or (set bytes (len / 8) y) (k / 8) 0 ≡ y = ap (λ j. get_or (set bytes (len / 8) y) j 0) e ∙ get_or-set_same bytes (len / 8) y 0 within in
          let old : get_or bytes (len / 8) 0 ≡ get_or bytes (k / 8) 0 = ap (λ j. get_or bytes j 0) (sym e) in
          ap (λ x. nat_eq (bit_at x (k % 8)) 1) byte ∙ ap (λ x. nat_eq x 1) (others (k % 8) small other) ∙ ap (λ x. nat_eq (bit_at x (k % 8)) 1) old
      | inr apart ↦ ap (λ x. nat_eq (bit_at x (k % 8)) 1) (get_or-set_other bytes (len / 8) (k / 8) y 0 apart)
    ]

-- set bits
each_set : (f : ℕ → Bool) (a n : ℕ) → ((k : ℕ) → k < a + n → f k ≡ true) → map f (range_with_len a n) ≡ replicate n true
each_set f a zero h = refl
each_set f a (suc n) h =
    ap₂ (λ x xs. x ∷ xs) (h a (omega arith)) (each_set f (a + 1) n (λ k below. h k (omega (arith, below))))

pub set_bits : (n len : ℕ) → len ≤ 8 * n → map (has_bit (replicate n 255)) (range_with_len 0 len) ≡ replicate len true
set_bits n len h =
    each_set (has_bit (replicate n 255)) 0 len (λ k below.
    let byte : get_or (replicate n 255) (k / 8) 0 ≡ 255 = get_or-replicate n (k / 8) 255 0 (omega (arith, below, h)) in
    let small : k % 8 < 8 = omega arith in
    ap (λ x. nat_eq (bit_at x (k % 8)) 1) byte ∙ ap (λ x. nat_eq x 1) (bit_at_ones 8 (k % 8) small))

-- the first bits, in the first bytes
pub first_bits : (bytes : List ℕ) (n len m : ℕ) → len ≤ 8 * n → len ≤ m → map (has_bit (take n bytes)) (range_with_len 0 len) ≡ take len (map (has_bit bytes) (range_with_len 0 m))
first_bits bytes n len m h le =
    same_along (has_bit (take n bytes)) (has_bit bytes) 0 len (λ k below. ap (λ x. nat_eq (bit_at x (k % 8)) 1) (get_or-take n bytes (k / 8) 0 (omega (arith, below, h))))
    ∙ sym (take-map-range_with_len (has_bit bytes) 0 m len le)

pub ruleset bit_pushes = (bit_in_new_byte, bit_in_last_byte)

pub ruleset bit_runs = (set_bits, first_bits, many)
