-- Bits that aren't set, counted byte by byte.
use Rattle.std.proofs.Common.{arith, zero, suc, refl, ◌≡◌, ℕ, ◌+◌, ◌-◌, ◌*◌, ◌/◌, ◌%◌, ◌<◌, ◌≤◌, List, Bool, true, false, length, take, drop, map, get_or, nat_eq, not, cond, ◌⊎◌, inl, inr, sym, ap, ap₂, subst, ◌∙◌}
use Rattle.std.specs.Prelude.{slice_index}
use Rattle.std.specs.List.{count_by, range_with_len}
use Rattle.std.specs.Int.{bit_at, w8, count_zeros}
use Rattle.std.proofs.lemmas.Bool.{eqb-true}
use Rattle.std.proofs.lemmas.List.{get_or-take, get_or-drop, length-drop}
use Rattle.std.proofs.lemmas.List.Sums.{sum_by-cons, count_by_more_yes, count_by_more_no}
use Rattle.lower.specs.Bits.{has_bit}
use Rattle.lower.proofs.BitLists.{part as neighbours}
use Rattle.lower_flat_arrays.specs.Validities.{part, unset_along}

-- the bits of a byte
abbrev byte_bit : ℕ → ℕ → Bool
byte_bit b k = nat_eq (bit_at b k) 1

abbrev agrees : ℕ → Bool
agrees b = nat_eq (unset_along (byte_bit b) 0 8) (count_zeros w8 b)

abbrev all_below : (ℕ → Bool) → ℕ → Bool
all_below p zero = true
all_below p (suc n) = cond (p n) (all_below p n) false

-- each byte has as many bits that aren't set as are counted
computed : all_below agrees 256 ≡ true
unfolding lib.Count.ones
computed = refl

left : (a b : Bool) → cond a b false ≡ true → a ≡ true
left true b h = refl
left false b h = h

right : (a b : Bool) → cond a b false ≡ true → b ≡ true
right true b h = h
right false b h = search (h)

same_or_below : (k n : ℕ) → k < suc n → (k ≡ n) ⊎ (k < n)
same_or_below zero zero h = inl refl
same_or_below zero (suc n) h = inr (omega arith)
same_or_below (suc k) zero h = let no : ⊥ = omega (arith, h) in absurd no
same_or_below (suc k) (suc n) h = elim (same_or_below k n (omega (arith, h))) [ inl e ↦ inl (ap suc e) | inr l ↦ inr (omega (arith, l)) ]

each_below : (p : ℕ → Bool) (n : ℕ) → all_below p n ≡ true → (k : ℕ) → k < n → p k ≡ true
each_below p zero h k l = let no : ⊥ = omega (arith, l) in absurd no
each_below p (suc n) h k l =
    elim (same_or_below k n l) [
      | inl e ↦ ap p e ∙ left (p n) (all_below p n) h
      | inr b ↦ each_below p n (right (p n) (all_below p n) h) k b
    ]

byte_zeros : (b : ℕ) → b < 256 → unset_along (byte_bit b) 0 8 ≡ count_zeros w8 b
byte_zeros b h = eqb-true (unset_along (byte_bit b) 0 8) (count_zeros w8 b) (each_below agrees 256 computed b h)

unset_step : (f : ℕ → Bool) (a n : ℕ) → unset_along f a (suc n) ≡ cond (not (f a)) 1 0 + unset_along f (a + 1) n
unset_step f a n = sum_by-cons (λ bit. cond (not bit) 1 0) (f a) (map f (range_with_len (a + 1) n))

-- neighbouring bits
pub unset-split : (f : ℕ → Bool) (a m n : ℕ) → unset_along f a (m + n) ≡ unset_along f a m + unset_along f (a + m) n
unset-split f a zero n =
    let e : 0 + n ≡ n = omega arith in
    let d : a ≡ a + 0 = omega arith in
    let same : unset_along f a (0 + n) ≡ unset_along f (a + 0) n = ap (unset_along f a) e ∙ ap (λ b. unset_along f b n) d in
    let none : unset_along f a 0 ≡ 0 = refl in
    omega (arith, same, none)
unset-split f a (suc m) n =
    let e : suc m + n ≡ suc (m + n) = omega arith in
    let d : a + 1 + m ≡ a + suc m = omega arith in
    let whole = unset_step f a (m + n) in
    let first = unset_step f a m in
    let rest = unset-split f (a + 1) m n in
    let last : unset_along f (a + 1 + m) n ≡ unset_along f (a + suc m) n = ap (λ b. unset_along f b n) d in
    ap (unset_along f a) e ∙ omega (arith, whole, first, rest, last)

-- Two functions that agree.
unset-same : (f g : ℕ → Bool) (a b n : ℕ) → ((k : ℕ) → k < n → f (a + k) ≡ g (b + k)) → unset_along f a n ≡ unset_along g b n
unset-same f g a b zero h = refl
unset-same f g a b (suc n) h =
    let first : f a ≡ g b = ap f (omega arith) ∙ h 0 (omega arith) ∙ ap g (omega arith) in
    let rest = unset-same f g (a + 1) (b + 1) n (λ k below. ap f (omega arith) ∙ h (suc k) (omega (arith, below)) ∙ ap g (omega arith)) in
    unset_step f a n ∙ ap₂ (λ x m. cond (not x) 1 0 + m) first rest ∙ sym (unset_step g b n)

-- the bits of byte i
one_byte : (bytes : List ℕ) (i : ℕ) → unset_along (has_bit bytes) (0 + 8 * i) 8 ≡ unset_along (byte_bit (slice_index bytes i)) 0 8
one_byte bytes i =
    unset-same (has_bit bytes) (byte_bit (slice_index bytes i)) (0 + 8 * i) 0 8 (λ k below.
    let place : (0 + 8 * i + k) / 8 ≡ i = omega (arith, below) in
    let bit : (0 + 8 * i + k) % 8 ≡ 0 + k = omega (arith, below) in
    ap₂ (λ j m. nat_eq (bit_at (slice_index bytes j) m) 1) place bit)

pub one_more : (bytes : List ℕ) (i : ℕ) → slice_index bytes i < 256 → unset_along (has_bit bytes) 0 (8 * (i + 1)) ≡ unset_along (has_bit bytes) 0 (8 * i) + count_zeros w8 (slice_index bytes i)
one_more bytes i small =
    let e : 8 * (i + 1) ≡ 8 * i + 8 = omega arith in
    ap (unset_along (has_bit bytes) 0) e
    ∙ unset-split (has_bit bytes) 0 (8 * i) 8
    ∙ ap (λ m. unset_along (has_bit bytes) 0 (8 * i) + m) (one_byte bytes i ∙ byte_zeros (slice_index bytes i) small)

-- the bits from byte o on
pub bits_after : (bytes : List ℕ) (o n : ℕ) → unset_along (has_bit (drop o bytes)) 0 n ≡ unset_along (has_bit bytes) (8 * o) n
bits_after bytes o n =
    unset-same (has_bit (drop o bytes)) (has_bit bytes) 0 (8 * o) n (λ j below.
    let there : o + (0 + j) / 8 ≡ (8 * o + j) / 8 = omega arith in
    let byte : slice_index (drop o bytes) ((0 + j) / 8) ≡ slice_index bytes ((8 * o + j) / 8) = get_or-drop o bytes ((0 + j) / 8) 0 ∙ ap (slice_index bytes) there in
    let bit : (0 + j) % 8 ≡ (8 * o + j) % 8 = omega arith in
    ap₂ (λ b m. nat_eq (bit_at b m) 1) byte bit)

-- the bits of the first k bytes
pub bits_of_first : (bytes : List ℕ) (k : ℕ) → unset_along (has_bit (take k bytes)) 0 (8 * k) ≡ unset_along (has_bit bytes) 0 (8 * k)
bits_of_first bytes k =
    unset-same (has_bit (take k bytes)) (has_bit bytes) 0 0 (8 * k) (λ j below.
    ap (λ b. nat_eq (bit_at b ((0 + j) % 8)) 1) (get_or-take k bytes ((0 + j) / 8) 0 (omega (arith, below))))

-- the bits of the k bytes after the first
inner_bits : (bytes : List ℕ) (k : ℕ) → unset_along (has_bit (part 1 k bytes)) 0 (8 * k) ≡ unset_along (has_bit bytes) 8 (8 * k)
inner_bits bytes k = bits_of_first (drop 1 bytes) k ∙ bits_after bytes 1 (8 * k)

-- the bits of some neighbouring bits
unset-part : (f : ℕ → Bool) (a o n m : ℕ) → o + n ≤ m → count_by (λ bit. not bit) (part o n (map f (range_with_len a m))) ≡ unset_along f (a + o) n
unset-part f a o n m h = ap (count_by (λ bit. not bit)) (neighbours f a o n m h)

-- h bits in the first byte, k whole bytes, and the rest
unset_in_parts : (bytes : List ℕ) (start len h k : ℕ) → start + h ≡ 8 → h + 8 * k ≤ len
    → unset_along (has_bit bytes) start len
    ≡ count_by (λ bit. not bit) (part 0 h (map (has_bit bytes) (range_with_len start len)))
    + unset_along (has_bit (part 1 k bytes)) 0 (8 * k)
    + count_by (λ bit. not bit) (part (h + 8 * k) (len - (h + 8 * k)) (map (has_bit bytes) (range_with_len start len)))
unset_in_parts bytes start len h k whole fits =
    let f = has_bit bytes in
    let rest = len - (h + 8 * k) in
    let all : len ≡ h + (8 * k + rest) = omega (arith, fits) in
    let cut : unset_along f start len ≡ unset_along f start (h + (8 * k + rest)) = ap (unset_along f start) all in
    let one = unset-split f start h (8 * k + rest) in
    let two = unset-split f (start + h) (8 * k) rest in
    let middle : unset_along (has_bit (part 1 k bytes)) 0 (8 * k) ≡ unset_along f (start + h) (8 * k) = inner_bits bytes k ∙ ap (λ a. unset_along f a (8 * k)) (sym whole) in
    let first : count_by (λ bit. not bit) (part 0 h (map f (range_with_len start len))) ≡ unset_along f start h =
    unset-part f start 0 h len (omega (arith, fits)) ∙ (let e : start + 0 ≡ start = omega arith in ap (λ a. unset_along f a h) e)
    in
    let last : count_by (λ bit. not bit) (part (h + 8 * k) rest (map f (range_with_len start len))) ≡ unset_along f (start + h + 8 * k) rest =
    unset-part f start (h + 8 * k) rest len (omega (arith, fits)) ∙ (let e : start + (h + 8 * k) ≡ start + h + 8 * k = omega arith in ap (λ a. unset_along f a rest) e)
    in
    omega (arith, cut, one, two, middle, first, last)

-- the same of bits that are those of the bytes
pub unset_of_parts : (bits : List Bool) (bytes : List ℕ) (start len h k : ℕ) → map (has_bit bytes) (range_with_len start len) ≡ bits → start + h ≡ 8 → h + 8 * k ≤ len
    → count_by (λ bit. not bit) (part 0 h bits) + unset_along (has_bit (part 1 k bytes)) 0 (8 * k) + count_by (λ bit. not bit) (part (h + 8 * k) (len - (h + 8 * k)) bits)
    ≡ count_by (λ bit. not bit) bits
unset_of_parts bits bytes start len h k e whole fits =
    subst (λ xs. count_by (λ bit. not bit) (part 0 h xs) + unset_along (has_bit (part 1 k bytes)) 0 (8 * k) + count_by (λ bit. not bit) (part (h + 8 * k) (len - (h + 8 * k)) xs) ≡ count_by (λ bit. not bit) xs) e
    (sym (unset_in_parts bytes start len h k whole fits))

-- one bit more
module _ (bits : List Bool) (from i : ℕ) (after : from ≤ i) (inside : i < length bits) where
  place : get_or (drop from bits) (i - from) false ≡ get_or bits i false
  place =
      let there : from + (i - from) ≡ i = omega (arith, after) in
      get_or-drop from bits (i - from) false ∙ ap (λ k. get_or bits k false) there

  room : i - from < length (drop from bits)
  room = let rest = length-drop from bits in omega (arith, rest, after, inside)

  longer : i + 1 - from ≡ i - from + 1
  longer = omega (arith, after)

  pub one_unset : get_or bits i false ≡ false → count_by (λ bit. not bit) (part from (i + 1 - from) bits) ≡ count_by (λ bit. not bit) (part from (i - from) bits) + 1
  one_unset h =
      ap (λ n. count_by (λ bit. not bit) (part from n bits)) longer
      ∙ count_by_more_yes (λ bit. not bit) (drop from bits) (i - from) false room (ap not (place ∙ h))

  pub one_set : get_or bits i false ≡ true → count_by (λ bit. not bit) (part from (i + 1 - from) bits) ≡ count_by (λ bit. not bit) (part from (i - from) bits)
  one_set h =
      ap (λ n. count_by (λ bit. not bit) (part from n bits)) longer
      ∙ count_by_more_no (λ bit. not bit) (drop from bits) (i - from) false room (ap not (place ∙ h))
