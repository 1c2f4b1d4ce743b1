-- Offsets as indices.
use Rattle.std.proofs.Common.{arith, zero, suc, ◌≡◌, ℕ, ℤ, pos, negsuc, ◌+◌, ◌-◌, ◌<◌, ◌≤◌, List, [], ◌∷◌, length, take, drop, map, get_or, refl, sym, ap, ap₂, subst, ◌∙◌}
use Rattle.std.specs.Prelude.{◌≤ℤ◌}
use Rattle.std.proofs.lemmas.Int.{ints}
use Rattle.std.proofs.lemmas.List.{get_or-map, get_or-take, get_or-drop, length-take-le, length-drop, length-map, take-map, drop-map}
use Rattle.lower.specs.Offsets.{AreOffsets, IsOffsets, place, places}

pos-place : (z : ℤ) → pos 0 ≤ℤ z → pos (place z) ≡ z
pos-place (pos n) h = refl
pos-place (negsuc n) h = absurd (omega (arith, ints, h))

-- each offset is at least the first
from_first : {O : Type 0} (integer : O → ℤ) (offsets : List O) → AreOffsets integer offsets → (k : ℕ) (d : O) → k < length offsets → pos 0 ≤ℤ integer (get_or offsets k d)
from_first integer offsets h zero d below = h.start d
from_first integer offsets h (suc k) d below =
    let next : suc k ≡ k + 1 = omega arith in
    let before = from_first integer offsets h k d (omega (arith, below)) in
    let step = h.rising k d (omega (arith, below)) in
    rw next (omega (arith, ints, before, step))

pos_places_by : {O : Type 0} (integer : O → ℤ) (offsets : List O) → ((k : ℕ) (d : O) → k < length offsets → pos 0 ≤ℤ integer (get_or offsets k d)) → map pos (places integer offsets) ≡ map integer offsets
pos_places_by integer [] h = refl
pos_places_by integer (o ∷ os) h =
    ap₂ (λ z zs. z ∷ zs) (pos-place (integer o) (h 0 o (omega arith))) (pos_places_by integer os (λ k d below. h (suc k) d (omega (arith, below))))

-- The indices are the numbers.
pub pos_places : {O : Type 0} (integer : O → ℤ) (offsets : List O) → AreOffsets integer offsets → map pos (places integer offsets) ≡ map integer offsets
pos_places integer offsets h = pos_places_by integer offsets (from_first integer offsets h)

place_le : (a b : ℤ) → pos 0 ≤ℤ a → a ≤ℤ b → place a ≤ place b
place_le (pos m) (pos n) low h = omega (arith, ints, h)
place_le (pos m) (negsuc n) low h = absurd (omega (arith, ints, h))
place_le (negsuc m) b low h = absurd (omega (arith, ints, low))

-- The indices of offsets are offsets.
pub IsOffsets-places : {O : Type 0} (integer : O → ℤ) (offsets : List O) → AreOffsets integer offsets → IsOffsets (places integer offsets)
IsOffsets-places {O = O} integer offsets h =
    let count : length (places integer offsets) ≡ length offsets = length-map offsets (λ o. place (integer o)) in
    record {
      some = omega (arith, count, h.some);
      rising = λ k below. at k (omega (arith, count, below));
    }
  where
    at : (k : ℕ) → k + 1 < length offsets → get_or (places integer offsets) k 0 ≤ get_or (places integer offsets) (k + 1) 0
    at k below = step offsets refl
      where
        step : (os : List O) → offsets ≡ os → get_or (places integer offsets) k 0 ≤ get_or (places integer offsets) (k + 1) 0
        step [] e = absurd (let none : length offsets ≡ 0 = ap length e in omega (arith, none, below))
        step (d ∷ os) e =
            let this = get_or-map (λ o. place (integer o)) offsets k d 0 (omega (arith, below)) in
            let next = get_or-map (λ o. place (integer o)) offsets (k + 1) d 0 below in
            let le = place_le (integer (get_or offsets k d)) (integer (get_or offsets (k + 1) d)) (from_first integer offsets h k d (omega (arith, below))) (h.rising k d below) in
            omega (arith, this, next, le)

-- a part of offsets with one at least
pub IsOffsets-part : (offsets : List ℕ) (from len : ℕ) → from + len < length offsets → IsOffsets offsets → IsOffsets (take (len + 1) (drop from offsets))
IsOffsets-part offsets from len h is =
    let rest : length (drop from offsets) ≡ length offsets - from = length-drop from offsets in
    let count : length (take (len + 1) (drop from offsets)) ≡ len + 1 = length-take-le (len + 1) (drop from offsets) (omega (arith, rest, h)) in
    record {
      some = omega (arith, count);
      rising = λ k below.
          let within : k + 1 < len + 1 = omega (arith, count, below) in
          let this : get_or (take (len + 1) (drop from offsets)) k 0 ≡ get_or offsets (from + k) 0 = get_or-take (len + 1) (drop from offsets) k 0 (omega (arith, within)) ∙ get_or-drop from offsets k 0 in
          let next : get_or (take (len + 1) (drop from offsets)) (k + 1) 0 ≡ get_or offsets (from + k + 1) 0 =
          get_or-take (len + 1) (drop from offsets) (k + 1) 0 within ∙ get_or-drop from offsets (k + 1) 0 ∙ ap (λ i. get_or offsets i 0) (omega arith)
          in
          let le = is.rising (from + k) (omega (arith, within, h)) in
          omega (arith, this, next, le);
    }

-- The rule of a buffer of offsets: their indices are their numbers, and these are offsets.
abbrev pub KeepsOffsets : {O : Type 0} → (O → ℤ) → List O → Type 0
KeepsOffsets integer offsets = (map pos (places integer offsets) ≡ map integer offsets) × IsOffsets (places integer offsets)

pub keeps : {O : Type 0} (integer : O → ℤ) (offsets : List O) → AreOffsets integer offsets → KeepsOffsets integer offsets
keeps integer offsets h = (pos_places integer offsets h, IsOffsets-places integer offsets h)

pub places-part : {O : Type 0} (integer : O → ℤ) (offsets : List O) (from n : ℕ) → places integer (take n (drop from offsets)) ≡ take n (drop from (places integer offsets))
places-part integer offsets from n =
    sym (take-map (λ o. place (integer o)) n (drop from offsets)) ∙ ap (take n) (sym (drop-map (λ o. place (integer o)) from offsets))

-- a part of it keeps the rule
pub keeps_part : {O : Type 0} (integer : O → ℤ) (offsets : List O) (from len : ℕ) → from + len < length (places integer offsets) → KeepsOffsets integer offsets → KeepsOffsets integer (take (len + 1) (drop from offsets))
keeps_part integer offsets from len h is =
    let n = len + 1 in
    let numbers : map pos (places integer (take n (drop from offsets))) ≡ map integer (take n (drop from offsets)) =
    ap (map pos) (places-part integer offsets from n)
    ∙ sym (take-map pos n (drop from (places integer offsets)))
    ∙ ap (take n) (sym (drop-map pos from (places integer offsets)))
    ∙ ap (λ zs. take n (drop from zs)) is.0
    ∙ ap (take n) (drop-map integer from offsets)
    ∙ take-map integer n (drop from offsets)
    in
    (numbers, subst IsOffsets (sym (places-part integer offsets from n)) (IsOffsets-part (places integer offsets) from len h is.1))

-- no offset is negative
pub keeps_at : {O : Type 0} (integer : O → ℤ) (offsets : List O) (i : ℕ) (o : O) → i < length (places integer offsets) → o ≡ get_or offsets i o → KeepsOffsets integer offsets → pos 0 ≤ℤ integer o
keeps_at integer offsets i o h at is =
    let count : length (places integer offsets) ≡ length offsets = length-map offsets (λ x. place (integer x)) in
    let this : get_or (map integer offsets) i (pos 0) ≡ integer (get_or offsets i o) = get_or-map integer offsets i o (pos 0) (omega (arith, count, h)) in
    let that : get_or (map pos (places integer offsets)) i (pos 0) ≡ pos (get_or (places integer offsets) i 0) = get_or-map pos (places integer offsets) i 0 (pos 0) h in
    let same : integer o ≡ pos (get_or (places integer offsets) i 0) = ap integer at ∙ sym this ∙ ap (λ zs. get_or zs i (pos 0)) (sym is.0) ∙ that in
    omega (arith, ints, same)
