-- One more offset after the last.
use Rattle.std.proofs.Common.{arith, refl, inl, inr, ◌≡◌, ◌⊎◌, ℕ, ℤ, pos, ◌+◌, ◌-◌, ◌<◌, ◌≤◌, List, [], ◌∷◌, ◌++◌, length, take, map, get_or, sym, ap, ap₂, subst, ◌∙◌}
use Rattle.std.specs.Prelude.{◌≤ℤ◌, slice_index}
use Rattle.std.proofs.lemmas.Int.{ints}
use Rattle.std.proofs.lemmas.Bool.{cases_lt}
use Rattle.std.proofs.lemmas.List.{length-map, length_push, map_push, get_or-map, get_or_push, get_or_append_left, get_or_default}
use Rattle.lower.specs.Offsets.{AreOffsets, IsOffsets, place, places}
use Rattle.lower.proofs.OffsetPlaces.{KeepsOffsets, keeps_part}
use Rattle.lower_builders.specs.declared.error.BuildError.{BuildError}
use Rattle.lower_builders.specs.declared.error.BuildError.TheVariants.{Memory, OffsetOverflow, KeyOverflow, Length}
use Rattle.lower_builders.specs.Growing.{last_end_of, CantReach}

-- offsets with one more that isn't below the last
pub IsOffsets-push : (os : List ℕ) (e : ℕ) → IsOffsets os → last_end_of os ≤ e → IsOffsets (os ++ e ∷ [])
IsOffsets-push os e is le = record {
  some = omega (arith, length_push os e);
  rising = λ k below. by k below (cases_lt (k + 1) (length os));
}
  where
    some : 0 < length os
    some = is.some

    here : (k : ℕ) → k < length os → get_or (os ++ e ∷ []) k 0 ≡ get_or os k 0
    here k h = get_or_append_left os (e ∷ []) 0 k h

    by : (k : ℕ) → k + 1 < length (os ++ e ∷ []) → (k + 1 < length os) ⊎ (length os ≤ k + 1) → get_or (os ++ e ∷ []) k 0 ≤ get_or (os ++ e ∷ []) (k + 1) 0
    by k below (inl h) =
        let this = here k (omega (arith, h)) in
        let next = here (k + 1) h in
        let step = is.rising k h in
        omega (arith, this, next, step)
    by k below (inr h) =
        let count = length_push os e in
        let last : length os ≡ k + 1 = omega (arith, h, below, count) in
        let this = here k (omega (arith, last)) in
        let next = get_or_push os e 0 (k + 1) last in
        let end : get_or os (length os - 1) 0 ≡ get_or os k 0 = ap (λ i. get_or os i 0) (omega (arith, last)) in
        omega (arith, this, next, end, le)

module _ {O : Type 0} (integer : O → ℤ) where
  pub count : (os : List O) → length (places integer os) ≡ length os
  count os = length-map os (λ o. place (integer o))

  -- the integer of each offset is its index
  pub number_at : (os : List O) (i : ℕ) (o : O) → i < length os → o ≡ get_or os i o → KeepsOffsets integer os → integer o ≡ pos (slice_index (places integer os) i)
  number_at os i o h at is =
      let this : get_or (map integer os) i (pos 0) ≡ integer (get_or os i o) = get_or-map integer os i o (pos 0) h in
      let that : get_or (map pos (places integer os)) i (pos 0) ≡ pos (get_or (places integer os) i 0) = get_or-map pos (places integer os) i 0 (pos 0) (omega (arith, count os, h)) in
      ap integer at ∙ sym this ∙ ap (λ zs. get_or zs i (pos 0)) (sym is.0) ∙ that

  pub places-push : (os : List O) (o : O) (e : ℕ) → integer o ≡ pos e → places integer (os ++ o ∷ []) ≡ places integer os ++ e ∷ []
  places-push os o e is = map_push (λ x. place (integer x)) os o ∙ ap (λ z. places integer os ++ place z ∷ []) is

  pub keeps_push : (os : List O) (o : O) (e : ℕ) → KeepsOffsets integer os → integer o ≡ pos e → last_end_of (places integer os) ≤ e → KeepsOffsets integer (os ++ o ∷ [])
  keeps_push os o e is at le = (
    ap (map pos) (places-push os o e at)
        ∙ map_push pos (places integer os) e
        ∙ ap₂ (λ zs z. zs ++ z ∷ []) is.0 (sym at)
        ∙ sym (map_push integer os o),
    subst IsOffsets (sym (places-push os o e at)) (IsOffsets-push (places integer os) e is.1 le),
  )

  pub keeps_first : (o : O) → integer o ≡ pos 0 → KeepsOffsets integer (o ∷ [])
  keeps_first o at =
      let first : places integer (o ∷ []) ≡ 0 ∷ [] = ap (λ z. place z ∷ []) at in (
        ap (map pos) first ∙ ap (λ z. z ∷ []) (sym at),
        record {
          some = omega arith;
          rising = λ k below. let no : ⊥ = omega (arith, below) in absurd no;
        },
      )

  -- offsets without the last
  pub keeps_front : (os : List O) (n : ℕ) → n + 1 ≡ length os → 0 < n → KeepsOffsets integer os → KeepsOffsets integer (take n os)
  keeps_front os n whole some is =
      let e : n - 1 + 1 ≡ n = omega (arith, some) in
      subst (λ k. KeepsOffsets integer (take k os)) e (keeps_part integer os 0 (n - 1) (omega (arith, count os, whole, some)) is)

  pub offsets_from_keeps : (os : List O) → KeepsOffsets integer os → AreOffsets integer os
  offsets_from_keeps os is = record {
    some = let some = is.1.some in omega (arith, count os, some);
    start = λ d.
        let some = is.1.some in
        let first = number_at os 0 (get_or os 0 d) (omega (arith, count os, some)) (get_or_default os 0 d (get_or os 0 d) (omega (arith, count os, some))) is in
        subst (λ z. pos 0 ≤ℤ z) (sym first) (omega (arith, ints));
    rising = λ k d below.
        let this = number_at os k (get_or os k d) (omega (arith, below)) (get_or_default os k d (get_or os k d) (omega (arith, below))) is in
        let next = number_at os (k + 1) (get_or os (k + 1) d) below (get_or_default os (k + 1) d (get_or os (k + 1) d) below) is in
        let step = is.1.rising k (omega (arith, count os, below)) in
        omega (arith, ints, this, next, step);
  }

-- numbers by their integers
place-pos : (xs : List ℕ) → map place (map pos xs) ≡ xs
place-pos [] = refl
place-pos (x ∷ xs) = ap (λ ys. x ∷ ys) (place-pos xs)

pub same_numbers : (xs ys : List ℕ) → map pos xs ≡ map pos ys → xs ≡ ys
same_numbers xs ys e = sym (place-pos xs) ∙ ap (map place) e ∙ place-pos ys

-- more offsets are missed for the same reason
pub misses_more : (limit a b : ℕ) (e : BuildError) → a ≤ b → CantReach limit a e → CantReach limit b e
misses_more limit a b Memory le misses = tt
misses_more limit a b OffsetOverflow le misses = omega (arith, le, misses)
misses_more limit a b KeyOverflow le misses = misses
misses_more limit a b Length le misses = misses
