-- One more slot of an array that is visited.
use Rattle.std.proofs.Common.{arith, zero, suc, refl, ◌≡◌, ℕ, ◌+◌, ◌<◌, ◌≤◌, List, [], ◌∷◌, Bool, true, false, Option, length, drop, map, get_or, sym, ap, ap₂, subst, ◌∙◌}
use Rattle.std.specs.Prelude.{Some, None, MatchOption}
use Rattle.std.specs.List.{range_with_len}
use Rattle.std.proofs.lemmas.List.{drop_all}
use Rattle.std.proofs.lemmas.List.FromFn.{length-map-range_with_len, get_or-map-range_with_len}
use Rattle.lower_flat_arrays.specs.Validities.{Validity, is_valid, ValidityFits}
use Rattle.lower_flat_arrays.specs.Options.{option_where, where_set, options}

all_step : {A : Type 0} (xs : List A) (i : ℕ) (d : A) → i < length xs → drop i (map Some xs) ≡ Some (get_or xs i d) ∷ drop (i + 1) (map Some xs)
all_step [] i d h = let no : ⊥ = omega (arith, h) in absurd no
all_step (x ∷ xs) zero d h = refl
all_step (x ∷ xs) (suc i) d h =
    let e : suc i + 1 ≡ suc (i + 1) = omega arith in
    all_step xs i d (omega (arith, h)) ∙ ap (λ k. Some (get_or xs i d) ∷ drop k (map Some (x ∷ xs))) (sym e)

set_step : {A : Type 0} (bits : List Bool) (xs : List A) (i : ℕ) (d : A) → i < length xs → length bits ≡ length xs
    → drop i (where_set bits xs) ≡ option_where (get_or bits i false) (get_or xs i d) ∷ drop (i + 1) (where_set bits xs)
set_step bits [] i d h e = let no : ⊥ = omega (arith, h) in absurd no
set_step [] (x ∷ xs) i d h e = let no : ⊥ = omega (arith, e) in absurd no
set_step (b ∷ bits) (x ∷ xs) zero d h e = refl
set_step (b ∷ bits) (x ∷ xs) (suc i) d h e =
    let k : suc i + 1 ≡ suc (i + 1) = omega arith in
    set_step bits xs i d (omega (arith, h)) (omega (arith, e))
    ∙ ap (λ j. option_where (get_or bits i false) (get_or xs i d) ∷ drop j (where_set (b ∷ bits) (x ∷ xs))) (sym k)

-- the slot at i, and those after it
option_step : {A : Type 0} (v : Validity) (xs : List A) (i : ℕ) (d : A) → i < length xs → ValidityFits v (length xs)
    → drop i (options v xs) ≡ option_where (is_valid v i) (get_or xs i d) ∷ drop (i + 1) (options v xs)
option_step None xs i d h fits = all_step xs i d h
option_step (Some bits) xs i d h fits = set_step bits xs i d h fits

-- The same of a slot with a value, if none is known.
pub option_told : {A : Type 0} (v : Validity) (xs : List A) (i : ℕ) (d : A) (r : Option A) → i < length xs → ValidityFits v (length xs)
    → r ≡ option_where (is_valid v i) (get_or xs i d) → drop i (options v xs) ≡ r ∷ drop (i + 1) (options v xs)
option_told v xs i d r h fits e = option_step v xs i d h fits ∙ ap (λ x. x ∷ drop (i + 1) (options v xs)) (sym e)

-- The same of a slot that is known.
pub told_step : {A : Type 0} (v : Validity) (xs : List A) (i : ℕ) (r : Option A) → i < length xs → ValidityFits v (length xs)
    → MatchOption r (is_valid v i ≡ false) (λ x. (is_valid v i ≡ true) × (x ≡ get_or xs i x))
    → drop i (options v xs) ≡ r ∷ drop (i + 1) (options v xs)
told_step v [] i None h fits told = let no : ⊥ = omega (arith, h) in absurd no
told_step v (x ∷ xs) i None h fits told =
    option_step v (x ∷ xs) i x h fits ∙ ap (λ b. option_where b (get_or (x ∷ xs) i x) ∷ drop (i + 1) (options v (x ∷ xs))) told
told_step v xs i (Some x) h fits told =
    option_step v xs i x h fits
    ∙ ap₂ (λ b y. option_where b y ∷ drop (i + 1) (options v xs)) told.0 (sym told.1)

-- nothing is left
all_over : {A : Type 0} (xs : List A) → length (map Some xs) ≡ length xs
all_over [] = refl
all_over (x ∷ xs) = ap suc (all_over xs)

set_over : {A : Type 0} (bits : List Bool) (xs : List A) → length bits ≡ length xs → length (where_set bits xs) ≡ length xs
set_over [] [] e = refl
set_over [] (x ∷ xs) e = let no : ⊥ = omega (arith, e) in absurd no
set_over (b ∷ bits) [] e = let no : ⊥ = omega (arith, e) in absurd no
set_over (b ∷ bits) (x ∷ xs) e = ap suc (set_over bits xs (omega (arith, e)))

option_count : {A : Type 0} (v : Validity) (xs : List A) → ValidityFits v (length xs) → length (options v xs) ≡ length xs
option_count None xs fits = all_over xs
option_count (Some bits) xs fits = set_over bits xs fits

pub option_end : {A : Type 0} (v : Validity) (xs : List A) (i : ℕ) → length xs ≤ i → ValidityFits v (length xs) → drop i (options v xs) ≡ []
option_end v xs i h fits = let count = option_count v xs fits in drop_all i (options v xs) (omega (arith, h, count))

-- the same of values that a function gives
module _ {A : Type 0} (v : Validity) (f : ℕ → A) (n i : ℕ) (fits : ValidityFits v n) where
  counted : ValidityFits v (length (map f (range_with_len 0 n)))
  counted = subst (ValidityFits v) (sym (length-map-range_with_len f 0 n)) fits

  given_step : i < n → drop i (options v (map f (range_with_len 0 n))) ≡ option_where (is_valid v i) (f i) ∷ drop (i + 1) (options v (map f (range_with_len 0 n)))
  given_step h =
      let count = length-map-range_with_len f 0 n in
      let e : 0 + i ≡ i = omega arith in
      option_step v (map f (range_with_len 0 n)) i (f i) (omega (arith, h, count)) counted
      ∙ ap (λ x. option_where (is_valid v i) x ∷ drop (i + 1) (options v (map f (range_with_len 0 n)))) (get_or-map-range_with_len f 0 n i i (f i) h e)

  pub given_told : (r : Option A) → i < n → r ≡ option_where (is_valid v i) (f i)
      → drop i (options v (map f (range_with_len 0 n))) ≡ r ∷ drop (i + 1) (options v (map f (range_with_len 0 n)))
  given_told r h e = given_step h ∙ ap (λ x. x ∷ drop (i + 1) (options v (map f (range_with_len 0 n)))) (sym e)

  pub given_end : n ≤ i → drop i (options v (map f (range_with_len 0 n))) ≡ []
  given_end h = let count = length-map-range_with_len f 0 n in option_end v (map f (range_with_len 0 n)) i (omega (arith, h, count)) counted

pub ruleset number_steps = (told_step, option_end)

pub ruleset given_steps = (given_told, given_end)

pub ruleset bit_steps = (option_told, option_end)
