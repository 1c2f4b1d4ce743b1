-- The indices of type ids, and distinct ids.
use Rattle.std.proofs.Common.{arith, ◌≡◌, ◌≢◌, refl, ℕ, ℤ, pos, zero, suc, ◌+◌, ◌<◌, ◌≤◌, List, [], ◌∷◌, Bool, true, false, length, get_or, cond, ap, ◌∙◌, ◌⊎◌, inl, inr, ⊎_elim}
use Rattle.std.specs.Ordering.{int_eq}
use Rattle.std.proofs.lemmas.Bool.Decides.{Decides-int_eq}
use Rattle.lower_validation.specs.Ids.{place_among, AreIds}

tested : (b : Bool) → (b ≡ true) ⊎ (b ≡ false)
tested true = inl refl
tested false = inr refl

-- at the front
place_here : (z x : ℤ) (xs : List ℤ) → int_eq x z ≡ true → place_among z (x ∷ xs) ≡ 0
place_here z x xs e = ap (λ b. cond b 0 (place_among z xs + 1)) e

place_later : (z x : ℤ) (xs : List ℤ) → int_eq x z ≡ false → place_among z (x ∷ xs) ≡ suc (place_among z xs)
place_later z x xs e = ap (λ b. cond b 0 (place_among z xs + 1)) e ∙ omega arith

-- No z is before its index.
pub place_first : (z : ℤ) (xs : List ℤ) (k : ℕ) → k < length xs → get_or xs k (pos 0) ≡ z → place_among z xs ≤ k
place_first z [] k l e = let no : ⊥ = omega (arith, l) in absurd no
place_first z (x ∷ xs) zero l e =
    let p = place_here z x xs ((Decides-int_eq x z).1 e) in omega (arith, p)
place_first z (x ∷ xs) (suc k) l e =
    let below = place_first z xs k (omega (arith, l)) e in
    ⊎_elim (λ t. let p = place_here z x xs t in omega (arith, p)) (λ f. let p = place_later z x xs f in omega (arith, p, below))
    (tested (int_eq x z))

-- And z is at its index.
pub place_has : (z : ℤ) (xs : List ℤ) → place_among z xs < length xs → get_or xs (place_among z xs) (pos 0) ≡ z
place_has z [] l = let no : ⊥ = omega (arith, l) in absurd no
place_has z (x ∷ xs) l =
    ⊎_elim
    (λ t. ap (λ p. get_or (x ∷ xs) p (pos 0)) (place_here z x xs t) ∙ (Decides-int_eq x z).0 t)
    (λ f. let p = place_later z x xs f in ap (λ p. get_or (x ∷ xs) p (pos 0)) p ∙ place_has z xs (omega (arith, l, p)))
    (tested (int_eq x z))

apart : (a b : ℕ) → (a < b) ⊎ (b ≤ a)
apart a zero = inr (omega arith)
apart zero (suc b) = inl (omega arith)
apart (suc a) (suc b) = ⊎_elim (λ l. inl (omega (arith, l))) (λ l. inr (omega (arith, l))) (apart a b)

-- The index of an item that differs from all before it.
pub place_is :
    (z : ℤ) (xs : List ℤ) (i : ℕ) → i < length xs → get_or xs i (pos 0) ≡ z
    → ((k : ℕ) → k < i → get_or xs k (pos 0) ≢ z) → place_among z xs ≡ i
place_is z xs i l e h =
    let first = place_first z xs i l e in
    let has = place_has z xs (omega (arith, l, first)) in
    ⊎_elim (λ lt. absurd (h (place_among z xs) lt has)) (λ le. omega (arith, first, le)) (apart (place_among z xs) i)

-- If there is none.
pub place_none :
    (z : ℤ) (xs : List ℤ) → ((k : ℕ) → k < length xs → get_or xs k (pos 0) ≢ z) → place_among z xs ≡ length xs
place_none z [] h = refl
place_none z (x ∷ xs) h =
    let rest = place_none z xs (λ k l. h (suc k) (omega (arith, l))) in
    ⊎_elim (λ t. absurd (h 0 (omega arith) ((Decides-int_eq x z).0 t))) (λ f. place_later z x xs f ∙ ap suc rest) (tested (int_eq x z))

-- Distinct ids are those whose own index is that of their first occurrence.
pub ids_place : (ids : List ℤ) (n i : ℕ) → AreIds ids n → i < length ids → place_among (get_or ids i (pos 0)) ids ≡ i
ids_place ids n i h l = place_is (get_or ids i (pos 0)) ids i l refl (λ k lt. h.distinct k i lt l)

pub ids_distinct :
    (ids : List ℤ) → ((k : ℕ) → k < length ids → place_among (get_or ids k (pos 0)) ids ≡ k)
    → (i j : ℕ) → i < j → j < length ids → get_or ids i (pos 0) ≢ get_or ids j (pos 0)
ids_distinct ids h i j lt l e =
    let first = place_first (get_or ids j (pos 0)) ids i (omega (arith, lt, l)) e in
    let own = h j l in
    let no : ⊥ = omega (arith, first, own, lt) in
    no

pub ruleset places = (place_is, place_none)

pub ruleset distinct = (ids_place, ids_distinct)
