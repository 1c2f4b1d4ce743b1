-- One more index at which a mask is true, or not.
use Rattle.std.proofs.Common.{arith, zero, suc, refl, inl, inr, ◌≡◌, ◌⊎◌, ℕ, ◌+◌, ◌<◌, ◌≤◌, [], ◌∷◌, ◌++◌, Bool, true, false, cond, length, ap, sym, subst, ◌∙◌}
use mir.Val.{bool_byte}
use Rattle.std.specs.List.{filter, range_with_len}
use Rattle.std.proofs.lemmas.Bool.{cases_lt}
use Rattle.std.proofs.lemmas.List.{map-id, append-nil, length-append, length_push}
use Rattle.std.proofs.lemmas.List.FromFn.{map-range_with_len_more}
use Rattle.std.proofs.lemmas.List.Elements.{filter-append}

range_more : (i : ℕ) → range_with_len 0 (i + 1) ≡ range_with_len 0 i ++ i ∷ []
range_more i = sym (map-id (range_with_len 0 (i + 1))) ∙ map-range_with_len_more (λ k. k) 0 i i (omega arith) ∙ ap (λ ks. ks ++ i ∷ []) (map-id (range_with_len 0 i))

next_of : (p : ℕ → Bool) (i : ℕ) → filter p (range_with_len 0 (i + 1)) ≡ filter p (range_with_len 0 i) ++ filter p (i ∷ [])
next_of p i = ap (filter p) (range_more i) ∙ filter-append p (range_with_len 0 i) (i ∷ [])

pub kept_more : (p : ℕ → Bool) (i : ℕ) → p i ≡ true → filter p (range_with_len 0 (i + 1)) ≡ filter p (range_with_len 0 i) ++ i ∷ []
kept_more p i h = next_of p i ∙ ap (λ b. filter p (range_with_len 0 i) ++ cond b (i ∷ []) []) h

pub left_out : (p : ℕ → Bool) (i : ℕ) → p i ≡ false → filter p (range_with_len 0 (i + 1)) ≡ filter p (range_with_len 0 i)
left_out p i h = next_of p i ∙ ap (λ b. filter p (range_with_len 0 i) ++ cond b (i ∷ []) []) h ∙ append-nil (filter p (range_with_len 0 i))

pub count_more : (p : ℕ → Bool) (i : ℕ) → p i ≡ true → length (filter p (range_with_len 0 (i + 1))) ≡ length (filter p (range_with_len 0 i)) + 1
count_more p i h = ap (λ l. length l) (kept_more p i h) ∙ length_push (filter p (range_with_len 0 i)) i

pub count_next : (p : ℕ → Bool) (i : ℕ) (b : Bool) → p i ≡ b → length (filter p (range_with_len 0 (i + 1))) ≡ length (filter p (range_with_len 0 i)) + bool_byte b
count_next p i true h = count_more p i h
count_next p i false h =
    let e : length (filter p (range_with_len 0 i)) ≡ length (filter p (range_with_len 0 i)) + 0 = omega arith in
    ap (λ l. length l) (left_out p i h) ∙ e

step_least : (p : ℕ → Bool) (n : ℕ) → length (filter p (range_with_len 0 n)) ≤ length (filter p (range_with_len 0 (n + 1)))
step_least p n =
    let count : length (filter p (range_with_len 0 (n + 1))) ≡ length (filter p (range_with_len 0 n)) + length (filter p (n ∷ [])) =
    ap (λ l. length l) (next_of p n) ∙ length-append (filter p (range_with_len 0 n)) (filter p (n ∷ []))
    in
    omega (arith, count)

pub count_low : (p : ℕ → Bool) (i : ℕ) → length (filter p (range_with_len 0 i)) ≤ i
count_low p zero = omega arith
count_low p (suc i) = by (count_low p i) (p i) refl
  where
    e : i + 1 ≡ suc i
    e = omega arith

    by : length (filter p (range_with_len 0 i)) ≤ i → (b : Bool) → p i ≡ b → length (filter p (range_with_len 0 (suc i))) ≤ suc i
    by before true h =
        let next : length (filter p (range_with_len 0 (suc i))) ≡ length (filter p (range_with_len 0 i)) + 1 =
        subst (λ k. length (filter p (range_with_len 0 k)) ≡ length (filter p (range_with_len 0 i)) + 1) e (count_more p i h)
        in
        omega (arith, before, next)
    by before false h =
        let next : length (filter p (range_with_len 0 (suc i))) ≡ length (filter p (range_with_len 0 i)) =
        subst (λ k. length (filter p (range_with_len 0 k)) ≡ length (filter p (range_with_len 0 i))) e (ap (λ l. length l) (left_out p i h))
        in
        omega (arith, before, next)

-- the first indices have no more than all
pub count_least : (p : ℕ → Bool) (n i : ℕ) → i ≤ n → length (filter p (range_with_len 0 i)) ≤ length (filter p (range_with_len 0 n))
count_least p zero i le =
    let e : i ≡ 0 = omega (arith, le) in
    subst (λ k. length (filter p (range_with_len 0 k)) ≤ length (filter p (range_with_len 0 0))) (sym e) (omega arith)
count_least p (suc n) i le = by (λ low. count_least p n i low) (cases_lt n i)
  where
    by : (i ≤ n → length (filter p (range_with_len 0 i)) ≤ length (filter p (range_with_len 0 n))) → (n < i) ⊎ (i ≤ n)
        → length (filter p (range_with_len 0 i)) ≤ length (filter p (range_with_len 0 (suc n)))
    by before (inl lt) =
        let e : i ≡ suc n = omega (arith, le, lt) in
        subst (λ k. length (filter p (range_with_len 0 k)) ≤ length (filter p (range_with_len 0 (suc n)))) (sym e) (omega arith)
    by before (inr low) =
        let there = before low in
        let e : n + 1 ≡ suc n = omega arith in
        let next : length (filter p (range_with_len 0 n)) ≤ length (filter p (range_with_len 0 (suc n))) =
        subst (λ k. length (filter p (range_with_len 0 n)) ≤ length (filter p (range_with_len 0 k))) e (step_least p n)
        in
        omega (arith, there, next)
