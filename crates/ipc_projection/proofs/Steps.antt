-- One more column before the others.
use Rattle.std.proofs.Common.{◌≡◌, ◌↔◌, ℕ, suc, ◌<◌, ◌==◌, ◌||◌, Bool, true, false, List, [], ◌∷◌, Some, arith, refl, sym, subst, length, ◌+◌}
use Rattle.std.specs.List.{AllByRecursion, IsDistinct, list_any}
use Rattle.std.proofs.lemmas.Bool.{ne_eqb, eqb-false, true≢false}
use Rattle.ipc_model.specs.Batches.{IsProjection}
use Rattle.ipc_projection.specs.Projections.{IsIncreasingFrom}

abbrev pub Others : ℕ → List ℕ → ℕ → Type 0
Others j js n = (j < n) × (list_any (λ i. i == j) js ≡ false) × IsProjection (Some js) n

eqb_flip : (i j : ℕ) → (i == j) ≡ false → (j == i) ≡ false
eqb_flip i j h = ne_eqb j i (λ e. eqb-false i j h (sym e))

or_split : (a b : Bool) → (a || b) ≡ false → (a ≡ false) × (b ≡ false)
or_split true b h = absurd (true≢false h)
or_split false b h = (refl, h)

or_join : (a b : Bool) → a ≡ false → b ≡ false → (a || b) ≡ false
or_join a b h k = rw (h, k)

absent_apart : (j : ℕ) (js : List ℕ) → list_any (λ i. i == j) js ≡ false → AllByRecursion (λ i. (j == i) ≡ false) js
absent_apart j [] h = tt
absent_apart j (i ∷ js) h = let p = or_split (i == j) (list_any (λ k. k == j) js) h in (eqb_flip i j p.0, absent_apart j js p.1)

apart_absent : (j : ℕ) (js : List ℕ) → AllByRecursion (λ i. (j == i) ≡ false) js → list_any (λ i. i == j) js ≡ false
apart_absent j [] h = refl
apart_absent j (i ∷ js) h = or_join (i == j) (list_any (λ k. k == j) js) (eqb_flip j i h.0) (apart_absent j js h.1)

pub none_projected : (n : ℕ) → IsProjection (Some []) n
unfolding IsDistinct
none_projected n = (tt, tt)

pub one_more : (j : ℕ) (js : List ℕ) (n : ℕ) → IsProjection (Some (j ∷ js)) n ↔ Others j js n
unfolding IsDistinct
one_more j js n = (
  λ h. (h.0.0, apart_absent j js h.1.0, (h.0.1, h.1.1)),
  λ h. ((h.0, h.2.0), (absent_apart j js h.1, h.2.1)),
)

pub one_more_of : (xs : List ℕ) (j : ℕ) (js : List ℕ) (n : ℕ) → xs ≡ j ∷ js → IsProjection (Some xs) n ↔ Others j js n
one_more_of xs j js n e = subst (λ (ys : List ℕ). IsProjection (Some ys) n ↔ Others j js n) (sym e) (one_more j js n)

pub none_of : (xs : List ℕ) (n : ℕ) → length xs ≡ 0 → IsProjection (Some xs) n
none_of [] n e = none_projected n
none_of (x ∷ xs) n e = absurd (omega (arith, e))

none_before : (k i : ℕ) (js : List ℕ) → i < k → IsIncreasingFrom k js → list_any (λ j. i == j) js ≡ false
none_before k i [] below rising = refl
none_before k i (j ∷ js) below rising =
    or_join (i == j) (list_any (λ l. i == l) js) (ne_eqb i j (λ e. omega (arith, e, below, rising.0)))
    (none_before (suc j) i js (omega (arith, below, rising.0)) rising.1)

-- nothing is chosen before the first number
pub passed : (count column : ℕ) (xs others : List ℕ) → xs ≡ column ∷ others → IsIncreasingFrom count xs → count < column
    → list_any (λ j. count + 0 == j) xs ≡ false
passed count column xs others e rising below =
    let r : IsIncreasingFrom count (column ∷ others) = subst (λ (ys : List ℕ). IsIncreasingFrom count ys) e rising in
    subst (λ (ys : List ℕ). list_any (λ j. count + 0 == j) ys ≡ false) (sym e)
    (none_before column (count + 0) (column ∷ others) (omega (arith, below)) (omega arith, r.1))
