-- Which of the chosen columns are left.
use Rattle.std.proofs.Common.{arith, ◌≡◌, ℕ, suc, ◌+◌, ◌-◌, ◌<◌, ◌≤◌, List, [], ◌∷◌, length, drop, get_or, Option, None, Some, refl, ap, sym, subst, ◌∙◌, inl, inr}
use Rattle.std.specs.List.{AllByRecursion, range_with_len}
use Rattle.std.specs.Prelude.{slice_get}
use Rattle.std.proofs.lemmas.Bool.{cases_lt}
use Rattle.std.proofs.lemmas.List.{drop_more, drop_all}
use Rattle.std.proofs.lemmas.Option.{slice_get_within, slice_get-get_or, get_or_from_slice_get}
use Rattle.ipc_model.specs.Batches.{chosen}
use Rattle.ipc_projection.specs.Projections.{IsIncreasingFrom}
use Rattle.ipc_read.specs.Columns.{ArePrepared, IsChosen}

-- The columns from column i of n on, if m were before.
abbrev pub left_of : Option (List ℕ) → ℕ → ℕ → ℕ → List ℕ
left_of None n m i = range_with_len i (n - i)
left_of (Some js) n m i = drop m js

-- They are in ascending order, none of them before column i.
abbrev pub AreLeft : Option (List ℕ) → ℕ → ℕ → ℕ → Type 0
AreLeft None n m i = Unit {0}
AreLeft (Some js) n m i = AllByRecursion (λ j. j < n) (drop m js) × IsIncreasingFrom i (drop m js)

pub left_start : (p : Option (List ℕ)) (n : ℕ) → ArePrepared p n → AreLeft p n 0 0
left_start None n h = tt
left_start (Some js) n h = (h.0, h.1)

pub left_all : (p : Option (List ℕ)) (n : ℕ) → left_of p n 0 0 ≡ chosen p n
left_all None n = ap (range_with_len 0) (let e : n - 0 ≡ n = omega arith in e)
left_all (Some js) n = refl

-- column i is the first of them
pub left_more : (p : Option (List ℕ)) (n m i : ℕ) → i < n → IsChosen p m i → left_of p n m i ≡ i ∷ left_of p n (m + 1) (i + 1)
left_more None n m i h c = ap (range_with_len i) (let e : n - i ≡ suc (n - (i + 1)) = omega (arith, h) in e)
left_more (Some js) n m i h c = drop_more js m i (slice_get_within js m i c) ∙ ap (λ j. j ∷ drop (m + 1) js) (get_or_from_slice_get js m i i c)

pub left_chosen : (p : Option (List ℕ)) (n m i : ℕ) → i < n → IsChosen p m i → AreLeft p n m i → AreLeft p n (m + 1) (i + 1)
left_chosen None n m i h c are = tt
left_chosen (Some js) n m i h c are =
    let more = left_more (Some js) n m i h c in
    let below : AllByRecursion (λ j. j < n) (i ∷ drop (m + 1) js) = subst (λ (ks : List ℕ). AllByRecursion (λ j. j < n) ks) more are.0 in
    let rising : IsIncreasingFrom i (i ∷ drop (m + 1) js) = subst (λ (ks : List ℕ). IsIncreasingFrom i ks) more are.1 in
    (below.1, subst (λ (k : ℕ). IsIncreasingFrom k (drop (m + 1) js)) (let e : suc i ≡ i + 1 = omega arith in e) rising.1)

-- Column i isn't the first of them.
rising_past : (i : ℕ) (ks : List ℕ) → ((k : ℕ) (rest : List ℕ) → ks ≡ k ∷ rest → k ≡ i → ⊥) → IsIncreasingFrom i ks → IsIncreasingFrom (i + 1) ks
rising_past i [] other rising = tt
rising_past i (k ∷ ks) other rising = elim (cases_lt i k) [
  | inl h ↦ (omega (arith, h), rising.1)
  | inr h ↦ absurd (other k ks refl (omega (arith, h, rising.0)))
]

head_is : (js : List ℕ) (m k : ℕ) (rest : List ℕ) → drop m js ≡ k ∷ rest → slice_get js m ≡ Some k
head_is js m k rest e = elim (cases_lt m (length js)) [
  | inl h ↦ slice_get-get_or js m k h ∙ ap Some (first_is (get_or js m k) k (drop (m + 1) js) rest (sym (drop_more js m k h) ∙ e))
  | inr h ↦ let no : [] ≡ k ∷ rest = sym (drop_all m js h) ∙ e in absurd cc
]
  where
    first_is : (x y : ℕ) (xs ys : List ℕ) → x ∷ xs ≡ y ∷ ys → x ≡ y
    first_is x y xs ys q = cc

pub left_passed : (p : Option (List ℕ)) (n m i : ℕ) → (IsChosen p m i → ⊥) → AreLeft p n m i → AreLeft p n m (i + 1)
left_passed None n m i other are = tt
left_passed (Some js) n m i other are = (are.0, rising_past i (drop m js) (λ k rest e q. other (head_is js m k rest e ∙ ap Some q)) are.1)

pub left_same : (p : Option (List ℕ)) (n m i : ℕ) → (IsChosen p m i → ⊥) → left_of p n m i ≡ left_of p n m (i + 1)
left_same None n m i other = absurd (other tt)
left_same (Some js) n m i other = refl

-- None comes after the last.
none_past : (n i : ℕ) (ks : List ℕ) → n ≤ i → AllByRecursion (λ j. j < n) ks → IsIncreasingFrom i ks → ks ≡ []
none_past n i [] h below rising = refl
none_past n i (k ∷ ks) h below rising = absurd (omega (arith, h, below.0, rising.0))

pub left_none : (p : Option (List ℕ)) (n m i : ℕ) → n ≤ i → AreLeft p n m i → left_of p n m i ≡ []
left_none None n m i h are = ap (range_with_len i) (let e : n - i ≡ 0 = omega (arith, h) in e)
left_none (Some js) n m i h are = none_past n i (drop m js) h are.0 are.1
