-- A projection, prepared by sorting its columns with their indices.
use Rattle.std.proofs.Common.{◌≡◌, ℕ, zero, suc, ◌+◌, ◌<◌, ◌≤◌, ◌==◌, ◌≢◌, nat_eq, false, List, [], ◌∷◌, ◌++◌, map, length, get_or, take, Option, Some, None, IsSome, slice_get, option_map, arith, refl, sym, ◌∙◌, ap, subst, inl, inr}
use Rattle.std.specs.List.{All, AllByRecursion, IsDistinct, enumerate_from, cons_option}
use Rattle.std.specs.List.Sorted.{IsPermutation, IsNonDecreasingBy, IsNonDecreasing}
use Rattle.std.specs.HashMap.{HashMap, get, Updates}
use Rattle.std.proofs.lemmas.Bool.{cases_lt, cases_eq, false≢true, eqb-false, ne_eqb}
use Rattle.std.proofs.lemmas.Option.{slice_get-map, slice_get-get_or, slice_get_within, get_or_from_slice_get, slice_get_read, slice_get_past}
use Rattle.std.proofs.lemmas.List.{get_or-map, get_or_default, length-map, map-append}
use Rattle.std.proofs.lemmas.List.FromFn.{length-enumerate_from, get_or-enumerate_from}
use Rattle.std.proofs.lemmas.List.Sorted.{All-permutation, Contains-permutation, length_permutation, IsPermutation-map}
use Rattle.std.proofs.lemmas.Map.Keys.{IsDistinct-IsPermutation, IsStrictlyIncreasing-from_distinct, apart_from_distinct}
use Rattle.ipc_model.specs.Batches.{IsProjection}
use Rattle.ipc_projection.proofs.Reorderings.{some_same, some_of, some_is}
use Rattle.ipc_projection.specs.Projections.{IsIncreasingFrom, IsPrepared, IsReordering, AreReordered}
use Rattle.ipc_projection.specs.Preparing.{Prepares, selected}

abbrev Pair : Type 0
Pair = ℕ × ℕ

abbrev place : Pair → ℕ
place q = q.0

abbrev column : Pair → ℕ
column q = q.1

columns_of : (k : ℕ) (js : List ℕ) → map column (enumerate_from k js) ≡ js
columns_of k [] = refl
columns_of k (j ∷ js) = ap (λ (is : List ℕ). j ∷ is) (columns_of (k + 1) js)

pair_of : (o : Option Pair) (p : ℕ) → option_map place o ≡ Some p → (c : ℕ) × (o ≡ Some (p, c))
pair_of None p e = absurd (false≢true (subst (λ (o : Option ℕ). IsSome o) (sym e) refl))
pair_of (Some (q, c)) p e = (c, ap (λ (r : ℕ). Some (r, c)) (some_same e))

rising_from : (k : ℕ) (xs : List ℕ) → (0 < length xs → k ≤ get_or xs 0 0) → ((i : ℕ) → suc i < length xs → get_or xs i 0 < get_or xs (suc i) 0)
    → IsIncreasingFrom k xs
rising_from k [] first up = tt
rising_from k (x ∷ xs) first up = (first (omega arith), rising_from (suc x) xs (λ l. up 0 (omega (arith, l))) (λ i l. up (suc i) (omega (arith, l))))

pub all_of : (n : ℕ) (xs : List ℕ) → All (λ x. x < n) xs → AllByRecursion (λ x. x < n) xs
all_of n [] h = tt
all_of n (x ∷ xs) h = (h 0 0 (omega arith), all_of n xs (λ k d l. h (suc k) d (omega (arith, l))))

pub each_of : (n : ℕ) (xs : List ℕ) → AllByRecursion (λ x. x < n) xs → All (λ x. x < n) xs
each_of n [] h = λ k d l. absurd (omega (arith, l))
each_of n (x ∷ xs) h = at (each_of n xs h.1)
  where
    at : All (λ y. y < n) xs → All (λ y. y < n) (x ∷ xs)
    at others zero d l = h.0
    at others (suc k) d l = others k d (omega (arith, l))

pub eqb_flips : (x y : ℕ) → (x == y) ≡ (y == x)
eqb_flips x y = grind arith

not_twice : (xs : List ℕ) → IsDistinct (λ i j. i == j) xs → (i j c : ℕ) → i < j → slice_get xs i ≡ Some c → slice_get xs j ≡ Some c → ⊥
not_twice xs distinct i j c l e f =
    let inside : j < length xs = slice_get_within xs j c f in
    eqb-false (get_or xs i 0) (get_or xs j 0) (apart_from_distinct (λ i j. i == j) xs i j 0 distinct l inside)
    (get_or_from_slice_get xs i c 0 e ∙ sym (get_or_from_slice_get xs j c 0 f))

-- An element that occurs once has one index.
pub same_place : (xs : List ℕ) → IsDistinct (λ i j. i == j) xs → (i j c : ℕ) → slice_get xs i ≡ Some c → slice_get xs j ≡ Some c → i ≡ j
same_place xs distinct i j c e f = elim (cases_lt i j) [
  | inl l ↦ absurd (not_twice xs distinct i j c l e f)
  | inr g ↦ elim (cases_lt j i) [
    | inl l ↦ absurd (not_twice xs distinct j i c l f e)
    | inr k ↦ omega (arith, g, k)
  ]
]

module _ {S : Type 0} (asked : List ℕ) (n : ℕ) (ps : List Pair) (sorted : List ℕ) (m : HashMap ℕ ℕ S) (is : IsProjection (Some asked) n)
    (same : IsPermutation (enumerate_from 0 asked) ps) (up : IsNonDecreasingBy column ps) (columns : sorted ≡ map column ps)
    (places : (i : ℕ) → get nat_eq m i ≡ option_map place (slice_get ps i)) where
  as_many : length ps ≡ length asked
  as_many = length_permutation (enumerate_from 0 asked) ps same ∙ length-enumerate_from 0 asked

  as_sorted : IsPermutation asked sorted
  as_sorted =
      subst (λ (ys : List ℕ). IsPermutation asked ys) (sym columns)
      (subst (λ (xs : List ℕ). IsPermutation xs (map column ps)) (columns_of 0 asked) (IsPermutation-map column (enumerate_from 0 asked) ps same))

  distinct : IsDistinct (λ i j. i == j) sorted
  distinct = IsDistinct-IsPermutation (λ i j. i == j) eqb_flips asked sorted as_sorted is.1

  never_falls : IsNonDecreasing sorted
  never_falls = subst (λ (xs : List ℕ). IsNonDecreasing xs) (sym columns) falls
    where
      falls : IsNonDecreasing (map column ps)
      falls i j d l k =
          let long : j < length ps = omega (arith, k, length-map ps column) in
          omega (arith, up i j (0, d) l long, get_or-map column ps i (0, d) d (omega (arith, l, long)), get_or-map column ps j (0, d) d long)

  -- The pairs are columns with their indices.
  abbrev Stands : Pair → Type 0
  Stands q = slice_get asked q.0 ≡ Some q.1

  all_stand : All Stands ps
  all_stand = All-permutation Stands (enumerate_from 0 asked) ps same each
    where
      each : All Stands (enumerate_from 0 asked)
      each k d l =
          let inside : k < length asked = omega (arith, l, length-enumerate_from 0 asked) in
          subst Stands (sym (get_or-enumerate_from 0 asked k d inside)) (ap (slice_get asked) (omega arith) ∙ slice_get-get_or asked k d.1 inside)

  asked_at : (i p c : ℕ) → slice_get ps i ≡ Some (p, c) → slice_get asked p ≡ Some c
  asked_at i p c e = subst Stands (get_or_from_slice_get ps i (p, c) (p, c) e) (all_stand i (p, c) (slice_get_within ps i (p, c) e))

  column_at : (i p c : ℕ) → slice_get ps i ≡ Some (p, c) → slice_get sorted i ≡ Some c
  column_at i p c e = ap (λ (xs : List ℕ). slice_get xs i) columns ∙ slice_get-map column ps i ∙ ap (option_map column) e

  pair_at : (i p : ℕ) → get nat_eq m i ≡ Some p → (c : ℕ) × (slice_get ps i ≡ Some (p, c))
  pair_at i p e = pair_of (slice_get ps i) p (sym (places i) ∙ e)

  goes : (i : ℕ) (q : Pair) → slice_get ps i ≡ Some q → get nat_eq m i ≡ Some q.0
  goes i q e = places i ∙ ap (option_map place) e

  reordering : IsReordering m (length asked)
  reordering = record {
    keys = λ i. (key_below i, below_key i);
    values = λ p. (λ w. let q = pair_at w.0 p w.1 in slice_get_within asked p q.0 (asked_at w.0 p q.0 q.1), below_value p);
    once = λ i j p e f.
        let q = pair_at i p e in
        let r = pair_at j p f in
        let one : r.0 ≡ q.0 = some_same (sym (asked_at j p r.0 r.1) ∙ asked_at i p q.0 q.1) in
        same_place sorted distinct i j q.0 (column_at i p q.0 q.1) (column_at j p r.0 r.1 ∙ ap Some one);
  }
    where
      key_below : (i : ℕ) → IsSome (get nat_eq m i) → i < length asked
      key_below i h =
          let w = some_of (get nat_eq m i) h in
          let q = pair_at i w.0 w.1 in
          let inside = slice_get_within ps i (w.0, q.0) q.1 in
          omega (arith, inside, as_many)

      below_key : (i : ℕ) → i < length asked → IsSome (get nat_eq m i)
      below_key i l =
          let inside : i < length ps = omega (arith, l, as_many) in
          let q = get_or ps i (0, 0) in
          some_is (get nat_eq m i) q.0 (goes i q (slice_get-get_or ps i (0, 0) inside))

      below_value : (p : ℕ) → p < length asked → (i : ℕ) × (get nat_eq m i ≡ Some p)
      below_value p l =
          let q : Pair = (p, get_or asked p 0) in
          let inside : p < length (enumerate_from 0 asked) = omega (arith, l, length-enumerate_from 0 asked) in
          let here : get_or (enumerate_from 0 asked) p q ≡ q =
          get_or-enumerate_from 0 asked p q l ∙ ap (λ (r : ℕ). (r, get_or asked p (get_or asked p 0))) (omega arith) ∙ ap (λ (c : ℕ). (p, c)) (get_or_default asked p (get_or asked p 0) 0 l) in
          let w = Contains-permutation (enumerate_from 0 asked) ps q same (p, inside, here) in
          (w.0, goes w.0 q (slice_get_read ps (length ps) w.0 q refl w.1 (sym w.2)))

  moved : AreReordered m sorted asked
  moved = record {
    count = sym (length_permutation asked sorted as_sorted);
    moved = λ i p e. let q = pair_at i p e in asked_at i p q.0 q.1 ∙ sym (column_at i p q.0 q.1);
  }

  rising : IsPrepared sorted n
  rising = (
    all_of n sorted (All-permutation (λ j. j < n) asked sorted as_sorted (each_of n asked is.0)),
    rising_from 0 sorted (λ l. omega arith) (λ i l. let next : i + 1 ≡ suc i = omega arith in
        subst (λ (k : ℕ). get_or sorted i 0 < get_or sorted k 0) next (IsStrictlyIncreasing-from_distinct sorted never_falls distinct i (omega (arith, l)))),
  )

  pub prepares : Prepares asked n sorted m
  prepares = record { same = as_sorted; rising = rising; reordering = reordering; moved = moved }

-- ---- what is selected

next_of : {X : Type 0} (o : Option X) (ys zs : List X) → cons_option o ys ++ zs ≡ cons_option o (ys ++ zs)
next_of None ys zs = refl
next_of (Some x) ys zs = refl

more : {X : Type 0} (xs : List X) (js : List ℕ) (k j : ℕ) (x : X) → slice_get js k ≡ Some j → slice_get xs j ≡ Some x
    → selected xs (take (suc k) js) ≡ selected xs (take k js) ++ x ∷ []
more xs [] k j x e f = absurd (false≢true (subst (λ (o : Option ℕ). IsSome o) (sym e) refl))
more {X} xs (i ∷ js) zero j x e f = ap (λ (o : Option X). cons_option o []) (ap (slice_get xs) (some_same e) ∙ f)
more {X} xs (i ∷ js) (suc k) j x e f =
    ap (λ (ys : List X). cons_option (slice_get xs i) ys) (more xs js k j x e f) ∙ sym (next_of (slice_get xs i) (selected xs (take k js)) (x ∷ []))

-- one more is selected
pub selected_more : {X Y : Type 0} (f : X → Y) (xs : List X) (js : List ℕ) (done : List X) (k : ℕ) (x y : X) → k < length js → get_or js k 0 < length xs
    → map f done ≡ selected (map f xs) (take k js) → x ≡ get_or xs (get_or js k 0) x → f y ≡ f x
    → map f (done ++ y ∷ []) ≡ selected (map f xs) (take (k + 1) js)
selected_more {X} {Y} f xs js done k x y l inside so_far is copied =
    let at : slice_get (map f xs) (get_or js k 0) ≡ Some (f x) =
    slice_get-map f xs (get_or js k 0) ∙ ap (option_map f) (slice_get_read xs (length xs) (get_or js k 0) x refl inside is) in
    let next : suc k ≡ k + 1 = omega arith in
    map-append f done (y ∷ [])
    ∙ ap (λ (z : Y). map f done ++ z ∷ []) copied
    ∙ ap (λ (zs : List Y). zs ++ f x ∷ []) so_far
    ∙ sym (more (map f xs) js k (get_or js k 0) (f x) (slice_get-get_or js k 0 l) at)
    ∙ ap (λ (n : ℕ). selected (map f xs) (take n js)) next

-- ---- indices by their numbers

-- The first k pairs have their indices in a map, and no other has.
pub record HasFirst {S : Type 0} (m : HashMap ℕ ℕ S) (ps : List Pair) (k : ℕ) : Type 0 where
  pub below : (i : ℕ) → i < k → get nat_eq m i ≡ option_map place (slice_get ps i)
  pub other : (i : ℕ) → k ≤ i → get nat_eq m i ≡ None

pub has_more : {S : Type 0} (m n : HashMap ℕ ℕ S) (ps : List Pair) (k p : ℕ) (d : Pair) → HasFirst m ps k → k < length ps → Updates nat_eq m n k (Some p) → p ≡ (get_or ps k d).0
    → HasFirst n ps (k + 1)
has_more m n ps k p d h l new is = record {
  below = λ i b. elim (cases_eq i k) [
    | inl e ↦ subst (λ (j : ℕ). get nat_eq n j ≡ option_map place (slice_get ps j)) (sym e)
        (new.1 ∙ ap Some is ∙ ap (option_map place) (sym (slice_get-get_or ps k d l)))
    | inr ne ↦ new.2 i (apart i ne) ∙ h.below i (omega (arith, b, ne))
  ];
  other = λ i g. new.2 i (apart i (λ e. omega (arith, e, g))) ∙ h.other i (omega (arith, g));
}
  where
    apart : (i : ℕ) → i ≢ k → nat_eq k i ≡ false
    apart i ne = ne_eqb k i (λ e. ne (sym e))

pub has_all : {S : Type 0} (m : HashMap ℕ ℕ S) (ps : List Pair) (k : ℕ) → length ps ≤ k → HasFirst m ps k
    → (i : ℕ) → get nat_eq m i ≡ option_map place (slice_get ps i)
has_all m ps k all h i = elim (cases_lt i k) [
  | inl l ↦ h.below i l
  | inr g ↦ elim (cases_lt i (length ps)) [
    | inl l ↦ absurd (omega (arith, l, g, all))
    | inr past ↦ (let end : length ps ≤ i = omega (arith, past) in h.other i (omega (arith, g)) ∙ ap (option_map place) (sym (slice_get_past ps i end)))
  ]
]
