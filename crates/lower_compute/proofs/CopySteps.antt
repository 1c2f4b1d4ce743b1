-- Copies of children, one by one.
use Rattle.std.proofs.Common.{arith, refl, inl, inr, ◌≡◌, ◌⊎◌, ℕ, ◌+◌, ◌<◌, ◌≤◌, List, [], ◌∷◌, ◌++◌, length, map, get_or, sym, ap, ap₂, subst, ◌∙◌}
use Rattle.std.proofs.lemmas.Bool.{cases_lt}
use Rattle.std.proofs.lemmas.List.{length_push, get_or_append_left, get_or_push, map_push}
use Rattle.lower_arrays.specs.Layouts.{Layout, type_of}
use Rattle.lower_arrays.specs.Choices.{no_child}
use Rattle.lower_arrays.specs.Slots.{column_of}
use Rattle.lower_arrays.specs.AnyLayouts.{layout_of}
use Rattle.lower_arrays.specs.declared.array.AnyArray.{AnyArray}
use Rattle.lower_compute.specs.declared.runs.Run.{Run}
use Rattle.lower_compute.specs.Runs.{column_of_runs}
use Rattle.lower_compute.specs.Copies.{IsCopy, each_child, AreCopies}

-- The first n copies.
pub record CopiesUpTo (n : ℕ) (ms ls : List Layout) (runs : ℕ → List Run) (cs : List Layout) : Type 0 where
  pub count : length cs ≡ n
  pub each : (k : ℕ) → k < n → IsCopy (get_or ms k no_child) (each_child k ls) (runs k) (get_or cs k no_child)

pub no_copies : (ms ls : List Layout) (runs : ℕ → List Run) → CopiesUpTo 0 ms ls runs []
no_copies ms ls runs = record { count = refl; each = λ k lt. absurd (omega (arith, lt)) }

pub copy_more : (n : ℕ) (ms ls : List Layout) (runs : ℕ → List Run) (xs xs' : List AnyArray) (x : AnyArray) (m : Layout)
    → get_or ms n no_child ≡ m → IsCopy m (each_child n ls) (runs n) (layout_of x) → xs' ≡ xs ++ x ∷ []
    → CopiesUpTo n ms ls runs (map layout_of xs) → CopiesUpTo (n + 1) ms ls runs (map layout_of xs')
copy_more n ms ls runs xs xs' x m at copy more upto =
    subst (CopiesUpTo (n + 1) ms ls runs) (sym (ap (map layout_of) more ∙ map_push layout_of xs x))
    (record {
      count = length_push (map layout_of xs) (layout_of x) ∙ ap (λ c. c + 1) upto.count;
      each = λ k lt. each k lt (cases_lt k n);
    })
  where
    each : (k : ℕ) → k < n + 1 → (k < n) ⊎ (n ≤ k) → IsCopy (get_or ms k no_child) (each_child k ls) (runs k) (get_or (map layout_of xs ++ layout_of x ∷ []) k no_child)
    each k lt (inl old) =
        let c = upto.count in
        subst (IsCopy (get_or ms k no_child) (each_child k ls) (runs k))
        (sym (get_or_append_left (map layout_of xs) (layout_of x ∷ []) no_child k (omega (arith, c, old))))
        (upto.each k old)
    each k lt (inr new) =
        let e : n ≡ k = omega (arith, lt, new) in
        subst (λ i. IsCopy (get_or ms i no_child) (each_child i ls) (runs i) (get_or (map layout_of xs ++ layout_of x ∷ []) i no_child)) e
        (subst (IsCopy (get_or ms n no_child) (each_child n ls) (runs n)) (sym (get_or_push (map layout_of xs) (layout_of x) no_child n upto.count))
        (subst (λ y. IsCopy y (each_child n ls) (runs n) (layout_of x)) (sym at) copy))

pub all_copies : (n : ℕ) (ms ls : List Layout) (runs : ℕ → List Run) (cs : List Layout) → n ≡ length ms → CopiesUpTo n ms ls runs cs → AreCopies ms ls runs cs
all_copies n ms ls runs cs e upto = record {
  count = upto.count ∙ e;
  each = λ k lt. upto.each k (subst (λ m. k < m) (sym e) lt);
}

-- A copy, by other names for its arrays and runs.
pub copy_moved : (m m' : Layout) (ls : List Layout) (rs rs' : List Run) (l l' : Layout) → m ≡ m' → rs ≡ rs' → l' ≡ l → IsCopy m ls rs l → IsCopy m' ls rs' l'
copy_moved m m' ls rs rs' l l' em er el copy =
    ap column_of el ∙ copy ∙ ap₂ (λ u r. column_of_runs (type_of u) (map column_of ls) r) em er
