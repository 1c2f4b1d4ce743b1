-- Offsets of the slots of dense unions, slot by slot.
use Rattle.std.proofs.Common.{arith, refl, inl, inr, ◌≡◌, ◌⊎◌, ℕ, ℤ, pos, ◌+◌, ◌<◌, ◌≤◌, List, [], ◌∷◌, ◌++◌, length, map, get_or, replicate, sym, ap, subst, ◌∙◌}
use Rattle.std.specs.List.{All}
use Rattle.std.proofs.lemmas.Bool.{cases_eq, cases_lt}
use Rattle.std.proofs.lemmas.List.{length-map, length-set, length-replicate, length_push, get_or-map, get_or-replicate, get_or_append_left, get_or-set_same, get_or-set_other, get_or_push, get_or_past}
use Rattle.std.proofs.lemmas.List.Elements.{All-nil, All-push, All-from_get_or, All-get_or}
use Rattle.lower_arrays.specs.Layouts.{Layout, level, children, len_of}
use Rattle.lower_arrays.specs.Choices.{child, no_child}
use Rattle.lower_compute.specs.declared.runs.Run.{Run}
use Rattle.lower_compute.specs.Runs.{origins}
use Rattle.lower_compute.specs.Copies.{each_child}
use Rattle.lower_compute.specs.Variants.{number_of, index_in, IsOffsetOf, AreDense, IsPushed, AreRecorded}
use Rattle.lower_compute.proofs.RunPlaces.{PlaceFits}
use Rattle.lower_compute.proofs.TakenRuns.{runs_within}

-- no runs over n children
empty_at : {A : Type 0} (n k : ℕ) → get_or (replicate {A = List A} n []) k [] ≡ []
empty_at {A = A} n k = by (cases_lt k n)
  where
    by : (k < n) ⊎ (n ≤ k) → get_or (replicate {A = List A} n []) k [] ≡ []
    by (inl lt) = get_or-replicate n k [] [] lt
    by (inr le) = get_or_past (replicate n []) k [] (let count = length-replicate {A = List A} n [] in omega (arith, count, le))

pub start_recorded : (ls : List Layout) (n : ℕ) → AreRecorded ls n [] [] (replicate n []) (replicate n 0)
start_recorded ls n = record {
  count = refl;
  each = λ i lt. absurd (omega (arith, lt));
  some = λ k. subst (All (λ run. 0 < run.len)) (sym (empty_at n k)) (All-nil (λ run. 0 < run.len));
  low = λ k. subst (λ rs. All (λ (p : ℕ × ℕ). (p.0 < length ls) × (p.1 < len_of (child (children (get_or ls p.0 no_child)) k))) (origins rs)) (sym (empty_at n k))
      (All-nil (λ (p : ℕ × ℕ). (p.0 < length ls) × (p.1 < len_of (child (children (get_or ls p.0 no_child)) k))));
  lens_are = λ k lt. get_or-replicate n k 0 0 lt ∙ ap (λ rs. length (origins rs)) (sym (empty_at n k));
  parts_count = length-replicate n [];
  lens_count = length-replicate n 0;
}

module _ (ls : List Layout) (n : ℕ) (ps : List (ℕ × ℕ)) (os os' : List ℤ) (parts parts' : List (List Run)) (lens lens' : List ℕ)
    (is : AreRecorded ls n ps os parts lens) (a j : ℕ) where
  abbrev l : Layout
  l = get_or ls a no_child

  abbrev k : ℕ
  k = number_of (level l).parts j

  abbrev q : ℕ
  q = index_in (level l).parts j

  module _ (lt : k < n) (first : a < length ls) (inner : q < len_of (child (children l) k)) (push : IsPushed k a q os parts lens os' parts' lens') where
    -- an offset before stays
    kept : (p : ℕ × ℕ) (z : ℤ) → IsOffsetOf ls parts p z → IsOffsetOf ls parts' p z
    kept p z w = by (cases_eq (number_of (level (get_or ls p.0 no_child)).parts p.1) k)
      where
        by : (number_of (level (get_or ls p.0 no_child)).parts p.1 ≡ k) ⊎ (number_of (level (get_or ls p.0 no_child)).parts p.1 ≡ k → ⊥) → IsOffsetOf ls parts' p z
        by (inl e) =
            let m = number_of (level (get_or ls p.0 no_child)).parts p.1 in
            let grown : origins (get_or parts' m []) ≡ origins (get_or parts m []) ++ (a, q) ∷ [] =
            subst (λ u. origins (get_or parts' u []) ≡ origins (get_or parts u []) ++ (a, q) ∷ []) (sym e) push.here
            in
            let count : length (origins (get_or parts' m [])) ≡ length (origins (get_or parts m [])) + 1 = ap (λ us. length us) grown ∙ length_push (origins (get_or parts m [])) (a, q) in
            let under = w.2 in (
              w.0,
              w.1,
              omega (arith, count, under),
              ap (λ us. get_or us w.0 (0, 0)) grown ∙ get_or_append_left (origins (get_or parts m [])) ((a, q) ∷ []) (0, 0) w.0 under ∙ w.3,
            )
        by (inr ne) =
            let m = number_of (level (get_or ls p.0 no_child)).parts p.1 in
            subst (λ rs. (o : ℕ) × (z ≡ pos o) × (o < length (origins rs)) × (get_or (origins rs) o (0, 0) ≡ (p.0, index_in (level (get_or ls p.0 no_child)).parts p.1)))
            (sym (push.others m ne)) w

    -- and the new one is that of the last place
    added : IsOffsetOf ls parts' (a, j) (pos (get_or lens k 0))
    added =
        let len = is.lens_are k lt in
        let count : length (origins (get_or parts' k [])) ≡ length (origins (get_or parts k [])) + 1 = ap (λ us. length us) push.here ∙ length_push (origins (get_or parts k [])) (a, q) in
        (get_or lens k 0, refl, omega (arith, len, count), ap (λ us. get_or us (get_or lens k 0) (0, 0)) push.here ∙ get_or_push (origins (get_or parts k [])) (a, q) (0, 0) (get_or lens k 0) (sym len))

    pub step_recorded : AreRecorded ls n (ps ++ (a, j) ∷ []) os' parts' lens'
    step_recorded = record {
      count = ap (λ us. length us) push.offset ∙ length_push os (pos (get_or lens k 0)) ∙ ap (λ c. c + 1) is.count ∙ sym (length_push ps (a, j));
      each = λ i below. each i below (cases_lt i (length ps));
      some = λ i. some i (cases_eq i k);
      low = λ i. low i (cases_eq i k);
      lens_are = λ i below. new_lens i below (cases_eq i k);
      parts_count = push.count ∙ is.parts_count;
      lens_count = ap (λ us. length us) push.more ∙ length-set lens k (get_or lens k 0 + 1) ∙ is.lens_count;
    }
      where
        each : (i : ℕ) → i < length (ps ++ (a, j) ∷ []) → (i < length ps) ⊎ (length ps ≤ i) → IsOffsetOf ls parts' (get_or (ps ++ (a, j) ∷ []) i (0, 0)) (get_or os' i (pos 0))
        each i below (inl old) =
            let c = is.count in
            let left : get_or os' i (pos 0) ≡ get_or os i (pos 0) = ap (λ us. get_or us i (pos 0)) push.offset ∙ get_or_append_left os (pos (get_or lens k 0) ∷ []) (pos 0) i (omega (arith, c, old)) in
            subst (λ z. IsOffsetOf ls parts' (get_or (ps ++ (a, j) ∷ []) i (0, 0)) z) (sym left)
            (subst (λ p. IsOffsetOf ls parts' p (get_or os i (pos 0))) (sym (get_or_append_left ps ((a, j) ∷ []) (0, 0) i old))
            (kept (get_or ps i (0, 0)) (get_or os i (pos 0)) (is.each i old)))
        each i below (inr new) =
            let c = is.count in
            let total = length_push ps (a, j) in
            let at : length ps ≡ i = omega (arith, total, below, new) in
            let last : get_or os' i (pos 0) ≡ pos (get_or lens k 0) = ap (λ us. get_or us i (pos 0)) push.offset ∙ get_or_push os (pos (get_or lens k 0)) (pos 0) i (c ∙ at) in
            subst (λ z. IsOffsetOf ls parts' (get_or (ps ++ (a, j) ∷ []) i (0, 0)) z) (sym last)
            (subst (λ p. IsOffsetOf ls parts' p (pos (get_or lens k 0))) (sym (get_or_push ps (a, j) (0, 0) i at)) added)

        some : (i : ℕ) → (i ≡ k) ⊎ (i ≡ k → ⊥) → All (λ run. 0 < run.len) (get_or parts' i [])
        some i (inl e) = subst (λ u. All (λ run. 0 < run.len) (get_or parts' u [])) (sym e) (push.some (is.some k))
        some i (inr ne) = subst (All (λ run. 0 < run.len)) (sym (push.others i ne)) (is.some i)

        low : (i : ℕ) → (i ≡ k) ⊎ (i ≡ k → ⊥) → All (λ (p : ℕ × ℕ). (p.0 < length ls) × (p.1 < len_of (child (children (get_or ls p.0 no_child)) i))) (origins (get_or parts' i []))
        low i (inl e) =
            subst (λ u. All (λ (p : ℕ × ℕ). (p.0 < length ls) × (p.1 < len_of (child (children (get_or ls p.0 no_child)) u))) (origins (get_or parts' u []))) (sym e)
            (subst (All (λ (p : ℕ × ℕ). (p.0 < length ls) × (p.1 < len_of (child (children (get_or ls p.0 no_child)) k)))) (sym push.here)
            (All-push (λ (p : ℕ × ℕ). (p.0 < length ls) × (p.1 < len_of (child (children (get_or ls p.0 no_child)) k))) (origins (get_or parts k [])) (a, q) (is.low k) (first, inner)))
        low i (inr ne) =
            subst (λ rs. All (λ (p : ℕ × ℕ). (p.0 < length ls) × (p.1 < len_of (child (children (get_or ls p.0 no_child)) i))) (origins rs)) (sym (push.others i ne)) (is.low i)

        new_lens : (i : ℕ) → i < n → (i ≡ k) ⊎ (i ≡ k → ⊥) → get_or lens' i 0 ≡ length (origins (get_or parts' i []))
        new_lens i below (inl e) =
            let size = is.lens_count in
            subst (λ u. get_or lens' u 0 ≡ length (origins (get_or parts' u []))) (sym e)
            (ap (λ us. get_or us k 0) push.more
            ∙ get_or-set_same lens k (get_or lens k 0 + 1) 0 (omega (arith, size, lt))
            ∙ ap (λ c. c + 1) (is.lens_are k lt)
            ∙ sym (length_push (origins (get_or parts k [])) (a, q))
            ∙ ap (λ us. length us) (sym push.here))
        new_lens i below (inr ne) =
            ap (λ us. get_or us i 0) push.more
            ∙ get_or-set_other lens k i (get_or lens k 0 + 1) 0 ne
            ∙ is.lens_are i below
            ∙ ap (λ rs. length (origins rs)) (sym (push.others i ne))

-- What is recorded of all slots makes a dense union.
pub recorded_dense : (ls : List Layout) (n : ℕ) (ps : List (ℕ × ℕ)) (os : List ℤ) (parts : List (List Run)) (lens : List ℕ) → AreRecorded ls n ps os parts lens → AreDense ls ps parts os
recorded_dense ls n ps os parts lens is = record {
  count = is.count;
  each = is.each;
  some = is.some;
  within = λ k.
      runs_within (map len_of (each_child k ls)) (get_or parts k []) (is.some k)
      (All-from_get_or (PlaceFits (map len_of (each_child k ls))) (origins (get_or parts k [])) (0, 0) (λ i lt.
      let p = get_or (origins (get_or parts k [])) i (0, 0) in
      let here = All-get_or (λ (p : ℕ × ℕ). (p.0 < length ls) × (p.1 < len_of (child (children (get_or ls p.0 no_child)) k))) (origins (get_or parts k [])) i (0, 0) lt (is.low k) in
      let first = here.0 in
      let count : length (map len_of (each_child k ls)) ≡ length ls = length-map (each_child k ls) len_of ∙ length-map ls (λ l. child (children l) k) in
      let inner : p.0 < length (each_child k ls) = let c = length-map ls (λ l. child (children l) k) in omega (arith, c, first) in
      let same : get_or (map len_of (each_child k ls)) p.0 0 ≡ len_of (child (children (get_or ls p.0 no_child)) k) =
      get_or-map len_of (each_child k ls) p.0 no_child 0 inner ∙ ap len_of (get_or-map (λ l. child (children l) k) ls p.0 no_child no_child first)
      in
      (omega (arith, count, first), subst (λ m. p.1 < m) (sym same) here.1)));
}
