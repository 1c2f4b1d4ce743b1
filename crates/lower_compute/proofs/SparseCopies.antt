-- Sparse and dense unions of copies of the children.
use Rattle.std.proofs.Common.{arith, refl, ◌≡◌, ℕ, ℤ, pos, ◌<◌, List, [], ◌∷◌, length, map, get_or, sym, ap, subst, ◌∙◌}
use Rattle.std.specs.Prelude.{Option, Some, None}
use Rattle.std.specs.List.{All}
use Rattle.std.proofs.lemmas.List.{length-map}
use Rattle.lower.specs.declared.datatypes.UnionMode.{UnionMode}
use Rattle.lower.specs.declared.datatypes.UnionMode.TheVariants.{Dense, Sparse}
use Rattle.lower.specs.declared.error.Error.{Error}
use Rattle.lower_validation.specs.Keys.{place_of, KeyFits}
use Rattle.lower_validation.specs.Ids.{union_ids, union_mode, OffsetsGiven}
use Rattle.lower_validation.specs.Places.{PlacesFit}
use Rattle.lower_arrays.specs.Layouts.{Layout, layouts, level, children, len_of}
use Rattle.lower_arrays.specs.Children.{child_count, lens_of}
use Rattle.lower_arrays.specs.Choices.{child, no_child, place_in}
use Rattle.lower_arrays.specs.Slots.{IsArray}
use Rattle.lower_arrays.specs.Unions.{UnionSeen, union_seen, union_layout, BreaksUnion}
use Rattle.lower_arrays.proofs.Children.{count_children}
use Rattle.lower_arrays.proofs.Choices.{child_has, child_len}
use Rattle.lower_compute.specs.declared.runs.Run.{Run}
use Rattle.lower_compute.specs.Runs.{RunFits, items_of_runs, origins, origin_at}
use Rattle.lower_compute.specs.Copies.{HasTypeOf, AllHaveTypeOf, AreWithin, IsCopy, each_child, HaveChildren, AreCopies}
use Rattle.lower_compute.specs.Variants.{number_of, index_in, AreDense}
use Rattle.lower_compute.proofs.RunPlaces.{map-map}
use Rattle.lower_compute.proofs.Likes.{counts, like_child, have_child, same_mode}
use Rattle.lower_compute.proofs.ChildPlaces.{child_layouts, all-have}
use Rattle.lower_compute.proofs.CopySlots.{map_same, first_there, copy_len, viewed_all}
use Rattle.lower_compute.proofs.UnionCopies.{child_of, types_count, array_there, number_there, number_low, first, union_unbroken, union_copied}

-- a union of a mode is sparse if another is
sparse_too : (m : UnionMode) (os : Option (List ℤ)) (n k : ℕ) → OffsetsGiven m None n → OffsetsGiven m os k → os ≡ None
sparse_too Dense os n k h g = absurd h
sparse_too Sparse None n k h g = refl
sparse_too Sparse (Some os) n k h g = absurd g

given_none : (m : UnionMode) (n k : ℕ) → OffsetsGiven m None n → OffsetsGiven m None k
given_none Dense n k h = absurd h
given_none Sparse n k h = tt

given_some : (m : UnionMode) (bs : Option (List ℤ)) (os : List ℤ) (n k : ℕ) → (bs ≡ None → ⊥) → OffsetsGiven m bs n → length os ≡ k → OffsetsGiven m (Some os) k
given_some m None os n k some h e = absurd (some refl)
given_some Dense (Some bs) os n k some h e = e
given_some Sparse (Some bs) os n k some h e = absurd h

module _ {X : Type 0} (seen : X → UnionSeen) (xs : List X) (b : UnionSeen) (runs : List Run)
    (like : AllHaveTypeOf (union_layout b) (map (λ x. union_layout (seen x)) xs)) (within : AreWithin (map (λ x. union_layout (seen x)) xs) runs) where
  abbrev ls : List Layout
  ls = map (λ x. union_layout (seen x)) xs

  count_is : child_count (layouts b.children) ≡ length b.children
  count_is = count_children b.children

  likes : (k : ℕ) → AllHaveTypeOf (get_or b.children k no_child) (each_child k ls)
  likes k = subst (λ c. AllHaveTypeOf c (each_child k ls)) (child_layouts b.children k) (like_child (union_layout b) ls like (omega arith) k)

  -- ---- sparse
  module _ (sparse : b.offsets ≡ None) where
    given_b : OffsetsGiven (union_mode b.type) None (length b.types)
    given_b = subst (λ os. OffsetsGiven (union_mode b.type) os (length b.types)) sparse like.0.1.2.given

    none_there : (k : ℕ) (d : X) → k < length xs → (seen (get_or xs k d)).offsets ≡ None
    none_there k d lt =
        let a = seen (get_or xs k d) in
        let is = viewed_all IsArray (λ x. union_layout (seen x)) xs ls refl like.1 k d lt in
        let type = viewed_all (HasTypeOf (union_layout b)) (λ x. union_layout (seen x)) xs ls refl like.2 k d lt in
        sparse_too (union_mode b.type) a.offsets (length b.types) (length a.types) given_b
        (subst (λ m. OffsetsGiven m a.offsets (length a.types)) (same_mode a.type b.type type) is.1.2.given)

    sparse_len : (k : ℕ) → k < length b.children → (i : ℕ) (d : X) → i < length xs → len_of (child (layouts (seen (get_or xs i d)).children) k) ≡ length (seen (get_or xs i d)).types
    sparse_len k lt i d below =
        let a = seen (get_or xs i d) in
        let is = viewed_all IsArray (λ x. union_layout (seen x)) xs ls refl like.1 i d below in
        let n = viewed_all (λ l. child_count (children l) ≡ child_count (layouts b.children)) (λ x. union_layout (seen x)) xs ls refl (counts (union_layout b) ls like (omega arith)) i d below in
        child_has (layouts a.children) (length a.types) k
        (subst (λ os. PlacesFit (union_ids a.type) a.types os (lens_of (layouts a.children))) (none_there i d below) is.1.2.places)
        (omega (arith, n, count_is, lt))

    pub sparse_within : (k : ℕ) → k < length b.children → AreWithin (each_child k ls) runs
    sparse_within k lt =
        let same : map len_of (each_child k ls) ≡ map len_of ls =
        map-map len_of (λ l. child (children l) k) ls
        ∙ map-map (λ l. len_of (child (children l) k)) (λ x. union_layout (seen x)) xs
        ∙ map_same (λ x. len_of (child (layouts (seen x).children) k)) (λ x. length (seen x).types) xs (sparse_len k lt)
        ∙ sym (map-map len_of (λ x. union_layout (seen x)) xs)
        in
        subst (λ ns. All (RunFits ns) runs) (sym same) within

    pub sparse_have : HaveChildren b.children ls (λ k. runs)
    sparse_have = record {
      like = λ k lt. likes k;
      have = λ k lt. have_child (union_layout b) ls like (omega arith) k (omega (arith, count_is, lt));
      within = sparse_within;
    }

    module _ (cs : List Layout) (copies : AreCopies b.children ls (λ k. runs) cs) where
      abbrev ts : List ℤ
      ts = items_of_runs (map (λ x. (seen x).types) xs) runs

      fit : PlacesFit (union_ids b.type) ts None (lens_of (layouts cs))
      fit = all-have (length ts) cs (λ k lt.
          let n = copies.count in
          let below : k < length b.children = omega (arith, n, lt) in
          copy_len (each_child k ls) runs (sparse_within k below) (get_or b.children k no_child) (get_or cs k no_child) (copies.each k below)
          ∙ sym (types_count seen xs b runs like within (λ k. runs) cs sparse_within copies))

      low : (d : X) (i : ℕ) (lt : i < length (origins runs)) → (i < length (origins runs)) × (origin_at runs i ≡ ((origin_at runs i).0, place_in (seen (get_or xs (origin_at runs i).0 d)).offsets (origin_at runs i).1))
      low d i lt =
          let in' = first seen xs b runs like within (λ k. runs) cs sparse_within copies d i lt in
          (lt, ap (λ os. ((origin_at runs i).0, place_in os (origin_at runs i).1)) (sym (none_there (origin_at runs i).0 d in')))

      pub sparse_unbroken : (e : Error) → BreaksUnion (union_seen b.type ts cs None) e → ⊥
      sparse_unbroken e breaks =
          union_unbroken seen xs b runs like within (λ k. runs) cs sparse_within copies None (given_none (union_mode b.type) (length b.types) (length ts) given_b) fit low e breaks

      pub sparse_copied : IsCopy (union_layout b) ls runs (union_layout (union_seen b.type ts cs None))
      sparse_copied =
          union_copied seen xs b runs like within (λ k. runs) cs sparse_within copies None (given_none (union_mode b.type) (length b.types) (length ts) given_b) fit low

  -- ---- dense
  module _ (dense : b.offsets ≡ None → ⊥) (parts : List (List Run)) (os : List ℤ) (are : AreDense ls (origins runs) parts os) where
    pub dense_have : HaveChildren b.children ls (λ k. get_or parts k [])
    dense_have = record {
      like = λ k lt. likes k;
      have = λ k lt. have_child (union_layout b) ls like (omega arith) k (omega (arith, count_is, lt));
      within = λ k lt. are.within k;
    }

    module _ (cs : List Layout) (copies : AreCopies b.children ls (λ k. get_or parts k []) cs) where
      abbrev kept_ts : List ℤ
      kept_ts = items_of_runs (map (λ x. (seen x).types) xs) runs

      rooms : (k : ℕ) → k < length b.children → AreWithin (each_child k ls) (get_or parts k [])
      rooms k lt = are.within k

      count_ts : length kept_ts ≡ length (origins runs)
      count_ts = types_count seen xs b runs like within (λ k. get_or parts k []) cs rooms copies

      -- the offset of slot i
      offset_there : (d : X) (i : ℕ) (lt : i < length (origins runs)) → (o : ℕ) × (get_or os i (pos 0) ≡ pos o)
          × (o < length (origins (get_or parts (child_of (seen (get_or xs (origin_at runs i).0 d)) (origin_at runs i).1) [])))
          × (origin_at (get_or parts (child_of (seen (get_or xs (origin_at runs i).0 d)) (origin_at runs i).1) []) o ≡ ((origin_at runs i).0, place_in (seen (get_or xs (origin_at runs i).0 d)).offsets (origin_at runs i).1))
      offset_there d i lt =
          subst (λ l. (o : ℕ) × (get_or os i (pos 0) ≡ pos o) × (o < length (origins (get_or parts (number_of (level l).parts (origin_at runs i).1) [])))
          × (get_or (origins (get_or parts (number_of (level l).parts (origin_at runs i).1) [])) o (0, 0) ≡ ((origin_at runs i).0, index_in (level l).parts (origin_at runs i).1)))
          (array_there seen xs b runs like within (λ k. get_or parts k []) cs rooms copies d i lt no_child) (are.each i lt)

      kept_low : (d : X) (i : ℕ) (lt : i < length (origins runs)) → (place_in (Some os) i < length (origins (get_or parts (child_of (seen (get_or xs (origin_at runs i).0 d)) (origin_at runs i).1) [])))
          × (origin_at (get_or parts (child_of (seen (get_or xs (origin_at runs i).0 d)) (origin_at runs i).1) []) (place_in (Some os) i) ≡ ((origin_at runs i).0, place_in (seen (get_or xs (origin_at runs i).0 d)).offsets (origin_at runs i).1))
      kept_low d i lt =
          let w = offset_there d i lt in
          let k = child_of (seen (get_or xs (origin_at runs i).0 d)) (origin_at runs i).1 in
          let is : place_of (get_or os i (pos 0)) ≡ w.0 = ap place_of w.1 in
          let under = w.2 in
          (omega (arith, is, under), ap (origin_at (get_or parts k [])) is ∙ w.3)

      kept_fit : PlacesFit (union_ids b.type) kept_ts (Some os) (lens_of (layouts cs))
      kept_fit = record {
        each = λ i lt.
            let below : i < length (origins runs) = omega (arith, count_ts, lt) in
            let d = first_of xs (origin_at runs i).0 (subst (λ m. (origin_at runs i).0 < m) (length-map xs (λ x. union_layout (seen x))) (first_there ls runs within i below)) in
            let k = child_of (seen (get_or xs (origin_at runs i).0 d)) (origin_at runs i).1 in
            let w = offset_there d i below in
            let small = number_low seen xs b runs like within (λ k. get_or parts k []) cs rooms copies d i below in
            let len : get_or (lens_of (layouts cs)) k 0 ≡ length (origins (get_or parts k [])) =
            child_len (layouts cs) k ∙ ap len_of (child_layouts cs k)
            ∙ copy_len (each_child k ls) (get_or parts k []) (are.within k) (get_or b.children k no_child) (get_or cs k no_child) (copies.each k small)
            in
            let under = w.2 in
            let room : w.0 < get_or (lens_of (layouts cs)) k 0 = omega (arith, len, under) in
            subst (λ n. KeyFits (get_or os i (pos 0)) (get_or (lens_of (layouts cs)) n 0)) (sym (number_there seen xs b runs like within (λ k. get_or parts k []) cs rooms copies d i below))
            (subst (λ z. KeyFits z (get_or (lens_of (layouts cs)) k 0)) (sym w.1) room);
      }
        where
          first_of : (ys : List X) (k : ℕ) → k < length ys → X
          first_of [] k lt = absurd (omega (arith, lt))
          first_of (y ∷ ys) k lt = y

      kept_given : OffsetsGiven (union_mode b.type) (Some os) (length kept_ts)
      kept_given = given_some (union_mode b.type) b.offsets os (length b.types) (length kept_ts) dense like.0.1.2.given (are.count ∙ sym count_ts)

      pub dense_unbroken : (e : Error) → BreaksUnion (union_seen b.type kept_ts cs (Some os)) e → ⊥
      dense_unbroken e breaks = union_unbroken seen xs b runs like within (λ k. get_or parts k []) cs rooms copies (Some os) kept_given kept_fit kept_low e breaks

      pub dense_copied : IsCopy (union_layout b) ls runs (union_layout (union_seen b.type kept_ts cs (Some os)))
      dense_copied = union_copied seen xs b runs like within (λ k. get_or parts k []) cs rooms copies (Some os) kept_given kept_fit kept_low
