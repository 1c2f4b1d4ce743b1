-- Slots between offsets, run by run.
use Rattle.std.proofs.Common.{arith, zero, suc, refl, inl, inr, ◌≡◌, ◌⊎◌, ℕ, ◌+◌, ◌-◌, ◌<◌, ◌≤◌, List, [], ◌∷◌, ◌++◌, length, take, drop, map, get_or, sym, ap, ap₂, subst, ◌∙◌}
use Rattle.std.specs.Prelude.{slice_index, sum}
use Rattle.std.specs.List.{All}
use Rattle.std.proofs.lemmas.Bool.{cases_lt}
use Rattle.std.proofs.lemmas.List.{length-map, length-append, length-drop, get_or-map, take-take, drop-take, drop-drop, take-append-le, drop-append-le, drop_at, take_all}
use Rattle.std.proofs.lemmas.List.FromFn.{length-map-range_with_len, get_or-map-range_with_len}
use Rattle.std.proofs.lemmas.List.Sums.{sum_by-append, sum_by_more}
use Rattle.std.proofs.lemmas.List.Elements.{All-head, All-tail, All-map, All-weaker, All-get_or}
use Rattle.lower.specs.Offsets.{IsOffsets}
use Rattle.lower_flat_arrays.specs.Validities.{part}
use Rattle.lower.specs.TypeTrees.{TypeTree}
use Rattle.lower_flat_arrays.specs.Spans.{SpansSeen, span, span_count}
use Rattle.lower_flat_arrays.specs.Columns.{bytes_slot, slot_where, slots_from, bytes_at, bytes_column}
use Rattle.lower_flat_arrays.proofs.Cuts.{get_or-part, length-part}
use Rattle.lower_flat_arrays.proofs.SpanPlaces.{offset_le, offset_last}
use Rattle.lower_builders.specs.Growing.{last_end_of, offsets_by_lengths}
use Rattle.lower_builders.proofs.Lengths.{offsets_of-end}
use Rattle.lower_compute.specs.declared.runs.Run.{Run}
use Rattle.lower_compute.specs.Runs.{RunFits, items_of_run, items_of_runs, column_of_runs, origins, origin_at, widths, run_of_items, offsets_of_runs, IsValidityOf}
use Rattle.lower_compute.proofs.RunPlaces.{first_at, later_at, count_more, item_at, items-count, place_fits, gathered_any, map-map}
use Rattle.lower_compute.proofs.NumberRuns.{valid_there}

-- a part of a part
part_again : {A : Type 0} (k o n m : ℕ) (xs : List A) → o + n ≤ m → part o n (part k m xs) ≡ part (k + o) n xs
part_again k o n m xs h =
    let e : o + (m - o) ≡ m = omega arith in
    ap (λ i. take n (drop o (take i (drop k xs)))) (sym e)
    ∙ ap (λ l. take n l) (drop-take o (m - o) (drop k xs))
    ∙ take-take n (m - o) (drop o (drop k xs)) (omega arith)
    ∙ ap (λ l. take n l) (drop-drop o k xs)

-- a part of the first of two lists, and of the second
part_first : {A : Type 0} (o n : ℕ) (xs ys : List A) → o + n ≤ length xs → part o n (xs ++ ys) ≡ part o n xs
part_first o n xs ys h =
    ap (take n) (drop-append-le o xs ys (omega (arith, h)))
    ∙ take-append-le n (drop o xs) ys (let rest = length-drop o xs in omega (arith, rest, h))

part_second : {A : Type 0} (o n m : ℕ) (xs ys : List A) → length xs ≡ m → part (m + o) n (xs ++ ys) ≡ part o n ys
part_second o n m xs ys h =
    ap (take n) (sym (drop-drop o m (xs ++ ys)) ∙ ap (drop o) (drop_at xs ys m h))

-- how many items slot i has
abbrev pub width : List ℕ → ℕ → ℕ
width os i = slice_index os (i + 1) - slice_index os i

take-add : {A : Type 0} (n i : ℕ) (xs ys : List A) → length xs ≡ n → take (n + i) (xs ++ ys) ≡ xs ++ take i ys
take-add n i [] ys h = let e : n + i ≡ i = omega (arith, h) in ap (λ k. take k ys) e
take-add n i (x ∷ xs) ys h =
    let e : n + i ≡ suc (length xs + i) = omega (arith, h) in
    ap (λ k. take k ((x ∷ xs) ++ ys)) e ∙ ap (λ l. x ∷ l) (take-add (length xs) i xs ys refl)

module _ (os : List ℕ) (is : IsOffsets os) where
  some : 0 < length os
  some = is.some

  -- the widths of some slots
  pub run_widths : (o n i : ℕ) → o + n ≤ span_count os → i < n → get_or (part o n (widths os)) i 0 ≡ slice_index os (o + i + 1) - slice_index os (o + i)
  run_widths o n i h lt =
      let h0 = some in
      get_or-part o n (widths os) i 0 lt
      ∙ get_or-map-range_with_len (λ i. slice_index os (i + 1) - slice_index os i) 0 (span_count os) (o + i) (o + i) 0 (omega (arith, h, lt)) (omega arith)

  pub widths-count : length (widths os) ≡ span_count os
  widths-count = length-map-range_with_len (λ i. slice_index os (i + 1) - slice_index os i) 0 (span_count os)

  -- Together they are the distance of their offsets.
  pub sum-widths : (o n i : ℕ) → o + n ≤ span_count os → i ≤ n → sum (take i (part o n (widths os))) ≡ slice_index os (o + i) - slice_index os o
  sum-widths o n zero h le =
      let same : slice_index os (o + 0) ≡ slice_index os o = ap (slice_index os) (omega arith) in
      omega (arith, same)
  sum-widths o n (suc i) h le =
      let h0 = some in
      let count : length (part o n (widths os)) ≡ n = length-part o n (widths os) (omega (arith, h, widths-count)) in
      let step : sum (take (i + 1) (part o n (widths os))) ≡ sum (take i (part o n (widths os))) + get_or (part o n (widths os)) i 0 = sum_by_more (λ x. x) (part o n (widths os)) i 0 (omega (arith, count, le)) in
      let before = sum-widths o n i h (omega (arith, le)) in
      let this = run_widths o n i h (omega (arith, le)) in
      let low = offset_le os o i is (omega (arith, h, le, h0)) in
      let rise = is.rising (o + i) (omega (arith, h, le, h0)) in
      let e : o + suc i ≡ o + i + 1 = omega arith in
      let next : slice_index os (o + suc i) ≡ slice_index os (o + i + 1) = ap (slice_index os) e in
      let k : i + 1 ≡ suc i = omega arith in
      let whole : sum (take (suc i) (part o n (widths os))) ≡ sum (take (i + 1) (part o n (widths os))) = ap (λ j. sum (take j (part o n (widths os)))) (sym k) in
      omega (arith, step, before, this, low, rise, next, whole)

  -- The items of some slots.
  abbrev pub run_items : {A : Type 0} → ℕ → ℕ → List A → List A
  run_items o n vs = part (slice_index os o) (slice_index os (o + n) - slice_index os o) vs

  module _ {A : Type 0} (vs : List A) (ends : last_end_of os ≤ length vs) (o n : ℕ) (room : o + n ≤ span_count os) (ms : List ℕ) (ys : List A) where
    low : (k : ℕ) → k ≤ n → slice_index os o ≤ slice_index os (o + k)
    low k le = let h0 = some in offset_le os o k is (omega (arith, room, le, h0))

    high : (k : ℕ) → k ≤ n → slice_index os (o + k) ≤ slice_index os (o + n)
    high k le =
        let h0 = some in
        let e : o + k + (n - k) ≡ o + n = omega (arith, le) in
        subst (λ m. slice_index os (o + k) ≤ slice_index os m) e (offset_le os (o + k) (n - k) is (omega (arith, room, le, h0)))

    last : slice_index os (o + n) ≤ length vs
    last = let h0 = some in let le = offset_last os (o + n) is (omega (arith, room, h0)) in omega (arith, le, ends)

    pub item_count : length (run_items o n vs) ≡ slice_index os (o + n) - slice_index os o
    item_count =
        let a = low n (omega arith) in
        let b = last in
        length-part (slice_index os o) (slice_index os (o + n) - slice_index os o) vs (omega (arith, a, b))

    pub width_count : length (part o n (widths os)) ≡ n
    width_count = length-part o n (widths os) (omega (arith, room, widths-count))

    -- the items of a slot of the first run
    pub first_items : (i : ℕ) → i < n
        → part (sum (take i (part o n (widths os) ++ ms))) (width os (o + i)) (run_items o n vs ++ ys) ≡ part (slice_index os (o + i)) (width os (o + i)) vs
    first_items i lt =
        let start : sum (take i (part o n (widths os) ++ ms)) ≡ slice_index os (o + i) - slice_index os o =
        ap sum (take-append-le i (part o n (widths os)) ms (omega (arith, width_count, lt))) ∙ sum-widths o n i room (omega (arith, lt))
        in
        let a = low i (omega (arith, lt)) in
        let b = high (i + 1) (omega (arith, lt)) in
        let e : o + (i + 1) ≡ o + i + 1 = omega arith in
        let next : slice_index os (o + (i + 1)) ≡ slice_index os (o + i + 1) = ap (slice_index os) e in
        let h0 = some in
        let rise = is.rising (o + i) (omega (arith, room, lt, h0)) in
        let inner : slice_index os (o + i) - slice_index os o + width os (o + i) ≤ slice_index os (o + n) - slice_index os o = omega (arith, a, b, next, rise) in
        let there : slice_index os o + (slice_index os (o + i) - slice_index os o) ≡ slice_index os (o + i) = omega (arith, a) in
        ap (λ k. part k (width os (o + i)) (run_items o n vs ++ ys)) start
        ∙ part_first (slice_index os (o + i) - slice_index os o) (width os (o + i)) (run_items o n vs) ys (omega (arith, inner, item_count))
        ∙ part_again (slice_index os o) (slice_index os (o + i) - slice_index os o) (width os (o + i)) (slice_index os (o + n) - slice_index os o) vs inner
        ∙ ap (λ k. part k (width os (o + i)) vs) there

    -- and of a later one
    pub later_items : (i w : ℕ) → part (sum (take (n + i) (part o n (widths os) ++ ms))) w (run_items o n vs ++ ys) ≡ part (sum (take i ms)) w ys
    later_items i w =
        let both : sum (take (n + i) (part o n (widths os) ++ ms)) ≡ sum (part o n (widths os)) + sum (take i ms) =
        ap sum (take-add n i (part o n (widths os)) ms width_count) ∙ sum_by-append (λ x. x) (part o n (widths os)) (take i ms)
        in
        let all : sum (part o n (widths os)) ≡ slice_index os (o + n) - slice_index os o =
        ap sum (sym (take_all n (part o n (widths os)) (omega (arith, width_count)))) ∙ sum-widths o n n room (omega arith)
        in
        ap (λ k. part k w (run_items o n vs ++ ys)) (both ∙ ap (λ k. k + sum (take i ms)) all)
        ∙ part_second (sum (take i ms)) w (slice_index os (o + n) - slice_index os o) (run_items o n vs) ys item_count

-- The arrays: the offsets and the items of each.
module _ {X A : Type 0} (offsets : X → List ℕ) (values : X → List A) (xs : List X)
    (are : All (λ x. IsOffsets (offsets x)) xs) (within : All (λ x. last_end_of (offsets x) ≤ length (values x)) xs) (d : X) where
  -- the array at an index
  there : ℕ → X
  there k = get_or xs k d

  -- how many slots each has
  abbrev pub counts : List ℕ
  counts = map (λ x. span_count (offsets x)) xs

  -- the new widths, and the new items
  abbrev pub ns : List Run → List ℕ
  ns runs = items_of_runs (map widths (map offsets xs)) runs

  abbrev pub items : List Run → List A
  items runs = items_of_runs (map values xs) (map (run_of_items (map offsets xs)) runs)

  bound : (run : Run) → RunFits counts run → run.array < length xs
  bound run h = subst (λ m. run.array < m) (length-map xs (λ x. span_count (offsets x))) h.0

  room : (run : Run) → RunFits counts run → run.offset + run.len ≤ span_count (offsets (get_or xs run.array d))
  room run h = subst (λ m. run.offset + run.len ≤ m) (get_or-map (λ x. span_count (offsets x)) xs run.array d 0 (bound run h)) h.1

  os_is : (k : ℕ) → k < length xs → get_or (map offsets xs) k [] ≡ offsets (get_or xs k d)
  os_is k lt = get_or-map offsets xs k d [] lt

  widths_are : (k : ℕ) → k < length xs → get_or (map widths (map offsets xs)) k [] ≡ widths (offsets (get_or xs k d))
  widths_are k lt = get_or-map widths (map offsets xs) k [] [] (subst (λ m. k < m) (sym (length-map xs offsets)) lt) ∙ ap widths (os_is k lt)

  -- the widths and the items of the first run
  first_widths : (run : Run) → RunFits counts run → items_of_run (map widths (map offsets xs)) run ≡ part run.offset run.len (widths (offsets (get_or xs run.array d)))
  first_widths run h = ap (part run.offset run.len) (widths_are run.array (bound run h))

  first_values : (run : Run) → RunFits counts run
      → items_of_run (map values xs) (run_of_items (map offsets xs) run)
      ≡ part (slice_index (offsets (get_or xs run.array d)) run.offset) (slice_index (offsets (get_or xs run.array d)) (run.offset + run.len) - slice_index (offsets (get_or xs run.array d)) run.offset) (values (get_or xs run.array d))
  first_values run h =
      ap₂ (λ os vs. part (slice_index os run.offset) (slice_index os (run.offset + run.len) - slice_index os run.offset) vs)
      (os_is run.array (bound run h)) (get_or-map values xs run.array d [] (bound run h))

  -- the offsets of the array at a place
  abbrev pub offsets_at : ℕ × ℕ → List ℕ
  offsets_at p = offsets (get_or xs p.0 d)

  -- The items of a slot are those of the slot that it is from.
  pub span_there : (runs : List Run) (i : ℕ) → All (RunFits counts) runs → i < length (origins runs)
      → part (sum (take i (ns runs))) (width (offsets_at (origin_at runs i)) (origin_at runs i).1) (items runs)
      ≡ part (slice_index (offsets_at (origin_at runs i)) (origin_at runs i).1) (width (offsets_at (origin_at runs i)) (origin_at runs i).1) (values (get_or xs (origin_at runs i).0 d))
  span_there [] i h lt = absurd (omega (arith, lt))
  span_there (run ∷ runs) i h lt = by (λ k p q. span_there runs k p q) (cases_lt i run.len)
    where
      fit : RunFits counts run
      fit = All-head (RunFits counts) run runs h

      rest : All (RunFits counts) runs
      rest = All-tail (RunFits counts) run runs h

      is : IsOffsets (offsets (get_or xs run.array d))
      is = All-get_or (λ x. IsOffsets (offsets x)) xs run.array d (bound run fit) are

      ends : last_end_of (offsets (get_or xs run.array d)) ≤ length (values (get_or xs run.array d))
      ends = All-get_or (λ x. last_end_of (offsets x) ≤ length (values x)) xs run.array d (bound run fit) within

      by : ((k : ℕ) → All (RunFits counts) runs → k < length (origins runs)
          → part (sum (take k (ns runs))) (width (offsets_at (origin_at runs k)) (origin_at runs k).1) (items runs)
          ≡ part (slice_index (offsets_at (origin_at runs k)) (origin_at runs k).1) (width (offsets_at (origin_at runs k)) (origin_at runs k).1) (values (get_or xs (origin_at runs k).0 d)))
          → (i < run.len) ⊎ (run.len ≤ i)
          → part (sum (take i (ns (run ∷ runs)))) (width (offsets_at (origin_at (run ∷ runs) i)) (origin_at (run ∷ runs) i).1) (items (run ∷ runs))
          ≡ part (slice_index (offsets_at (origin_at (run ∷ runs) i)) (origin_at (run ∷ runs) i).1) (width (offsets_at (origin_at (run ∷ runs) i)) (origin_at (run ∷ runs) i).1) (values (get_or xs (origin_at (run ∷ runs) i).0 d))
      by before (inl below) =
          let Same : ℕ × ℕ → Type 0 = λ p. part (sum (take i (ns (run ∷ runs)))) (width (offsets_at p) p.1) (items (run ∷ runs)) ≡ part (slice_index (offsets_at p) p.1) (width (offsets_at p) p.1) (values (get_or xs p.0 d)) in
          subst Same (sym (first_at run runs i below))
          (ap₂ (λ a b. part (sum (take i (a ++ ns runs))) (width (offsets (get_or xs run.array d)) (run.offset + i)) (b ++ items runs)) (first_widths run fit) (first_values run fit)
          ∙ first_items (offsets (get_or xs run.array d)) is (values (get_or xs run.array d)) ends run.offset run.len (room run fit) (ns runs) (items runs) i below)
      by before (inr past) =
          let j = i - run.len in
          let whole : run.len + j ≡ i = omega (arith, past) in
          let count = count_more run runs in
          let below : j < length (origins runs) = omega (arith, count, lt, past) in
          let p = origin_at runs j in
          let Same : ℕ × ℕ → Type 0 = λ p. part (sum (take i (ns (run ∷ runs)))) (width (offsets_at p) p.1) (items (run ∷ runs)) ≡ part (slice_index (offsets_at p) p.1) (width (offsets_at p) p.1) (values (get_or xs p.0 d)) in
          subst Same (sym (later_at run runs i past))
          (ap₂ (λ a b. part (sum (take i (a ++ ns runs))) (width (offsets_at p) p.1) (b ++ items runs)) (first_widths run fit) (first_values run fit)
          ∙ ap (λ k. part (sum (take k (part run.offset run.len (widths (offsets (get_or xs run.array d))) ++ ns runs))) (width (offsets_at p) p.1) (part (slice_index (offsets (get_or xs run.array d)) run.offset) (slice_index (offsets (get_or xs run.array d)) (run.offset + run.len) - slice_index (offsets (get_or xs run.array d)) run.offset) (values (get_or xs run.array d)) ++ items runs)) (sym whole)
          ∙ later_items (offsets (get_or xs run.array d)) is (values (get_or xs run.array d)) ends run.offset run.len (room run fit) (ns runs) (items runs) j (width (offsets_at p) p.1)
          ∙ before j rest below)

  -- as many widths as slots
  lens : (ys : List X) → map (λ l. length l) (map widths (map offsets ys)) ≡ map (λ x. span_count (offsets x)) ys
  lens [] = refl
  lens (y ∷ ys) = ap₂ (λ m ms. m ∷ ms) (length-map-range_with_len (λ i. slice_index (offsets y) (i + 1) - slice_index (offsets y) i) 0 (span_count (offsets y))) (lens ys)

  widths-fit : (runs : List Run) → All (RunFits counts) runs → All (RunFits (map (λ l. length l) (map widths (map offsets xs)))) runs
  widths-fit runs h = subst (λ ls. All (RunFits ls) runs) (sym (lens xs)) h

  pub ns-count : (runs : List Run) → All (RunFits counts) runs → length (ns runs) ≡ length (origins runs)
  ns-count runs h = items-count (map widths (map offsets xs)) runs (widths-fit runs h)

  -- the width of a slot is that of the slot that it is from
  width_there : (runs : List Run) (i : ℕ) → All (RunFits counts) runs → i < length (origins runs) → get_or (ns runs) i 0 ≡ width (offsets_at (origin_at runs i)) (origin_at runs i).1
  width_there runs i h lt =
      let p = origin_at runs i in
      let there = place_fits counts runs i h lt in
      let first : p.0 < length xs = subst (λ m. p.0 < m) (length-map xs (λ x. span_count (offsets x))) there.0 in
      let below : p.1 < span_count (offsets (get_or xs p.0 d)) = subst (λ m. p.1 < m) (get_or-map (λ x. span_count (offsets x)) xs p.0 d 0 first) there.1 in
      item_at (map widths (map offsets xs)) 0 runs i (widths-fit runs h) lt
      ∙ ap (λ ws. get_or ws p.1 0) (widths_are p.0 first)
      ∙ get_or-map-range_with_len (λ i. slice_index (offsets (get_or xs p.0 d)) (i + 1) - slice_index (offsets (get_or xs p.0 d)) i) 0 (span_count (offsets (get_or xs p.0 d))) p.1 p.1 0 below (omega arith)

  -- a new offset
  new_offset : (runs : List Run) (i : ℕ) → i ≤ length (ns runs) → slice_index (offsets_by_lengths (ns runs)) i ≡ sum (take i (ns runs))
  new_offset runs i le = get_or-map-range_with_len (λ k. sum (take k (ns runs))) 0 (length (ns runs) + 1) i i 0 (omega (arith, le)) (omega arith)

  pub slot_there : (runs : List Run) (i : ℕ) → All (RunFits counts) runs → i < length (origins runs)
      → part (slice_index (offsets_by_lengths (ns runs)) i) (width (offsets_by_lengths (ns runs)) i) (items runs)
      ≡ part (slice_index (offsets_at (origin_at runs i)) (origin_at runs i).1) (width (offsets_at (origin_at runs i)) (origin_at runs i).1) (values (get_or xs (origin_at runs i).0 d))
  slot_there runs i h lt =
      let count = ns-count runs h in
      let this = new_offset runs i (omega (arith, count, lt)) in
      let next = new_offset runs (i + 1) (omega (arith, count, lt)) in
      let step : sum (take (i + 1) (ns runs)) ≡ sum (take i (ns runs)) + get_or (ns runs) i 0 = sum_by_more (λ x. x) (ns runs) i 0 (omega (arith, count, lt)) in
      let w = width_there runs i h lt in
      let wide : width (offsets_by_lengths (ns runs)) i ≡ width (offsets_at (origin_at runs i)) (origin_at runs i).1 = omega (arith, this, next, step, w) in
      ap₂ (λ a b. part a b (items runs)) this wide ∙ span_there runs i h lt

  -- all items are in a slot
  pub total : (runs : List Run) → All (RunFits counts) runs → length (items runs) ≡ sum (ns runs)
  total [] h = refl
  total (run ∷ runs) h =
      let fit = All-head (RunFits counts) run runs h in
      let os = offsets (get_or xs run.array d) in
      let vs = values (get_or xs run.array d) in
      let is = All-get_or (λ x. IsOffsets (offsets x)) xs run.array d (bound run fit) are in
      let ends = All-get_or (λ x. last_end_of (offsets x) ≤ length (values x)) xs run.array d (bound run fit) within in
      length-append (items_of_run (map values xs) (run_of_items (map offsets xs) run)) (items runs)
      ∙ ap₂ (λ m k. m + k)
      (ap (λ l. length l) (first_values run fit)
      ∙ item_count os is vs ends run.offset run.len (room run fit) [] []
      ∙ sym (sum-widths os is run.offset run.len run.len (room run fit) (omega arith))
      ∙ ap sum (take_all run.len (part run.offset run.len (widths os)) (let n = width_count os is vs ends run.offset run.len (room run fit) [] [] in omega (arith, n)))
      ∙ ap sum (sym (first_widths run fit)))
      (total runs (All-tail (RunFits counts) run runs h))
      ∙ sym (sum_by-append (λ x. x) (items_of_run (map widths (map offsets xs)) run) (ns runs))

-- The runs of items are within the lists.
pub items-fit : {X A : Type 0} (offsets : X → List ℕ) (values : X → List A) (xs : List X)
    → All (λ x. IsOffsets (offsets x)) xs → All (λ x. last_end_of (offsets x) ≤ length (values x)) xs
    → (runs : List Run) → All (RunFits (map (λ x. span_count (offsets x)) xs)) runs
    → All (RunFits (map (λ l. length l) (map values xs))) (map (run_of_items (map offsets xs)) runs)
items-fit {X = X} offsets values xs are within runs fits =
    All-map (RunFits (map (λ l. length l) (map values xs))) (run_of_items (map offsets xs)) runs
    (All-weaker (RunFits (map (λ x. span_count (offsets x)) xs)) (λ run. RunFits (map (λ l. length l) (map values xs)) (run_of_items (map offsets xs) run)) one runs fits)
  where
    first_of : (ys : List X) (k : ℕ) → k < length ys → X
    first_of [] k lt = absurd (omega (arith, lt))
    first_of (y ∷ ys) k lt = y

    one : (run : Run) → RunFits (map (λ x. span_count (offsets x)) xs) run → RunFits (map (λ l. length l) (map values xs)) (run_of_items (map offsets xs) run)
    one run h =
        let lt : run.array < length xs = subst (λ m. run.array < m) (length-map xs (λ x. span_count (offsets x))) h.0 in
        let d = first_of xs run.array lt in
        let x = get_or xs run.array d in
        let os = offsets x in
        let count : length (map (λ l. length l) (map values xs)) ≡ length xs = length-map (map values xs) (λ l. length l) ∙ length-map xs values in
        let same : get_or (map (λ l. length l) (map values xs)) run.array 0 ≡ length (values x) =
        ap (λ l. get_or l run.array 0) (map-map (λ l. length l) values xs) ∙ get_or-map (λ x. length (values x)) xs run.array d 0 lt
        in
        let room : run.offset + run.len ≤ span_count os = subst (λ m. run.offset + run.len ≤ m) (get_or-map (λ x. span_count (offsets x)) xs run.array d 0 lt) h.1 in
        let is : IsOffsets os = All-get_or (λ x. IsOffsets (offsets x)) xs run.array d lt are in
        let ends : last_end_of os ≤ length (values x) = All-get_or (λ x. last_end_of (offsets x) ≤ length (values x)) xs run.array d lt within in
        let some = is.some in
        let low = offset_le os run.offset run.len is (omega (arith, room, some)) in
        let high = offset_last os (run.offset + run.len) is (omega (arith, room, some)) in
        let le : slice_index os run.offset + (slice_index os (run.offset + run.len) - slice_index os run.offset) ≤ length (values x) = omega (arith, low, high, ends) in
        let os_is : get_or (map offsets xs) run.array [] ≡ os = get_or-map offsets xs run.array d [] lt in
        let Room : List ℕ → Type 0 = λ us. slice_index us run.offset + (slice_index us (run.offset + run.len) - slice_index us run.offset) ≤ get_or (map (λ l. length l) (map values xs)) run.array 0 in (
          subst (λ m. run.array < m) (sym count) lt,
          subst Room (sym os_is) (subst (λ m. slice_index os run.offset + (slice_index os (run.offset + run.len) - slice_index os run.offset) ≤ m) (sym same) le),
        )

-- All items are in a slot, whether or not there is an array.
pub total_any : {X A : Type 0} (offsets : X → List ℕ) (values : X → List A) (xs : List X)
    → All (λ x. IsOffsets (offsets x)) xs → All (λ x. last_end_of (offsets x) ≤ length (values x)) xs
    → (runs : List Run) → All (RunFits (map (λ x. span_count (offsets x)) xs)) runs
    → length (items_of_runs (map values xs) (map (run_of_items (map offsets xs)) runs)) ≡ sum (items_of_runs (map widths (map offsets xs)) runs)
total_any offsets values (x ∷ xs) are within runs fits = total offsets values (x ∷ xs) are within x runs fits
total_any offsets values [] are within [] fits = refl
total_any offsets values [] are within (run ∷ runs) fits = let lt : run.array < 0 = (All-head (RunFits []) run runs fits).0 in absurd (omega (arith, lt))

-- So the last offset is the end of the items.
pub ends_there : {X A : Type 0} (offsets : X → List ℕ) (values : X → List A) (xs : List X)
    → All (λ x. IsOffsets (offsets x)) xs → All (λ x. last_end_of (offsets x) ≤ length (values x)) xs
    → (runs : List Run) → All (RunFits (map (λ x. span_count (offsets x)) xs)) runs
    → last_end_of (offsets_of_runs (map offsets xs) runs) ≤ length (items_of_runs (map values xs) (map (run_of_items (map offsets xs)) runs))
ends_there offsets values xs are within runs fits =
    let end = offsets_of-end (items_of_runs (map widths (map offsets xs)) runs) in
    let all = total_any offsets values xs are within runs fits in
    omega (arith, end, all)

-- as many slots as the runs have
pub spans_count : {X : Type 0} (seen : X → SpansSeen) (xs : List X) (runs : List Run) → All (RunFits (map (λ x. span_count (seen x).offsets) xs)) runs
    → span_count (offsets_of_runs (map (λ x. (seen x).offsets) xs) runs) ≡ length (origins runs)
spans_count {X = X} seen xs runs fits =
    let more : length (offsets_of_runs (map (λ x. (seen x).offsets) xs) runs) ≡ length (items_of_runs (map widths (map (λ x. (seen x).offsets) xs)) runs) + 1 =
    length-map-range_with_len (λ k. sum (take k (items_of_runs (map widths (map (λ x. (seen x).offsets) xs)) runs))) 0 (length (items_of_runs (map widths (map (λ x. (seen x).offsets) xs)) runs) + 1)
    in
    let count = items-count (map widths (map (λ x. (seen x).offsets) xs)) runs (subst (λ ls. All (RunFits ls) runs) (sym (lens xs)) fits) in
    omega (arith, more, count)
  where
    lens : (ys : List X) → map (λ l. length l) (map widths (map (λ x. (seen x).offsets) ys)) ≡ map (λ x. span_count (seen x).offsets) ys
    lens [] = refl
    lens (y ∷ ys) = ap₂ (λ m ms. m ∷ ms) (length-map-range_with_len (λ i. slice_index (seen y).offsets (i + 1) - slice_index (seen y).offsets i) 0 (span_count (seen y).offsets)) (lens ys)

-- An array of the offsets, the bytes and the validity of the runs has their slots.
pub bytes_of_runs : {X : Type 0} (seen : X → SpansSeen) (xs : List X) (runs : List Run) (t : TypeTree) (a : SpansSeen)
    → All (λ x. IsOffsets (seen x).offsets) xs → All (λ x. last_end_of (seen x).offsets ≤ length (seen x).values) xs
    → All (RunFits (map (λ x. span_count (seen x).offsets) xs)) runs
    → a.type ≡ t → a.offsets ≡ offsets_of_runs (map (λ x. (seen x).offsets) xs) runs
    → a.values ≡ items_of_runs (map (λ x. (seen x).values) xs) (map (run_of_items (map (λ x. (seen x).offsets) xs)) runs)
    → IsValidityOf (map (λ x. (seen x).validity) xs) runs a.validity
    → bytes_column a ≡ column_of_runs t (map (λ x. bytes_column (seen x)) xs) runs
bytes_of_runs {X = X} seen xs runs t a are within fits et eo ev is =
    λ i. record { type = et i; slots = (slots ∙ ap (λ cs. items_of_runs cs runs) (sym (map-map (λ c. c.slots) (λ x. bytes_column (seen x)) xs))) i }
  where
    count : span_count a.offsets ≡ length (origins runs)
    count = ap span_count eo ∙ spans_count seen xs runs fits

    slots : slots_from (bytes_at a) 0 (span_count a.offsets) ≡ items_of_runs (map (λ x. slots_from (bytes_at (seen x)) 0 (span_count (seen x).offsets)) xs) runs
    slots = gathered_any (λ x. span_count (seen x).offsets) (λ x. bytes_at (seen x)) xs runs (bytes_at a) (span_count a.offsets) fits count
        (λ d i lt.
        ap₂ (λ b z. slot_where b (bytes_slot z))
        (valid_there (λ x. span_count (seen x).offsets) (λ x. (seen x).validity) d xs runs a.validity i fits is lt)
        (ap₂ (λ os vs. span os vs i) eo ev
        ∙ slot_there (λ x. (seen x).offsets) (λ x. (seen x).values) xs are within d runs i fits lt))
