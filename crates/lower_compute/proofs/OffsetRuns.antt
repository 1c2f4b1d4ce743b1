-- Offsets of slots of runs, one by one.
use Rattle.std.proofs.Common.{arith, ◌≡◌, ℕ, ◌+◌, ◌-◌, ◌<◌, ◌≤◌, List, [], ◌∷◌, ◌++◌, length, take, drop, map, get_or, sym, ap, ap₂, subst, ◌∙◌}
use Rattle.std.specs.Prelude.{slice_index, sum}
use Rattle.std.proofs.lemmas.List.{length-map, get_or-map, append_assoc, take_more}
use Rattle.std.proofs.lemmas.List.Sums.{sum_by-append, sum_by_more_le}
use Rattle.lower.specs.Offsets.{IsOffsets}
use Rattle.lower_flat_arrays.specs.Validities.{part}
use Rattle.lower_flat_arrays.specs.Spans.{span_count}
use Rattle.lower_flat_arrays.proofs.Cuts.{length-part}
use Rattle.lower_builders.specs.Growing.{last_end_of, offsets_by_lengths}
use Rattle.lower_builders.proofs.Lengths.{offsets_of-end, offsets_of-push}
use Rattle.lower_compute.specs.declared.runs.Run.{Run}
use Rattle.lower_compute.specs.Runs.{items_of_run, items_of_runs, widths, run_between, run_of_items}
use Rattle.lower_compute.proofs.RunPlaces.{items_more, items_split}
use Rattle.lower_compute.proofs.SpanRuns.{run_widths, widths-count}

module _ (os : List ℕ) (is : IsOffsets os) (o n : ℕ) (h : o + n ≤ span_count os) (i : ℕ) (lt : i < n) (ns : List ℕ) where
  count : length (part o n (widths os)) ≡ n
  count = let all = widths-count os is in length-part o n (widths os) (omega (arith, h, all))

  inside : i < length (part o n (widths os))
  inside = omega (arith, count, lt)

  -- one offset more
  pub offset_more : (all all' : List ℕ) (w : ℕ) → all ≡ offsets_by_lengths (ns ++ take i (part o n (widths os))) → w ≡ slice_index os (o + i + 1) - slice_index os (o + i)
      → all' ≡ all ++ (last_end_of all + w) ∷ [] → all' ≡ offsets_by_lengths (ns ++ take (i + 1) (part o n (widths os)))
  offset_more all all' w before wide e =
      let ms = part o n (widths os) in
      let this : w ≡ get_or ms i 0 = wide ∙ sym (run_widths os is o n i h lt) in
      e
      ∙ ap₂ (λ us v. us ++ (last_end_of us + v) ∷ []) before this
      ∙ sym (offsets_of-push (ns ++ take i ms) (get_or ms i 0))
      ∙ ap offsets_by_lengths (append_assoc ns (take i ms) (get_or ms i 0 ∷ []) ∙ ap (λ us. ns ++ us) (sym (take_more ms i 0 inside)))

  -- it isn't above the last of all
  pub offset_within_all : (all : List ℕ) (w : ℕ) → all ≡ offsets_by_lengths (ns ++ take i (part o n (widths os))) → w ≡ slice_index os (o + i + 1) - slice_index os (o + i)
      → last_end_of all + w ≤ sum (ns ++ part o n (widths os))
  offset_within_all all w before wide =
      let ms = part o n (widths os) in
      let this : w ≡ get_or ms i 0 = wide ∙ sym (run_widths os is o n i h lt) in
      let end : last_end_of all ≡ sum (ns ++ take i ms) = ap last_end_of before ∙ offsets_of-end (ns ++ take i ms) in
      let first : sum (ns ++ take i ms) ≡ sum ns + sum (take i ms) = sum_by-append (λ x. x) ns (take i ms) in
      let whole : sum (ns ++ ms) ≡ sum ns + sum ms = sum_by-append (λ x. x) ns ms in
      let le : sum (take i ms) + get_or ms i 0 ≤ sum ms = sum_by_more_le (λ x. x) ms i 0 inside in
      omega (arith, this, end, first, whole, le)

-- the widths of the slots of a run
module _ {X : Type 0} (offsets : X → List ℕ) (xs : List X) (run : Run) (x : X) (h : run.array < length xs) (at : x ≡ get_or xs run.array x) where
  pub os_there : get_or (map offsets xs) run.array [] ≡ offsets x
  os_there = get_or-map offsets xs run.array x [] h ∙ ap offsets (sym at)

  pub widths_there : items_of_run (map widths (map offsets xs)) run ≡ part run.offset run.len (widths (offsets x))
  widths_there =
      let inner : run.array < length (map offsets xs) = subst (λ m. run.array < m) (sym (length-map xs offsets)) h in
      ap (part run.offset run.len) (get_or-map widths (map offsets xs) run.array [] [] inner ∙ ap widths os_there)

  pub run_there : run_between (offsets x) run ≡ run_of_items (map offsets xs) run
  run_there = ap (λ os. run_between os run) (sym os_there)

-- the sum of the first items is no more than that of all
pub sum_of_first : (lists : List (List ℕ)) (runs : List Run) (k : ℕ) (run : Run) (ms : List ℕ) → k < length runs → run ≡ get_or runs k run → items_of_run lists run ≡ ms
    → sum (items_of_runs lists (take k runs) ++ ms) ≤ sum (items_of_runs lists runs)
sum_of_first lists runs k run ms h at e =
    let more : items_of_runs lists (take (k + 1) runs) ≡ items_of_runs lists (take k runs) ++ ms = items_more lists runs k run h at ∙ ap (λ l. items_of_runs lists (take k runs) ++ l) e in
    let split = items_split lists runs (k + 1) in
    let both : sum (items_of_runs lists (take (k + 1) runs) ++ items_of_runs lists (drop (k + 1) runs)) ≡ sum (items_of_runs lists (take (k + 1) runs)) + sum (items_of_runs lists (drop (k + 1) runs)) =
    sum_by-append (λ x. x) (items_of_runs lists (take (k + 1) runs)) (items_of_runs lists (drop (k + 1) runs))
    in
    let same : sum (items_of_runs lists (take (k + 1) runs)) ≡ sum (items_of_runs lists (take k runs) ++ ms) = ap sum more in
    let whole : sum (items_of_runs lists runs) ≡ sum (items_of_runs lists (take (k + 1) runs) ++ items_of_runs lists (drop (k + 1) runs)) = ap sum split in
    omega (arith, both, same, whole)
