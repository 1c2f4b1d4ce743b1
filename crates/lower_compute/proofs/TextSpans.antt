-- Texts, run by run.
use Rattle.std.proofs.Common.{arith, ◌≡◌, ℕ, ◌<◌, ◌≤◌, List, [], ◌∷◌, length, map, get_or, sym, ap, ap₂, subst, ◌∙◌}
use Rattle.std.specs.List.{All}
use Rattle.std.specs.Str.{IsUtf8}
use Rattle.std.proofs.lemmas.List.{length-map, get_or-map}
use Rattle.std.proofs.lemmas.List.Elements.{All-get_or}
use Rattle.lower.specs.Offsets.{IsOffsets}
use Rattle.lower.specs.TypeTrees.{TypeTree}
use Rattle.lower_flat_arrays.specs.Spans.{SpansSeen, span, span_count, AreTexts}
use Rattle.lower_flat_arrays.specs.Columns.{text_slot, slot_where, slots_from, text_at, text_column}
use Rattle.lower_builders.specs.Growing.{last_end_of}
use Rattle.lower_compute.specs.declared.runs.Run.{Run}
use Rattle.lower_compute.specs.Runs.{RunFits, items_of_runs, column_of_runs, origins, origin_at, run_of_items, offsets_of_runs, IsValidityOf}
use Rattle.lower_compute.proofs.RunPlaces.{gathered_any, map-map, place_fits}
use Rattle.lower_compute.proofs.NumberRuns.{valid_there}
use Rattle.lower_compute.proofs.SpanRuns.{slot_there, spans_count}

-- The slots of the runs are texts.
pub texts_there : {X : Type 0} (seen : X → SpansSeen) (xs : List X)
    → All (λ x. IsOffsets (seen x).offsets) xs → All (λ x. last_end_of (seen x).offsets ≤ length (seen x).values) xs
    → All (λ x. AreTexts (seen x).offsets (seen x).values) xs
    → (runs : List Run) → All (RunFits (map (λ x. span_count (seen x).offsets) xs)) runs
    → AreTexts (offsets_of_runs (map (λ x. (seen x).offsets) xs) runs)
    (items_of_runs (map (λ x. (seen x).values) xs) (map (run_of_items (map (λ x. (seen x).offsets) xs)) runs))
texts_there {X = X} seen xs are within texts runs fits = record {
  each = λ i lt.
      let count = spans_count seen xs runs fits in
      let below : i < length (origins runs) = omega (arith, count, lt) in
      let p = origin_at runs i in
      let there = place_fits (map (λ x. span_count (seen x).offsets) xs) runs i fits below in
      let first : p.0 < length xs = subst (λ m. p.0 < m) (length-map xs (λ x. span_count (seen x).offsets)) there.0 in
      let d = first_of xs p.0 first in
      let x = get_or xs p.0 d in
      let inner : p.1 < span_count (seen x).offsets = subst (λ m. p.1 < m) (get_or-map (λ x. span_count (seen x).offsets) xs p.0 d 0 first) there.1 in
      let are_texts = All-get_or (λ x. AreTexts (seen x).offsets (seen x).values) xs p.0 d first texts in
      subst IsUtf8 (sym (slot_there (λ x. (seen x).offsets) (λ x. (seen x).values) xs are within d runs i fits below))
      (are_texts.each p.1 (omega (arith, inner)));
}
  where
    first_of : (ys : List X) (k : ℕ) → k < length ys → X
    first_of [] k lt = absurd (omega (arith, lt))
    first_of (y ∷ ys) k lt = y

-- An array of the offsets, the texts and the validity of the runs has their slots.
pub texts_of_runs : {X : Type 0} (seen : X → SpansSeen) (xs : List X) (runs : List Run) (t : TypeTree) (a : SpansSeen)
    → All (λ x. IsOffsets (seen x).offsets) xs → All (λ x. last_end_of (seen x).offsets ≤ length (seen x).values) xs
    → All (RunFits (map (λ x. span_count (seen x).offsets) xs)) runs
    → a.type ≡ t → a.offsets ≡ offsets_of_runs (map (λ x. (seen x).offsets) xs) runs
    → a.values ≡ items_of_runs (map (λ x. (seen x).values) xs) (map (run_of_items (map (λ x. (seen x).offsets) xs)) runs)
    → IsValidityOf (map (λ x. (seen x).validity) xs) runs a.validity
    → text_column a ≡ column_of_runs t (map (λ x. text_column (seen x)) xs) runs
texts_of_runs {X = X} seen xs runs t a are within fits et eo ev is =
    λ i. record { type = et i; slots = (slots ∙ ap (λ cs. items_of_runs cs runs) (sym (map-map (λ c. c.slots) (λ x. text_column (seen x)) xs))) i }
  where
    count : span_count a.offsets ≡ length (origins runs)
    count = ap span_count eo ∙ spans_count seen xs runs fits

    slots : slots_from (text_at a) 0 (span_count a.offsets) ≡ items_of_runs (map (λ x. slots_from (text_at (seen x)) 0 (span_count (seen x).offsets)) xs) runs
    slots = gathered_any (λ x. span_count (seen x).offsets) (λ x. text_at (seen x)) xs runs (text_at a) (span_count a.offsets) fits count
        (λ d i lt.
        ap₂ (λ b z. slot_where b (text_slot z))
        (valid_there (λ x. span_count (seen x).offsets) (λ x. (seen x).validity) d xs runs a.validity i fits is lt)
        (ap₂ (λ os vs. span os vs i) eo ev
        ∙ slot_there (λ x. (seen x).offsets) (λ x. (seen x).values) xs are within d runs i fits lt))
