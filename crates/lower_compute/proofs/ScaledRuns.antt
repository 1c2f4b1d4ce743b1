-- Slots of equally many items, run by run.
use Rattle.std.proofs.Common.{arith, inl, inr, ◌≡◌, ◌⊎◌, ℕ, ◌+◌, ◌-◌, ◌*◌, ◌^◌, ◌<◌, ◌≤◌, List, [], ◌∷◌, length, map, get_or, sym, ap, ap₂, subst, ◌∙◌}
use Rattle.std.specs.List.{All}
use Rattle.std.proofs.Math.Nat.{add-mul, mul_comm}
use Rattle.std.proofs.lemmas.Nat.{mul-le, mul-add-lt}
use Rattle.std.proofs.lemmas.Bool.{cases_lt}
use Rattle.std.proofs.lemmas.List.{length-map, get_or-map, ext_get_or}
use Rattle.std.proofs.lemmas.List.Elements.{All-map, All-weaker, All-get_or}
use Rattle.lower.specs.TypeTrees.{TypeTree}
use Rattle.lower_flat_arrays.specs.Validities.{part}
use Rattle.lower_flat_arrays.specs.FixedBinaries.{FixedBinarySeen}
use Rattle.lower_flat_arrays.specs.Columns.{bytes_slot, slot_where, slots_from, fixed_at, fixed_column}
use Rattle.lower_flat_arrays.proofs.Cuts.{get_or-part, length-part}
use Rattle.lower_compute.specs.declared.runs.Run.{Run}
use Rattle.lower_compute.specs.Runs.{RunFits, items_of_runs, column_of_runs, origins, origin_at, scaled, IsValidityOf}
use Rattle.lower_compute.proofs.RunPlaces.{map-map, item, item_at, items-count, place_fits, first_at, later_at, count_more, gathered_any}
use Rattle.lower_compute.proofs.NumberRuns.{valid_there}

-- as many items as the slots have
pub count-scaled : (size : ℕ) (runs : List Run) → length (origins (map (scaled size) runs)) ≡ length (origins runs) * size
count-scaled size [] = omega arith
count-scaled size (run ∷ runs) =
    let this = count_more (scaled size run) (map (scaled size) runs) in
    let slots : length (origins (run ∷ runs)) ≡ run.len + length (origins runs) = count_more run runs in
    let rest = count-scaled size runs in
    let both : (run.len + length (origins runs)) * size ≡ run.len * size + length (origins runs) * size = add-mul run.len (length (origins runs)) size in
    this ∙ ap (λ n. run.len * size + n) rest ∙ sym both ∙ ap (λ n. n * size) (sym slots)

-- item j of slot i
pub place-scaled : (size : ℕ) (runs : List Run) (i j : ℕ) → i < length (origins runs) → j < size
    → origin_at (map (scaled size) runs) (i * size + j) ≡ ((origin_at runs i).0, (origin_at runs i).1 * size + j)
place-scaled size [] i j h k = absurd (omega (arith, h))
place-scaled size (run ∷ runs) i j h k = by (λ a b p q. place-scaled size runs a b p q) (cases_lt i run.len)
  where
    by : ((a b : ℕ) → a < length (origins runs) → b < size → origin_at (map (scaled size) runs) (a * size + b) ≡ ((origin_at runs a).0, (origin_at runs a).1 * size + b)) → (i < run.len) ⊎ (run.len ≤ i) → origin_at (map (scaled size) (run ∷ runs)) (i * size + j) ≡ ((origin_at (run ∷ runs) i).0, (origin_at (run ∷ runs) i).1 * size + j)
    by rest-is (inl lt) =
        let below : i * size + j < run.len * size = subst (λ m. i * size + j < m) (mul_comm size run.len) (mul-add-lt i size j run.len lt k) in
        let both : (run.offset + i) * size ≡ run.offset * size + i * size = add-mul run.offset i size in
        let sum : run.offset * size + (i * size + j) ≡ (run.offset + i) * size + j = omega (arith, both) in
        first_at (scaled size run) (map (scaled size) runs) (i * size + j) below
        ∙ ap (λ n. (run.array, n)) sum
        ∙ sym (ap (λ (p : ℕ × ℕ). (p.0, p.1 * size + j)) (first_at run runs i lt))
    by rest-is (inr le) =
        let rest = i - run.len in
        let whole : run.len + rest ≡ i = omega (arith, le) in
        let both : (run.len + rest) * size ≡ run.len * size + rest * size = add-mul run.len rest size in
        let same : (run.len + rest) * size ≡ i * size = ap (λ n. n * size) whole in
        let past : run.len * size ≤ i * size + j = omega (arith, both, same) in
        let there : i * size + j - run.len * size ≡ rest * size + j = omega (arith, both, same) in
        let count = count_more run runs in
        let below : rest < length (origins runs) = omega (arith, count, h, le) in
        later_at (scaled size run) (map (scaled size) runs) (i * size + j) past
        ∙ ap (origin_at (map (scaled size) runs)) there
        ∙ rest-is rest j below k
        ∙ sym (ap (λ (p : ℕ × ℕ). (p.0, p.1 * size + j)) (later_at run runs i le))

module _ {X A : Type 0} (n : X → ℕ) (values : X → List A) (size : ℕ) (xs : List X) (long : All (λ x. length (values x) ≡ n x * size) xs) where
  -- the items of a run's slots are within the array
  pub items_room : (d : X) (run : Run) → RunFits (map n xs) run → run.offset * size + run.len * size ≤ length (values (get_or xs run.array d))
  items_room d run h =
      let lt : run.array < length xs = subst (λ m. run.array < m) (length-map xs n) h.0 in
      let x = get_or xs run.array d in
      let is : get_or (map n xs) run.array 0 ≡ n x = get_or-map n xs run.array d 0 lt in
      let whole : length (values x) ≡ n x * size = All-get_or (λ x. length (values x) ≡ n x * size) xs run.array d lt long in
      let within : run.offset + run.len ≤ n x = subst (λ m. run.offset + run.len ≤ m) is h.1 in
      let both : (run.offset + run.len) * size ≡ run.offset * size + run.len * size = add-mul run.offset run.len size in
      let more = mul-le (run.offset + run.len) size (n x) size within (omega arith) in
      omega (arith, whole, both, more)

  -- an element of a list that has one
  first_of : (ys : List X) (k : ℕ) → k < length ys → X
  first_of [] k lt = absurd (omega (arith, lt))
  first_of (y ∷ ys) k lt = y

  -- so the run of items is too
  pub run_scaled-fit : (run : Run) → RunFits (map n xs) run → RunFits (map (λ l. length l) (map values xs)) (scaled size run)
  run_scaled-fit run h =
      let lt : run.array < length xs = subst (λ m. run.array < m) (length-map xs n) h.0 in
      let d = first_of xs run.array lt in
      let count : length (map (λ l. length l) (map values xs)) ≡ length xs = length-map (map values xs) (λ l. length l) ∙ length-map xs values in
      let same : get_or (map (λ l. length l) (map values xs)) run.array 0 ≡ length (values (get_or xs run.array d)) =
      ap (λ l. get_or l run.array 0) (map-map (λ l. length l) values xs) ∙ get_or-map (λ x. length (values x)) xs run.array d 0 lt
      in
      (subst (λ m. run.array < m) (sym count) lt, subst (λ m. run.offset * size + run.len * size ≤ m) (sym same) (items_room d run h))

  pub scaled-fit : (runs : List Run) → All (RunFits (map n xs)) runs → All (RunFits (map (λ l. length l) (map values xs))) (map (scaled size) runs)
  scaled-fit runs h =
      All-map (RunFits (map (λ l. length l) (map values xs))) (scaled size) runs
      (All-weaker (RunFits (map n xs)) (λ run. RunFits (map (λ l. length l) (map values xs)) (scaled size run)) run_scaled-fit runs h)

  -- no index of an item is too large
  pub scaled_small : All (λ x. length (values x) < 2 ^ 64) xs → (runs : List Run) → All (RunFits (map n xs)) runs → All (λ run. (run.offset * size < 2 ^ 64) × (run.len * size < 2 ^ 64)) runs
  scaled_small small runs h =
      All-weaker (RunFits (map n xs)) (λ run. (run.offset * size < 2 ^ 64) × (run.len * size < 2 ^ 64)) (λ run fit.
      let lt : run.array < length xs = subst (λ m. run.array < m) (length-map xs n) fit.0 in
      let d = first_of xs run.array lt in
      let le = items_room d run fit in
      let top : length (values (get_or xs run.array d)) < 2 ^ 64 = All-get_or (λ x. length (values x) < 2 ^ 64) xs run.array d lt small in
      (omega (arith, le, top), omega (arith, le, top))) runs h

  -- The items of slot i are those of the slot that it is from.
  pub pieces_there : (runs : List Run) (d : X) (c : A) (i : ℕ) → All (RunFits (map n xs)) runs → i < length (origins runs)
      → part (i * size) size (items_of_runs (map values xs) (map (scaled size) runs))
      ≡ part ((origin_at runs i).1 * size) size (values (get_or xs (origin_at runs i).0 d))
  pieces_there runs d c i fits lt =
      let p = origin_at runs i in
      let all = items_of_runs (map values xs) (map (scaled size) runs) in
      let fit = scaled-fit runs fits in
      let there = place_fits (map n xs) runs i fits lt in
      let first : p.0 < length xs = subst (λ m. p.0 < m) (length-map xs n) there.0 in
      let x = get_or xs p.0 d in
      let is : get_or (map n xs) p.0 0 ≡ n x = get_or-map n xs p.0 d 0 first in
      let whole : length (values x) ≡ n x * size = All-get_or (λ x. length (values x) ≡ n x * size) xs p.0 d first long in
      let low = there.1 in
      let next : p.1 + 1 ≤ n x = omega (arith, is, low) in
      let more : (p.1 + 1) * size ≤ n x * size = mul-le (p.1 + 1) size (n x) size next (omega arith) in
      let one : (p.1 + 1) * size ≡ p.1 * size + 1 * size = add-mul p.1 1 size in
      let source : length (part (p.1 * size) size (values x)) ≡ size = length-part (p.1 * size) size (values x) (omega (arith, whole, more, one)) in
      let count : length all ≡ length (origins runs) * size = items-count (map values xs) (map (scaled size) runs) fit ∙ count-scaled size runs in
      let after : (i + 1) * size ≤ length (origins runs) * size = mul-le (i + 1) size (length (origins runs)) size (omega (arith, lt)) (omega arith) in
      let step : (i + 1) * size ≡ i * size + 1 * size = add-mul i 1 size in
      let made : length (part (i * size) size all) ≡ size = length-part (i * size) size all (omega (arith, count, after, step)) in
      ext_get_or c (part (i * size) size all) (part (p.1 * size) size (values x)) (made ∙ sym source)
      (λ j below.
      let small : j < size = subst (λ m. j < m) made below in
      let in_all : i * size + j < length (origins (map (scaled size) runs)) =
      let scale = count-scaled size runs in omega (arith, scale, after, step, small)
      in
      get_or-part (i * size) size all j c small
      ∙ item_at (map values xs) c (map (scaled size) runs) (i * size + j) fit in_all
      ∙ ap (item (map values xs) c) (place-scaled size runs i j lt small)
      ∙ ap (λ l. get_or l (p.1 * size + j) c) (get_or-map values xs p.0 d [] first)
      ∙ sym (get_or-part (p.1 * size) size (values x) j c small))

-- An array of the bytes and the validity of the runs has their slots.
pub fixed_of_runs : {X : Type 0} (seen : X → FixedBinarySeen) (size : ℕ) (xs : List X) (runs : List Run) (t : TypeTree) (a : FixedBinarySeen)
    → All (λ x. (seen x).size ≡ size) xs → All (λ x. length (seen x).values ≡ (seen x).len * size) xs
    → All (RunFits (map (λ x. (seen x).len) xs)) runs
    → a.type ≡ t → a.size ≡ size → a.len ≡ length (origins runs)
    → a.values ≡ items_of_runs (map (λ x. (seen x).values) xs) (map (scaled size) runs)
    → IsValidityOf (map (λ x. (seen x).validity) xs) runs a.validity
    → fixed_column a ≡ column_of_runs t (map (λ x. fixed_column (seen x)) xs) runs
fixed_of_runs {X = X} seen size xs runs t a sizes long fits et es el ev is =
    λ i. record { type = et i; slots = (slots ∙ ap (λ cs. items_of_runs cs runs) (sym (map-map (λ c. c.slots) (λ x. fixed_column (seen x)) xs))) i }
  where
    slots : slots_from (fixed_at a) 0 a.len ≡ items_of_runs (map (λ x. slots_from (fixed_at (seen x)) 0 (seen x).len) xs) runs
    slots = gathered_any (λ x. (seen x).len) (λ x. fixed_at (seen x)) xs runs (fixed_at a) a.len fits el
        (λ d i lt.
        let p = origin_at runs i in
        let there = place_fits (map (λ x. (seen x).len) xs) runs i fits lt in
        let first : p.0 < length xs = subst (λ m. p.0 < m) (length-map xs (λ x. (seen x).len)) there.0 in
        let has : (seen (get_or xs p.0 d)).size ≡ size = All-get_or (λ x. (seen x).size ≡ size) xs p.0 d first sizes in
        ap₂ (λ b z. slot_where b (bytes_slot z))
        (valid_there (λ x. (seen x).len) (λ x. (seen x).validity) d xs runs a.validity i fits is lt)
        (ap₂ (λ s vs. part (i * s) s vs) es ev
        ∙ pieces_there (λ x. (seen x).len) (λ x. (seen x).values) size xs long runs d 0 i fits lt
        ∙ sym (ap (λ s. part (p.1 * s) s (seen (get_or xs p.0 d)).values) has)))

-- how many slots the bytes make
pub scaled_count : {X A : Type 0} (n : X → ℕ) (values : X → List A) (size : ℕ) (xs : List X) → All (λ x. length (values x) ≡ n x * size) xs
    → (runs : List Run) → All (RunFits (map n xs)) runs → length (items_of_runs (map values xs) (map (scaled size) runs)) ≡ length (origins runs) * size
scaled_count n values size xs long runs fits = items-count (map values xs) (map (scaled size) runs) (scaled-fit n values size xs long runs fits) ∙ count-scaled size runs
