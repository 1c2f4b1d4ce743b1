-- Arrays of numbers and of booleans, run by run.
use Rattle.std.proofs.Common.{arith, zero, suc, refl, ◌≡◌, ℕ, ◌+◌, ◌<◌, ◌≤◌, List, [], ◌∷◌, ◌++◌, length, take, drop, map, get_or, sym, ap, ap₂, subst, ◌∙◌, pos}
use Rattle.std.specs.Prelude.{slice_index, Some, None}
use Rattle.std.specs.List.{All}
use Rattle.std.proofs.lemmas.List.{length-map, get_or-map, take-map, drop-map, map-append}
use Rattle.std.proofs.lemmas.List.Elements.{All-weaker, All-get_or}
use Rattle.lower.specs.TypeTrees.{TypeTree}
use Rattle.lower_types.specs.NumberTypes.{Number, whole}
use Rattle.lower_flat_arrays.specs.Validities.{Validity, is_valid, part, ValidityFits, ValidityHolds}
use Rattle.lower_flat_arrays.specs.Primitives.{PrimitiveSeen}
use Rattle.lower_flat_arrays.specs.Booleans.{BooleanSeen}
use Rattle.lower_flat_arrays.specs.Columns.{number_slot, truth_slot, slot_where, slots_from, number_at, number_column, truth_at, truth_column}
use Rattle.lower_compute.specs.declared.runs.Run.{Run}
use Rattle.lower_compute.specs.Runs.{RunFits, items_of_run, items_of_runs, column_of_runs, origins, origin_at, BitsFit, IsValidityOf}
use Rattle.lower_compute.proofs.RunPlaces.{map-map, item_at, items-count, gathered_any, place_fits}

-- a run within an array is within its validity
pub bits-fit : {X : Type 0} (n : X → ℕ) (v : X → Validity) (xs : List X) (runs : List Run)
    → All (λ x. ValidityFits (v x) (n x)) xs → All (RunFits (map n xs)) runs → All (BitsFit (map v xs)) runs
bits-fit {X = X} n v xs runs valid fits = All-weaker (RunFits (map n xs)) (BitsFit (map v xs)) one runs fits
  where
    hold : (v : Validity) (n m : ℕ) → m ≤ n → ValidityFits v n → ValidityHolds v m
    hold None n m le h = tt
    hold (Some bits) n m le h = omega (arith, le, h)

    there : (ys : List X) → xs ≡ ys → (run : Run) → RunFits (map n xs) run → run.array < length xs → ValidityHolds (get_or (map v xs) run.array None) (run.offset + run.len)
    there [] e run h lt = let no : length xs ≡ 0 = ap (λ l. length l) e in absurd (omega (arith, no, lt))
    there (d ∷ ys) e run h lt =
        let x = get_or xs run.array d in
        let room : slice_index (map n xs) run.array ≡ n x = get_or-map n xs run.array d 0 lt in
        let le : run.offset + run.len ≤ n x = subst (λ m. run.offset + run.len ≤ m) room h.1 in
        subst (λ w. ValidityHolds w (run.offset + run.len)) (sym (get_or-map v xs run.array d None lt))
        (hold (v x) (n x) (run.offset + run.len) le (All-get_or (λ y. ValidityFits (v y) (n y)) xs run.array d lt valid))

    one : (run : Run) → RunFits (map n xs) run → BitsFit (map v xs) run
    one run h =
        let lt : run.array < length xs = subst (λ m. run.array < m) (length-map xs n) h.0 in
        (subst (λ m. run.array < m) (sym (length-map xs v)) lt, there xs refl run h lt)

-- the bit of slot i of runs, by the array that it is from
pub valid_there : {X : Type 0} (n : X → ℕ) (v : X → Validity) (d : X) (xs : List X) (runs : List Run) (w : Validity) (i : ℕ)
    → All (RunFits (map n xs)) runs → IsValidityOf (map v xs) runs w → i < length (origins runs)
    → is_valid w i ≡ is_valid (v (get_or xs (origin_at runs i).0 d)) (origin_at runs i).1
valid_there n v d xs runs w i fits is lt =
    let p = origin_at runs i in
    let there = place_fits (map n xs) runs i fits lt in
    let first : p.0 < length xs = subst (λ m. p.0 < m) (length-map xs n) there.0 in
    is.each i lt ∙ ap (λ b. is_valid b p.1) (get_or-map v xs p.0 d None first)

-- a function of each item
map-part : {A B : Type 0} (f : A → B) (o n : ℕ) (xs : List A) → map f (part o n xs) ≡ part o n (map f xs)
map-part f o n xs = sym (take-map f n (drop o xs)) ∙ ap (take n) (sym (drop-map f o xs))

-- item i of the lists of some arrays, through a function
pub mapped_there : {X A C : Type 0} (n : X → ℕ) (values : X → List A) (f : A → C) (c : C) (d : X) (xs : List X) (runs : List Run) (i : ℕ)
    → ((x : X) → length (values x) ≡ n x) → All (RunFits (map n xs)) runs → i < length (origins runs)
    → get_or (map f (items_of_runs (map values xs) runs)) i c ≡ get_or (map f (values (get_or xs (origin_at runs i).0 d))) (origin_at runs i).1 c
mapped_there {X = X} n values f c d xs runs i long fits lt =
    let p = origin_at runs i in
    let there = place_fits (map n xs) runs i fits lt in
    let first : p.0 < length xs = subst (λ m. p.0 < m) (length-map xs n) there.0 in
    ap (λ l. get_or l i c) (mapped runs)
    ∙ item_at (map (λ x. map f (values x)) xs) c runs i lens-fit lt
    ∙ ap (λ l. get_or l p.1 c) (get_or-map (λ x. map f (values x)) xs p.0 d [] first)
  where
    lens : (ys : List X) → map (λ l. length l) (map (λ x. map f (values x)) ys) ≡ map n ys
    lens [] = refl
    lens (y ∷ ys) = ap₂ (λ m ms. m ∷ ms) (length-map (values y) f ∙ long y) (lens ys)

    lens-fit : All (RunFits (map (λ l. length l) (map (λ x. map f (values x)) xs))) runs
    lens-fit = subst (λ ls. All (RunFits ls) runs) (sym (lens xs)) fits

    there_mapped : (ys : List X) (k : ℕ) → map f (get_or (map values ys) k []) ≡ get_or (map (λ x. map f (values x)) ys) k []
    there_mapped [] k = refl
    there_mapped (y ∷ ys) zero = refl
    there_mapped (y ∷ ys) (suc k) = there_mapped ys k

    mapped : (rs : List Run) → map f (items_of_runs (map values xs) rs) ≡ items_of_runs (map (λ x. map f (values x)) xs) rs
    mapped [] = refl
    mapped (r ∷ rs) =
        map-append f (items_of_run (map values xs) r) (items_of_runs (map values xs) rs)
        ∙ ap₂ (λ us ws. us ++ ws) (map-part f r.offset r.len (get_or (map values xs) r.array []) ∙ ap (part r.offset r.len) (there_mapped xs r.array)) (mapped rs)

-- how many items of some arrays there are
pub values_count : {X A : Type 0} (n : X → ℕ) (values : X → List A) (xs : List X) (runs : List Run)
    → ((x : X) → length (values x) ≡ n x) → All (RunFits (map n xs)) runs → length (items_of_runs (map values xs) runs) ≡ length (origins runs)
values_count {X = X} n values xs runs long fits = items-count (map values xs) runs (subst (λ ls. All (RunFits ls) runs) (sym (lens xs)) fits)
  where
    lens : (ys : List X) → map (λ l. length l) (map values ys) ≡ map n ys
    lens [] = refl
    lens (y ∷ ys) = ap₂ (λ m ms. m ∷ ms) (long y) (lens ys)

-- An array of the numbers and the validity of the runs has their slots.
pub numbers_of_runs : {X T : Type 0} (seen : X → PrimitiveSeen T) (f : T → Number) (xs : List X) (runs : List Run) (t : TypeTree) (a : PrimitiveSeen T)
    → All (RunFits (map (λ x. length (seen x).values) xs)) runs
    → a.type ≡ t → a.values ≡ items_of_runs (map (λ x. (seen x).values) xs) runs
    → IsValidityOf (map (λ x. (seen x).validity) xs) runs a.validity
    → number_column f a ≡ column_of_runs t (map (λ x. number_column f (seen x)) xs) runs
numbers_of_runs {X = X} seen f xs runs t a fits et ev is =
    λ i. record { type = et i; slots = (slots ∙ ap (λ cs. items_of_runs cs runs) (sym (map-map (λ c. c.slots) (λ x. number_column f (seen x)) xs))) i }
  where
    count : length a.values ≡ length (origins runs)
    count = ap (λ l. length l) ev ∙ values_count (λ x. length (seen x).values) (λ x. (seen x).values) xs runs (λ x. refl) fits

    slots : slots_from (number_at f a) 0 (length a.values) ≡ items_of_runs (map (λ x. slots_from (number_at f (seen x)) 0 (length (seen x).values)) xs) runs
    slots = gathered_any (λ x. length (seen x).values) (λ x. number_at f (seen x)) xs runs (number_at f a) (length a.values) fits count
        (λ d i lt.
        ap₂ (λ b z. slot_where b (number_slot z))
        (valid_there (λ x. length (seen x).values) (λ x. (seen x).validity) d xs runs a.validity i fits is lt)
        (ap (λ vs. get_or (map f vs) i (whole (pos 0))) ev
        ∙ mapped_there (λ x. length (seen x).values) (λ x. (seen x).values) f (whole (pos 0)) d xs runs i (λ x. refl) fits lt))

-- The same of booleans.
pub booleans_of_runs : {X : Type 0} (seen : X → BooleanSeen) (xs : List X) (runs : List Run) (t : TypeTree) (a : BooleanSeen)
    → All (RunFits (map (λ x. length (seen x).values) xs)) runs
    → a.type ≡ t → IsValidityOf (map (λ x. Some (seen x).values) xs) runs (Some a.values)
    → IsValidityOf (map (λ x. (seen x).validity) xs) runs a.validity
    → truth_column a ≡ column_of_runs t (map (λ x. truth_column (seen x)) xs) runs
booleans_of_runs {X = X} seen xs runs t a fits et ev is =
    λ i. record { type = et i; slots = (slots ∙ ap (λ cs. items_of_runs cs runs) (sym (map-map (λ c. c.slots) (λ x. truth_column (seen x)) xs))) i }
  where
    slots : slots_from (truth_at a) 0 (length a.values) ≡ items_of_runs (map (λ x. slots_from (truth_at (seen x)) 0 (length (seen x).values)) xs) runs
    slots = gathered_any (λ x. length (seen x).values) (λ x. truth_at (seen x)) xs runs (truth_at a) (length a.values) fits ev.fits
        (λ d i lt.
        ap₂ (λ b z. slot_where b (truth_slot z))
        (valid_there (λ x. length (seen x).values) (λ x. (seen x).validity) d xs runs a.validity i fits is lt)
        (valid_there (λ x. length (seen x).values) (λ x. Some (seen x).values) d xs runs (Some a.values) i fits ev lt))
