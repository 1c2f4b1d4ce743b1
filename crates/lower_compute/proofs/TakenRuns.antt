-- Runs of selected slots of one array, and runs over arrays as a whole.
use Rattle.std.proofs.Common.{arith, suc, refl, ◌≡◌, ℕ, ◌+◌, ◌-◌, ◌<◌, ◌≤◌, List, [], ◌∷◌, ◌++◌, length, map, get_or, sym, ap, ap₂, subst, ◌∙◌}
use Rattle.std.specs.Prelude.{slice_index}
use Rattle.std.specs.List.{All, flat_map, range_with_len}
use Rattle.std.proofs.lemmas.List.{length-map, take_all, get_or-map}
use Rattle.std.proofs.lemmas.List.FromFn.{length-range_with_len, get_or-range_with_len}
use Rattle.std.proofs.lemmas.List.Elements.{All-nil, All-cons, All-head, All-tail, All-map, All-weaker, All-filter, All-get_or, All-from_get_or}
use Rattle.lower.specs.Normal.{norm}
use Rattle.lower_flat_arrays.specs.Validities.{part}
use Rattle.lower_flat_arrays.specs.Booleans.{BooleanSeen}
use Rattle.lower_flat_arrays.specs.Columns.{null_slot}
use Rattle.lower_arrays.specs.Layouts.{Layout, len_of, type_of}
use Rattle.lower_arrays.specs.Slots.{slot_at, slots, column_of, IsArray}
use Rattle.lower_compute.specs.declared.runs.Run.{Run}
use Rattle.lower_compute.specs.Runs.{RunFits, items_of_run, items_of_runs, origins, origin_at, whole_runs}
use Rattle.lower_compute.specs.Selections.{is_true_at, true_indices}
use Rattle.lower_compute.specs.Copies.{HasTypeOf, AllHaveTypeOf, AreWithin, IsCopy}
use Rattle.lower_compute.specs.Compute.{taken_column, IsJoined, ShareType}
use Rattle.lower_compute.proofs.RunPlaces.{map-map, item, items-places, PlaceFits, count_more, first_at, later_at, get_or-slots_from}
use Rattle.lower_compute.proofs.CopySlots.{map_same, copied, lens-fit, slots_lens}

-- runs of some slots each are within the arrays, if each place is
pub runs_within : (lens : List ℕ) (runs : List Run) → All (λ run. 0 < run.len) runs → All (PlaceFits lens) (origins runs) → All (RunFits lens) runs
runs_within lens [] some h = All-nil (RunFits lens)
runs_within lens (run ∷ runs) some h =
    All-cons (RunFits lens) run runs one (runs_within lens runs (All-tail (λ run. 0 < run.len) run runs some) rest)
  where
    count : length (origins (run ∷ runs)) ≡ run.len + length (origins runs)
    count = count_more run runs

    first : 0 < run.len
    first = All-head (λ run. 0 < run.len) run runs some

    one : RunFits lens run
    one =
        let last : PlaceFits lens (run.array, run.offset + (run.len - 1)) =
        subst (PlaceFits lens) (first_at run runs (run.len - 1) (omega (arith, first)))
        (All-get_or (PlaceFits lens) (origins (run ∷ runs)) (run.len - 1) (0, 0) (omega (arith, count, first)) h)
        in
        let below = last.1 in
        (last.0, omega (arith, below, first))

    rest : All (PlaceFits lens) (origins runs)
    rest = All-from_get_or (PlaceFits lens) (origins runs) (0, 0) (λ i lt.
        let le : run.len ≤ run.len + i = omega arith in
        let back : run.len + i - run.len ≡ i = omega arith in
        subst (PlaceFits lens) (later_at run runs (run.len + i) le ∙ ap (origin_at runs) back)
        (All-get_or (PlaceFits lens) (origins (run ∷ runs)) (run.len + i) (0, 0) (omega (arith, count, lt)) h))

-- the array l alone
pub like_itself : (l : Layout) → IsArray l → AllHaveTypeOf l (l ∷ [])
like_itself l is =
    (is, All-cons IsArray l [] is (All-nil IsArray), All-cons (HasTypeOf l) l [] refl (All-nil (HasTypeOf l)))

module _ (l : Layout) (is : List ℕ) (runs : List Run) (below : All (λ i. i < len_of l) is)
    (from : origins runs ≡ map {B = ℕ × ℕ} (λ i. (0, i)) is) where
  pub taken_within : All (λ run. 0 < run.len) runs → AreWithin (l ∷ []) runs
  taken_within some =
      runs_within (len_of l ∷ []) runs some
      (subst (All (PlaceFits (len_of l ∷ []))) (sym from)
      (All-map (PlaceFits (len_of l ∷ [])) (λ i. (0, i)) is
      (All-weaker (λ i. i < len_of l) (λ i. PlaceFits (len_of l ∷ []) (0, i)) (λ i h. (omega arith, h)) is below)))

  -- A copy of these runs has the slots at the indices.
  pub taken_slots : (copy : Layout) → AreWithin (l ∷ []) runs → IsCopy l (l ∷ []) runs copy → column_of copy ≡ taken_column is l
  taken_slots copy within e =
      let same : slots copy ≡ map (slot_at l) is =
      copied (l ∷ []) runs within l copy e
      ∙ items-places (slots l ∷ []) null_slot runs (lens-fit (l ∷ []) runs within)
      ∙ ap (map (item (slots l ∷ []) null_slot)) from
      ∙ map-map (item (slots l ∷ []) null_slot) (λ i. (0, i)) is
      ∙ map_same (λ i. get_or (slots l) i null_slot) (slot_at l) is
      (All-weaker (λ i. i < len_of l) (λ i. get_or (slots l) i null_slot ≡ slot_at l i)
      (λ i h. let z : 0 + i ≡ i = omega arith in get_or-slots_from (slot_at l) 0 (len_of l) i h ∙ ap (slot_at l) z) is below)
      in
      let type : type_of copy ≡ type_of l = ap (λ c. c.type) e in
      λ i. record { type = type i; slots = same i }

-- the selected indices are those of slots
pub selected_below : (mask : BooleanSeen) (n : ℕ) → length mask.values ≡ n → All (λ i. i < n) (true_indices mask)
selected_below mask n e =
    All-filter (is_true_at mask) (λ i. i < n) (range_with_len 0 (length mask.values))
    (All-from_get_or (λ i. i < n) (range_with_len 0 (length mask.values)) 0 (λ i lt.
    let count = length-range_with_len 0 (length mask.values) in
    let at = get_or-range_with_len 0 (length mask.values) i 0 (omega (arith, count, lt)) in
    omega (arith, at, count, lt, e)))

-- ---- whole arrays
whole_fit : (all ns : List ℕ) (k : ℕ) → ((i : ℕ) → i < length ns → (k + i < length all) × (slice_index all (k + i) ≡ slice_index ns i)) → All (RunFits all) (whole_runs k ns)
whole_fit all [] k h = All-nil (RunFits all)
whole_fit all (n ∷ ns) k h =
    let e : k ≡ k + 0 = omega arith in
    let here = h 0 (omega arith) in
    let in' = here.0 in
    let same : slice_index all k ≡ n = ap (slice_index all) e ∙ here.1 in
    All-cons (RunFits all) (record { array = k; offset = 0; len = n }) (whole_runs (k + 1) ns)
    (omega (arith, in'), omega (arith, same))
    (whole_fit all ns (k + 1) (λ i lt.
    let d : k + 1 + i ≡ k + suc i = omega arith in
    let there = h (suc i) (omega (arith, lt)) in
    let room = there.0 in
    (omega (arith, room), ap (slice_index all) d ∙ there.1)))

pub whole_within : (ls : List Layout) → AreWithin ls (whole_runs 0 (map len_of ls))
whole_within ls = whole_fit (map len_of ls) (map len_of ls) 0 (λ i lt. let z : 0 + i ≡ i = omega arith in (omega (arith, lt), ap (slice_index (map len_of ls)) z))

whole_items : {A : Type 0} (all ys : List (List A)) (k : ℕ) → ((i : ℕ) → i < length ys → get_or all (k + i) [] ≡ get_or ys i [])
    → items_of_runs all (whole_runs k (map (λ l. length l) ys)) ≡ flat_map (λ l. l) ys
whole_items all [] k h = refl
whole_items all (y ∷ ys) k h =
    let e : k ≡ k + 0 = omega arith in
    let this : items_of_run all (record { array = k; offset = 0; len = length y }) ≡ y =
    ap (part 0 (length y)) (ap (λ j. get_or all j []) e ∙ h 0 (omega arith)) ∙ take_all (length y) y (omega arith)
    in
    ap₂ (λ us ws. us ++ ws) this
    (whole_items all ys (k + 1) (λ i lt.
    let d : k + 1 + i ≡ k + suc i = omega arith in
    ap (λ j. get_or all j []) d ∙ h (suc i) (omega (arith, lt))))

flat_mapped : {X A : Type 0} (f : X → List A) (xs : List X) → flat_map (λ l. l) (map f xs) ≡ flat_map f xs
flat_mapped f [] = refl
flat_mapped f (x ∷ xs) = ap (λ l. f x ++ l) (flat_mapped f xs)

-- A copy of whole arrays has the slots of each.
pub whole_slots : (m copy : Layout) (ls : List Layout) → IsCopy m ls (whole_runs 0 (map len_of ls)) copy → slots copy ≡ flat_map slots ls
whole_slots m copy ls e =
    copied ls (whole_runs 0 (map len_of ls)) (whole_within ls) m copy e
    ∙ ap (λ ns. items_of_runs (map slots ls) (whole_runs 0 ns)) (sym (slots_lens ls))
    ∙ whole_items (map slots ls) (map slots ls) 0 (λ i lt. let z : 0 + i ≡ i = omega arith in ap (λ j. get_or (map slots ls) j []) z)
    ∙ flat_mapped slots ls

pub joined : (l copy : Layout) (ls : List Layout) → IsCopy l (l ∷ ls) (whole_runs 0 (map len_of (l ∷ ls))) copy → IsJoined (l ∷ ls) (column_of copy)
joined l copy ls e =
    let type : type_of copy ≡ type_of l = ap (λ c. c.type) e in
    let same = whole_slots l copy (l ∷ ls) e in
    λ i. record { type = type i; slots = same i }

-- ---- arrays of one type
module _ {X : Type 0} (lay : X → Layout) (xs : List X) (x : X) (some : 0 < length xs) (at : x ≡ get_or xs 0 x) where
  pub whole_like : All (λ y. type_of (lay y) ≡ type_of (lay x)) xs → All (λ y. IsArray (lay y)) xs → AllHaveTypeOf (lay x) (map lay xs)
  whole_like same valid = (
    subst (λ y. IsArray (lay y)) (sym at) (valid 0 x some),
    All-map IsArray lay xs valid,
    All-map (HasTypeOf (lay x)) lay xs (λ k d lt. ap norm (same k d lt)),
  )

  pub types_differ : (All (λ y. type_of (lay y) ≡ type_of (lay x)) xs → ⊥) → ShareType (map lay xs) → ⊥
  types_differ differ one = differ (λ k d lt.
      let n = length-map xs lay in
      ap type_of (sym (get_or-map lay xs k d (lay d) lt))
      ∙ one k 0 (lay d) (omega (arith, n, lt)) (omega (arith, n, some))
      ∙ ap type_of (get_or-map lay xs 0 x (lay d) some ∙ ap lay (sym at)))

  pub whole_joined : (copy : Layout) → IsCopy (lay x) (map lay xs) (whole_runs 0 (map len_of (map lay xs))) copy → IsJoined (map lay xs) (column_of copy)
  whole_joined copy e = by xs some at e
    where
      by : (ys : List X) → 0 < length ys → x ≡ get_or ys 0 x → IsCopy (lay x) (map lay ys) (whole_runs 0 (map len_of (map lay ys))) copy → IsJoined (map lay ys) (column_of copy)
      by [] lt first is = absurd (omega (arith, lt))
      by (y ∷ ys) lt first is =
          joined (lay y) copy (map lay ys)
          (subst (λ m. IsCopy m (lay y ∷ map lay ys) (whole_runs 0 (map len_of (lay y ∷ map lay ys))) copy) (ap lay first) is)
