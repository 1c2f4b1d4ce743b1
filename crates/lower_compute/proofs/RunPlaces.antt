-- The items of runs, by their places.
use Rattle.std.proofs.Common.{arith, zero, suc, refl, ◌≡◌, ℕ, ◌+◌, ◌-◌, ◌<◌, ◌≤◌, List, [], ◌∷◌, ◌++◌, Bool, true, false, length, take, drop, map, get_or, sym, ap, ap₂, subst, ◌∙◌, replicate, set}
use Rattle.std.specs.Prelude.{slice_index, Some, None}
use Rattle.std.specs.List.{All, range_with_len}
use Rattle.std.proofs.lemmas.List.{map-append, length-append, length-map, length-set, get_or-map, ext_get_or, get_or_append_left, get_or-append_right, append-nil, append_assoc, take_more, take_more_set, take_all, take-append-drop}
use Rattle.std.proofs.lemmas.List.Concat.{flat_map-append}
use Rattle.std.proofs.lemmas.List.FromFn.{fill_by_all, map-range_with_len_more, length-range_with_len, get_or-range_with_len, length-map-range_with_len, get_or-map-range_with_len}
use Rattle.std.proofs.lemmas.List.Elements.{All-nil, All-head, All-tail, All-map, All-append, All-from_get_or, All-get_or}
use Rattle.lower_flat_arrays.specs.Validities.{Validity, is_valid, part, ValidityHolds}
use Rattle.lower_flat_arrays.specs.Columns.{Slot, null_slot, slots_from}
use Rattle.lower_flat_arrays.proofs.Cuts.{get_or-part, length-part}
use Rattle.lower_compute.specs.declared.runs.Run.{Run}
use Rattle.lower_compute.specs.Runs.{RunFits, items_of_run, items_of_runs, origins_of_run, origins, origin_at, valid_bits, BitsFit, bits_of_run, bits_of_runs, IsValidityOf}

pub map-map : {A B C : Type 0} (f : B → C) (g : A → B) (xs : List A) → map f (map g xs) ≡ map (λ x. f (g x)) xs
map-map f g [] = refl
map-map f g (x ∷ xs) = ap (λ ys. f (g x) ∷ ys) (map-map f g xs)

-- two functions that agree along two ranges
same_along : {X : Type 0} (f g : ℕ → X) (a b n : ℕ) → ((k : ℕ) → k < n → f (a + k) ≡ g (b + k)) → map f (range_with_len a n) ≡ map g (range_with_len b n)
same_along f g a b zero h = refl
same_along f g a b (suc n) h =
    let first : f a ≡ g b = ap f (omega arith) ∙ h 0 (omega arith) ∙ ap g (omega arith) in
    let rest = same_along f g (a + 1) (b + 1) n (λ k below. ap f (omega arith) ∙ h (suc k) (omega arith) ∙ ap g (omega arith)) in
    ap₂ (λ x xs. x ∷ xs) first rest

-- a part of a list, item by item
part-along : {A : Type 0} (d : A) (o n : ℕ) (xs : List A) → o + n ≤ length xs → part o n xs ≡ map (λ k. get_or xs k d) (range_with_len o n)
part-along d o n xs h =
    fill_by_all (λ k. get_or xs (o + k) d) (part o n xs) n d (length-part o n xs h) (λ k lt. get_or-part o n xs k d lt)
    ∙ same_along (λ k. get_or xs (o + k) d) (λ k. get_or xs k d) 0 o n (λ k lt. let e : 0 + k ≡ k = omega arith in ap (λ j. get_or xs (o + j) d) e)

module _ {A : Type 0} (lists : List (List A)) (d : A) where
  -- the item at a place
  abbrev pub item : ℕ × ℕ → A
  item p = get_or (get_or lists p.0 []) p.1 d

  run_items : (run : Run) → RunFits (map (λ xs. length xs) lists) run → items_of_run lists run ≡ map item (origins_of_run run)
  run_items run h =
      let len : get_or (map (λ xs. length xs) lists) run.array 0 ≡ length (get_or lists run.array []) = get_or-map (λ xs. length xs) lists run.array [] 0 (subst (λ n. run.array < n) (length-map lists (λ xs. length xs)) h.0) in
      let within : run.offset + run.len ≤ length (get_or lists run.array []) = subst (λ n. run.offset + run.len ≤ n) len h.1 in
      part-along d run.offset run.len (get_or lists run.array []) within
      ∙ sym (map-map item (λ k. (run.array, k)) (range_with_len run.offset run.len))

  pub items-places : (runs : List Run) → All (RunFits (map (λ xs. length xs) lists)) runs → items_of_runs lists runs ≡ map item (origins runs)
  items-places [] h = refl
  items-places (run ∷ runs) h =
      ap₂ (λ xs ys. xs ++ ys) (run_items run (All-head (RunFits (map (λ xs. length xs) lists)) run runs h)) (items-places runs (All-tail (RunFits (map (λ xs. length xs) lists)) run runs h))
      ∙ sym (map-append item (origins_of_run run) (origins runs))

  -- an item of the result
  pub item_at : (runs : List Run) (i : ℕ) → All (RunFits (map (λ xs. length xs) lists)) runs → i < length (origins runs) → get_or (items_of_runs lists runs) i d ≡ item (origin_at runs i)
  item_at runs i h lt = ap (λ xs. get_or xs i d) (items-places runs h) ∙ get_or-map item (origins runs) i (0, 0) d lt

-- how many items there are
pub items-count : {A : Type 0} (lists : List (List A)) (runs : List Run) → All (RunFits (map (λ xs. length xs) lists)) runs → length (items_of_runs lists runs) ≡ length (origins runs)
items-count lists [] h = refl
items-count lists (run ∷ runs) h =
    let fit = All-head (RunFits (map (λ xs. length xs) lists)) run runs h in
    let len : get_or (map (λ xs. length xs) lists) run.array 0 ≡ length (get_or lists run.array []) = get_or-map (λ xs. length xs) lists run.array [] 0 (subst (λ n. run.array < n) (length-map lists (λ xs. length xs)) fit.0) in
    let within : run.offset + run.len ≤ length (get_or lists run.array []) = subst (λ n. run.offset + run.len ≤ n) len fit.1 in
    length-append (items_of_run lists run) (items_of_runs lists runs)
    ∙ ap₂ (λ a b. a + b)
    (length-part run.offset run.len (get_or lists run.array []) within ∙ sym (length-range_with_len run.offset run.len) ∙ sym (length-map (range_with_len run.offset run.len) (λ k. (run.array, k))))
    (items-count lists runs (All-tail (RunFits (map (λ xs. length xs) lists)) run runs h))
    ∙ sym (length-append (origins_of_run run) (origins runs))

-- A place is within its list.
abbrev pub PlaceFits : List ℕ → ℕ × ℕ → Type 0
PlaceFits lens p = (p.0 < length lens) × (p.1 < slice_index lens p.0)

run_places-fit : (lens : List ℕ) (run : Run) → RunFits lens run → All (PlaceFits lens) (origins_of_run run)
run_places-fit lens run h =
    All-map (PlaceFits lens) (λ k. (run.array, k)) (range_with_len run.offset run.len)
    (All-from_get_or (λ k. PlaceFits lens (run.array, k)) (range_with_len run.offset run.len) 0 (λ i lt.
    let count = length-range_with_len run.offset run.len in
    let below : i < run.len = omega (arith, lt, count) in
    let at : get_or (range_with_len run.offset run.len) i 0 ≡ run.offset + i = get_or-range_with_len run.offset run.len i 0 below in
    let room = h.1 in
    (h.0, omega (arith, at, below, room))))

pub places-fit : (lens : List ℕ) (runs : List Run) → All (RunFits lens) runs → All (PlaceFits lens) (origins runs)
places-fit lens [] h = All-nil (PlaceFits lens)
places-fit lens (run ∷ runs) h =
    All-append (PlaceFits lens) (origins_of_run run) (origins runs) (run_places-fit lens run (All-head (RunFits lens) run runs h)) (places-fit lens runs (All-tail (RunFits lens) run runs h))

pub place_fits : (lens : List ℕ) (runs : List Run) (i : ℕ) → All (RunFits lens) runs → i < length (origins runs) → PlaceFits lens (origin_at runs i)
place_fits lens runs i h lt = All-get_or (PlaceFits lens) (origins runs) i (0, 0) lt (places-fit lens runs h)

-- bits, slot by slot
set_along : (o n : ℕ) → replicate n true ≡ map (λ i. true) (range_with_len o n)
set_along o zero = refl
set_along o (suc n) = ap (λ bs. true ∷ bs) (set_along (o + 1) n)

valid_along : (v : Validity) (o n : ℕ) → ValidityHolds v (o + n) → valid_bits v o n ≡ map (is_valid v) (range_with_len o n)
valid_along None o n h = set_along o n
valid_along (Some bits) o n h = part-along false o n bits h

module _ (vs : List Validity) where
  -- the bit at a place
  abbrev pub valid_at : ℕ × ℕ → Bool
  valid_at p = is_valid (get_or vs p.0 None) p.1

  run_bits : (run : Run) → BitsFit vs run → bits_of_run vs run ≡ map valid_at (origins_of_run run)
  run_bits run h =
      valid_along (get_or vs run.array None) run.offset run.len h.1
      ∙ sym (map-map valid_at (λ k. (run.array, k)) (range_with_len run.offset run.len))

  pub bits-places : (runs : List Run) → All (BitsFit vs) runs → bits_of_runs vs runs ≡ map valid_at (origins runs)
  bits-places [] h = refl
  bits-places (run ∷ runs) h =
      ap₂ (λ xs ys. xs ++ ys) (run_bits run (All-head (BitsFit vs) run runs h)) (bits-places runs (All-tail (BitsFit vs) run runs h))
      ∙ sym (map-append valid_at (origins_of_run run) (origins runs))

  -- the bits are a validity of the runs' slots
  pub bits-validity : (runs : List Run) (bits : List Bool) → All (BitsFit vs) runs → bits ≡ bits_of_runs vs runs → IsValidityOf vs runs (Some bits)
  bits-validity runs bits h e =
      let same : bits ≡ map valid_at (origins runs) = e ∙ bits-places runs h in
      record {
        fits = ap (λ bs. length bs) same ∙ length-map (origins runs) valid_at;
        each = λ i lt. ap (λ bs. get_or bs i false) same ∙ get_or-map valid_at (origins runs) i (0, 0) false lt;
      }

  -- and so is none, if there are no others
  pub none-validity : (runs : List Run) → All (BitsFit vs) runs → All (λ v. v ≡ None) vs → IsValidityOf vs runs None
  none-validity runs h none = record {
    fits = tt;
    each = λ i lt.
        let there : (origin_at runs i).0 < length vs = first runs i h lt in
        ap (λ v. is_valid v (origin_at runs i).1) (sym (All-get_or (λ v. v ≡ None) vs (origin_at runs i).0 None there none));
  }
    where
      run_first : (run : Run) → BitsFit vs run → All (λ (p : ℕ × ℕ). p.0 < length vs) (origins_of_run run)
      run_first run k = All-map (λ (p : ℕ × ℕ). p.0 < length vs) (λ k. (run.array, k)) (range_with_len run.offset run.len) (λ i d lt. k.0)

      all_first : (runs : List Run) → All (BitsFit vs) runs → All (λ (p : ℕ × ℕ). p.0 < length vs) (origins runs)
      all_first [] k = All-nil (λ (p : ℕ × ℕ). p.0 < length vs)
      all_first (run ∷ runs) k = All-append (λ (p : ℕ × ℕ). p.0 < length vs) (origins_of_run run) (origins runs) (run_first run (All-head (BitsFit vs) run runs k)) (all_first runs (All-tail (BitsFit vs) run runs k))

      first : (runs : List Run) (i : ℕ) → All (BitsFit vs) runs → i < length (origins runs) → (origin_at runs i).0 < length vs
      first runs i k lt = All-get_or (λ (p : ℕ × ℕ). p.0 < length vs) (origins runs) i (0, 0) lt (all_first runs k)

-- slots one by one and as a list
pub length-slots_from : (f : ℕ → Slot) (a n : ℕ) → length (slots_from f a n) ≡ n
length-slots_from f a zero = refl
length-slots_from f a (suc n) = ap suc (length-slots_from f (a + 1) n)

pub get_or-slots_from : (f : ℕ → Slot) (a n i : ℕ) → i < n → get_or (slots_from f a n) i null_slot ≡ f (a + i)
get_or-slots_from f a zero i h = let no : ⊥ = omega arith in absurd no
get_or-slots_from f a (suc n) zero h = let e : a ≡ a + 0 = omega arith in ap f e
get_or-slots_from f a (suc n) (suc i) h =
    let e : a + 1 + i ≡ a + suc i = omega arith in
    get_or-slots_from f (a + 1) n i (omega arith) ∙ ap f e

-- The slots of a result whose slot i is the one at place i.
module _ {B : Type 0} (n : B → ℕ) (h : B → ℕ → Slot) (d : B) (bs : List B) (runs : List Run) (fits : All (RunFits (map n bs)) runs) where
  -- the slots of an array
  abbrev pub column : B → List Slot
  column b = slots_from (h b) 0 (n b)

  lens : (cs : List B) → map (λ xs. length xs) (map column cs) ≡ map n cs
  lens [] = refl
  lens (c ∷ cs) = ap₂ (λ x xs. x ∷ xs) (length-slots_from (h c) 0 (n c)) (lens cs)

  fit : All (RunFits (map (λ xs. length xs) (map column bs))) runs
  fit = subst (λ ls. All (RunFits ls) runs) (sym (lens bs)) fits

  pub slot_from : (i : ℕ) → i < length (origins runs) → item (map column bs) null_slot (origin_at runs i) ≡ h (get_or bs (origin_at runs i).0 d) (origin_at runs i).1
  slot_from i lt =
      let p = origin_at runs i in
      let there : PlaceFits (map n bs) p = place_fits (map n bs) runs i fits lt in
      let first : p.0 < length bs = subst (λ m. p.0 < m) (length-map bs n) there.0 in
      let room : get_or (map n bs) p.0 0 ≡ n (get_or bs p.0 d) = get_or-map n bs p.0 d 0 first in
      let below : p.1 < n (get_or bs p.0 d) = subst (λ m. p.1 < m) room there.1 in
      let e : 0 + p.1 ≡ p.1 = omega arith in
      ap (λ xs. get_or xs p.1 null_slot) (get_or-map column bs p.0 d [] first)
      ∙ get_or-slots_from (h (get_or bs p.0 d)) 0 (n (get_or bs p.0 d)) p.1 below
      ∙ ap (h (get_or bs p.0 d)) e

  pub gathered : (g : ℕ → Slot) (m : ℕ) → m ≡ length (origins runs)
      → ((i : ℕ) → i < length (origins runs) → g i ≡ h (get_or bs (origin_at runs i).0 d) (origin_at runs i).1)
      → slots_from g 0 m ≡ items_of_runs (map column bs) runs
  gathered g m count each =
      let long : length (slots_from g 0 m) ≡ length (origins runs) = length-slots_from g 0 m ∙ count in
      let placed : length (map (item (map column bs) null_slot) (origins runs)) ≡ length (origins runs) = length-map (origins runs) (item (map column bs) null_slot) in
      ext_get_or null_slot (slots_from g 0 m) (map (item (map column bs) null_slot) (origins runs)) (long ∙ sym placed)
      (λ i lt.
      let below : i < length (origins runs) = subst (λ k. i < k) long lt in
      let within : i < m = subst (λ k. i < k) (sym count) below in
      let e : 0 + i ≡ i = omega arith in
      get_or-slots_from g 0 m i within
      ∙ ap g e
      ∙ each i below
      ∙ sym (slot_from i below)
      ∙ sym (get_or-map (item (map column bs) null_slot) (origins runs) i (0, 0) null_slot below))
      ∙ sym (items-places (map column bs) null_slot runs fit)

-- a run is within the array that it names
pub within_there : {X : Type 0} (len : X → ℕ) (xs : List X) (run : Run) (x : X) → RunFits (map len xs) run → x ≡ get_or xs run.array x → run.offset + run.len ≤ len x
within_there len xs run x h at =
    let bound : run.array < length xs = subst (λ n. run.array < n) (length-map xs len) h.0 in
    let same : get_or (map len xs) run.array 0 ≡ len x = get_or-map len xs run.array x 0 bound ∙ ap len (sym at) in
    subst (λ n. run.offset + run.len ≤ n) same h.1

-- The same for any number of arrays, of which there may be none.
pub gathered_any : {B : Type 0} (n : B → ℕ) (h : B → ℕ → Slot) (bs : List B) (runs : List Run) (g : ℕ → Slot) (m : ℕ)
    → All (RunFits (map n bs)) runs → m ≡ length (origins runs)
    → ((d : B) (i : ℕ) → i < length (origins runs) → g i ≡ h (get_or bs (origin_at runs i).0 d) (origin_at runs i).1)
    → slots_from g 0 m ≡ items_of_runs (map (λ b. slots_from (h b) 0 (n b)) bs) runs
gathered_any n h (b ∷ bs) runs g m fits count each = gathered n h b (b ∷ bs) runs fits g m count (each b)
gathered_any {B = B} n h [] runs g m fits count each = none runs fits count
  where
    none : (rs : List Run) → All (RunFits []) rs → m ≡ length (origins rs) → slots_from g 0 m ≡ items_of_runs (map (λ b. slots_from (h b) 0 (n b)) []) rs
    none [] k e = ap (slots_from g 0) e
    none (r ∷ rs) k e = let lt : r.array < 0 = (All-head (RunFits []) r rs k).0 in absurd (omega (arith, lt))

-- the places of the first run and of the others
pub count_run : (run : Run) → length (origins_of_run run) ≡ run.len
count_run run = length-map-range_with_len (λ k. (run.array, k)) run.offset run.len

pub count_more : (run : Run) (runs : List Run) → length (origins (run ∷ runs)) ≡ run.len + length (origins runs)
count_more run runs = length-append (origins_of_run run) (origins runs) ∙ ap (λ n. n + length (origins runs)) (count_run run)

pub first_at : (run : Run) (runs : List Run) (i : ℕ) → i < run.len → origin_at (run ∷ runs) i ≡ (run.array, run.offset + i)
first_at run runs i h =
    get_or_append_left (origins_of_run run) (origins runs) (0, 0) i (subst (λ n. i < n) (sym (count_run run)) h)
    ∙ get_or-map-range_with_len (λ k. (run.array, k)) run.offset run.len i (run.offset + i) (0, 0) h refl

pub later_at : (run : Run) (runs : List Run) (i : ℕ) → run.len ≤ i → origin_at (run ∷ runs) i ≡ origin_at runs (i - run.len)
later_at run runs i h = get_or-append_right (origins_of_run run) (origins runs) run.len i (0, 0) (count_run run) h

-- the places of one run more
places-push : (runs : List Run) (run : Run) → origins (runs ++ run ∷ []) ≡ origins runs ++ origins_of_run run
places-push runs run = flat_map-append origins_of_run runs (run ∷ []) ∙ ap (λ ps. origins runs ++ ps) (append-nil (origins_of_run run))

-- a run of one slot
pub places-slot : (runs : List Run) (array index : ℕ) → origins (runs ++ record { array = array; offset = index; len = 1 } ∷ []) ≡ origins runs ++ (array, index) ∷ []
places-slot runs array index = places-push runs (record { array = array; offset = index; len = 1 })

grown : (runs : List Run) (n : ℕ) (run : Run) (index : ℕ) → n + 1 ≡ length runs → run ≡ get_or runs n run → run.offset + run.len ≡ index
    → origins (set runs n (record { array = run.array; offset = run.offset; len = run.len + 1 })) ≡ origins runs ++ (run.array, index) ∷ []
grown runs n run index whole at ends =
    let more : Run = record { array = run.array; offset = run.offset; len = run.len + 1 } in
    let front : take (n + 1) runs ≡ take n runs ++ get_or runs n run ∷ [] = take_more runs n run (omega (arith, whole)) in
    let split : runs ≡ take n runs ++ run ∷ [] =
    sym (take_all (n + 1) runs (omega (arith, whole))) ∙ front ∙ ap (λ r. take n runs ++ r ∷ []) (sym at)
    in
    let written : set runs n more ≡ take n runs ++ more ∷ [] =
    sym (take_all (n + 1) (set runs n more) (let count = length-set runs n more in omega (arith, count, whole)))
    ∙ take_more_set runs n more (omega (arith, whole))
    in
    ap origins written
    ∙ places-push (take n runs) more
    ∙ ap (λ ps. origins (take n runs) ++ ps) (map-range_with_len_more (λ k. (run.array, k)) run.offset run.len index ends)
    ∙ sym (append_assoc (origins (take n runs)) (origins_of_run run) ((run.array, index) ∷ []))
    ∙ ap (λ ps. ps ++ (run.array, index) ∷ []) (sym (places-push (take n runs) run) ∙ ap origins (sym split))

-- the last run with one slot more
pub places-grown : (runs : List Run) (n : ℕ) (run : Run) (array index : ℕ) → n + 1 ≡ length runs → run ≡ get_or runs n run → run.array ≡ array → run.offset + run.len ≡ index
    → origins (set runs n (record { array = array; offset = run.offset; len = run.len + 1 })) ≡ origins runs ++ (array, index) ∷ []
places-grown runs n run array index whole at same ends =
    let Grown : ℕ → Type 0 = λ k. origins (set runs n (record { array = k; offset = run.offset; len = run.len + 1 })) ≡ origins runs ++ (k, index) ∷ [] in
    subst Grown same (grown runs n run index whole at ends)

-- the items of one run more
pub items_more : {A : Type 0} (lists : List (List A)) (runs : List Run) (k : ℕ) (run : Run) → k < length runs → run ≡ get_or runs k run
    → items_of_runs lists (take (k + 1) runs) ≡ items_of_runs lists (take k runs) ++ items_of_run lists run
items_more lists runs k run h at =
    ap (items_of_runs lists) (take_more runs k run h ∙ ap (λ r. take k runs ++ r ∷ []) (sym at))
    ∙ flat_map-append (items_of_run lists) (take k runs) (run ∷ [])
    ∙ ap (λ l. items_of_runs lists (take k runs) ++ l) (append-nil (items_of_run lists run))

-- the items of the first runs are the first items
pub items_split : {A : Type 0} (lists : List (List A)) (runs : List Run) (k : ℕ) → items_of_runs lists runs ≡ items_of_runs lists (take k runs) ++ items_of_runs lists (drop k runs)
items_split lists runs k = ap (items_of_runs lists) (sym (take-append-drop k runs)) ∙ flat_map-append (items_of_run lists) (take k runs) (drop k runs)
