-- Copies, slot by slot.
use Rattle.std.proofs.Common.{arith, refl, ◌≡◌, ℕ, ◌+◌, ◌<◌, List, [], ◌∷◌, Bool, true, false, length, map, get_or, sym, ap, ap₂, subst, ◌∙◌}
use Rattle.std.specs.List.{All}
use Rattle.std.proofs.lemmas.List.{length-map, get_or-map}
use Rattle.std.proofs.lemmas.List.Elements.{All-head, All-tail}
use Rattle.lower.specs.TypeTrees.{TypeTree}
use Rattle.lower_flat_arrays.specs.Validities.{is_valid, ValidityFits}
use Rattle.lower_flat_arrays.specs.Columns.{Slot, null_slot, slot_where}
use Rattle.lower_arrays.specs.Layouts.{Layout, layout, level, children, len_of, type_of}
use Rattle.lower_arrays.specs.Slots.{value_at, slot_at, children_at, slots, column_of, IsArray}
use Rattle.lower_compute.specs.declared.runs.Run.{Run}
use Rattle.lower_compute.specs.Runs.{RunFits, items_of_runs, column_of_runs, origins, origin_at, BitsFit, IsValidityOf}
use Rattle.lower_compute.specs.Copies.{AreWithin, IsCopy}
use Rattle.lower_compute.proofs.RunPlaces.{map-map, item_at, items-count, place_fits, gathered_any, slot_from, length-slots_from, get_or-slots_from}
use Rattle.lower_compute.proofs.NumberRuns.{bits-fit, valid_there}

-- functions that agree on each element
pub map_same : {X Y : Type 0} (f g : X → Y) (xs : List X) → All (λ x. f x ≡ g x) xs → map f xs ≡ map g xs
map_same f g [] h = refl
map_same f g (x ∷ xs) h = ap₂ (λ y ys. y ∷ ys) (All-head (λ z. f z ≡ g z) x xs h) (map_same f g xs (All-tail (λ z. f z ≡ g z) x xs h))

-- Slot i of an array, without its validity.
abbrev pub value_in : Layout → ℕ → Slot
value_in l i = value_at (level l).parts (children_at (children l)) i

pub slot_split : (l : Layout) (i : ℕ) → slot_at l i ≡ slot_where (is_valid (level l).validity i) (value_in l i)
slot_split (layout h cs) i = refl

pub slot_where-same : (b : Bool) (s t : Slot) → (b ≡ true → s ≡ t) → slot_where b s ≡ slot_where b t
slot_where-same true s t h = h refl
slot_where-same false s t h = refl

-- an array's validity has a bit for each slot
pub valid_is : (l : Layout) → IsArray l → ValidityFits (level l).validity (len_of l)
valid_is (layout h cs) is = is.0

pub slots_lens : (ls : List Layout) → map (λ xs. length xs) (map slots ls) ≡ map len_of ls
slots_lens [] = refl
slots_lens (l ∷ ls) = ap₂ (λ n ns. n ∷ ns) (length-slots_from (slot_at l) 0 (len_of l)) (slots_lens ls)

pub slots_are : (ls : List Layout) → map (λ c. c.slots) (map column_of ls) ≡ map slots ls
slots_are ls = map-map (λ c. c.slots) column_of ls

-- the validities are within the runs
pub validities-fit : (ls : List Layout) (runs : List Run) → All IsArray ls → AreWithin ls runs → All (BitsFit (map (λ l. (level l).validity) ls)) runs
validities-fit ls runs are within =
    bits-fit len_of (λ l. (level l).validity) ls runs (λ k d lt. valid_is (get_or ls k d) (are k d lt)) within

module _ (ls : List Layout) (runs : List Run) (within : AreWithin ls runs) where
  -- the index of an array at a place
  pub first_there : (i : ℕ) → i < length (origins runs) → (origin_at runs i).0 < length ls
  first_there i lt = subst (λ m. (origin_at runs i).0 < m) (length-map ls len_of) (place_fits (map len_of ls) runs i within lt).0

  -- and the one in it
  pub second_there : (d : Layout) (i : ℕ) → i < length (origins runs) → (origin_at runs i).1 < len_of (get_or ls (origin_at runs i).0 d)
  second_there d i lt =
      subst (λ m. (origin_at runs i).1 < m) (get_or-map len_of ls (origin_at runs i).0 d 0 (first_there i lt))
      (place_fits (map len_of ls) runs i within lt).1

  pub copied : (m l : Layout) → IsCopy m ls runs l → slots l ≡ items_of_runs (map slots ls) runs
  copied m l e = ap (λ c. c.slots) e ∙ ap (λ cs. items_of_runs cs runs) (slots_are ls)

  pub lens-fit : All (RunFits (map (λ xs. length xs) (map slots ls))) runs
  lens-fit = subst (λ ns. All (RunFits ns) runs) (sym (slots_lens ls)) within

  -- as many slots as the runs have
  pub copy_len : (m l : Layout) → IsCopy m ls runs l → len_of l ≡ length (origins runs)
  copy_len m l e =
      sym (length-slots_from (slot_at l) 0 (len_of l))
      ∙ ap (λ ss. length ss) (copied m l e)
      ∙ items-count (map slots ls) runs lens-fit

  -- each slot is the one that it is from
  pub copy_slot : (m l d : Layout) (i : ℕ) → IsCopy m ls runs l → i < length (origins runs) → slot_at l i ≡ slot_at (get_or ls (origin_at runs i).0 d) (origin_at runs i).1
  copy_slot m l d i e lt =
      let count = copy_len m l e in
      let below : i < len_of l = omega (arith, count, lt) in
      let z : 0 + i ≡ i = omega arith in
      sym (get_or-slots_from (slot_at l) 0 (len_of l) i below ∙ ap (slot_at l) z)
      ∙ ap (λ ss. get_or ss i null_slot) (copied m l e)
      ∙ item_at (map slots ls) null_slot runs i lens-fit lt
      ∙ slot_from len_of slot_at d ls runs within i lt

  -- and where each is, there is a copy
  pub copy_made : (t : TypeTree) (l : Layout) → type_of l ≡ t → len_of l ≡ length (origins runs)
      → ((d : Layout) (i : ℕ) → i < length (origins runs) → slot_at l i ≡ slot_at (get_or ls (origin_at runs i).0 d) (origin_at runs i).1)
      → column_of l ≡ column_of_runs t (map column_of ls) runs
  copy_made t l et el each =
      λ i. record { type = et i; slots = (gathered_any len_of slot_at ls runs (slot_at l) (len_of l) within el each ∙ ap (λ cs. items_of_runs cs runs) (sym (slots_are ls))) i }

  -- the same by validity and value
  pub nested_made : (t : TypeTree) (l : Layout) → type_of l ≡ t → len_of l ≡ length (origins runs)
      → IsValidityOf (map (λ l. (level l).validity) ls) runs (level l).validity
      → ((d : Layout) (i : ℕ) → i < length (origins runs) → is_valid (level (get_or ls (origin_at runs i).0 d)).validity (origin_at runs i).1 ≡ true
      → value_in l i ≡ value_in (get_or ls (origin_at runs i).0 d) (origin_at runs i).1)
      → column_of l ≡ column_of_runs t (map column_of ls) runs
  nested_made t l et el is each = copy_made t l et el (λ d i lt.
      let x = get_or ls (origin_at runs i).0 d in
      let j = (origin_at runs i).1 in
      slot_split l i
      ∙ ap (λ b. slot_where b (value_in l i)) (valid_there len_of (λ l. (level l).validity) d ls runs (level l).validity i within is lt)
      ∙ slot_where-same (is_valid (level x).validity j) (value_in l i) (value_in x j) (each d i lt)
      ∙ sym (slot_split x j))

-- A copy of arrays, by another view of them.
pub viewed_copy : {X : Type 0} (lay : X → Layout) (xs : List X) (ls : List Layout) (t : TypeTree) (runs : List Run) (l : Layout)
    → map lay xs ≡ ls → column_of l ≡ column_of_runs t (map (λ x. column_of (lay x)) xs) runs → column_of l ≡ column_of_runs t (map column_of ls) runs
viewed_copy lay xs ls t runs l same e =
    e ∙ ap (λ cs. column_of_runs t cs runs) (sym (map-map column_of lay xs) ∙ ap (map column_of) same)

-- and runs within them
pub viewed_within : {X : Type 0} (lay : X → Layout) (xs : List X) (ls : List Layout) (runs : List Run)
    → map lay xs ≡ ls → AreWithin ls runs → All (RunFits (map (λ x. len_of (lay x)) xs)) runs
viewed_within lay xs ls runs same within = subst (λ ns. All (RunFits ns) runs) (ap (map len_of) (sym same) ∙ map-map len_of lay xs) within

-- and facts of them
pub viewed_all : {X Y : Type 0} (P : Y → Type 0) (lay : X → Y) (xs : List X) (ls : List Y) → map lay xs ≡ ls → All P ls → All (λ x. P (lay x)) xs
viewed_all P lay xs ls same h = λ k d lt.
    let there : k < length ls = subst (λ n. k < n) (sym (length-map xs lay) ∙ ap (λ l. length l) same) lt in
    subst P (ap (λ l. get_or l k (lay d)) (sym same) ∙ get_or-map lay xs k d (lay d) lt) (h k (lay d) there)

-- a fact of an array that a loop reads
pub read_at : {X Y : Type 0} (P : Y → Type 0) (lay : X → Y) (xs : List X) (i : ℕ) (x : X) → i < length xs → x ≡ get_or xs i x → All P (map lay xs) → P (lay x)
read_at P lay xs i x lt at h =
    subst (λ y. P (lay y)) (sym at) (viewed_all P lay xs (map lay xs) refl h i x lt)
