-- Lists and maps, run by run.
use Rattle.std.proofs.Common.{arith, zero, suc, refl, ◌≡◌, ℕ, ◌+◌, ◌-◌, ◌<◌, ◌≤◌, List, [], ◌∷◌, length, map, take, drop, get_or, sym, ap, ap₂, subst, ◌∙◌}
use Rattle.std.specs.Prelude.{None, slice_index}
use Rattle.std.specs.List.{All}
use Rattle.lower_types.specs.declared.PrimitiveType.{PrimitiveType}
use Rattle.lower.specs.TypeTrees.{TypeTree}
use Rattle.lower.specs.Physical.{physical}
use Rattle.lower.specs.declared.datatypes.physical_type.PhysicalType.TheVariants as Physicals
use Rattle.lower.specs.declared.error.Error.{Error}
use Rattle.lower.specs.declared.error.Error.TheVariants.{OutOfSpec}
use Rattle.lower.specs.declared.error.Rule.TheVariants.{ValidityLength, OffsetsPastValues, ChildType, MapChild, PhysicalType as WrongType}
use Rattle.lower.specs.Offsets.{IsOffsets}
use Rattle.lower_flat_arrays.specs.Validities.{Validity, part, ValidityFits}
use Rattle.lower_flat_arrays.specs.Columns.{Slot, list_slot, slots_of, slots_from}
use Rattle.lower_flat_arrays.specs.Spans.{span_count, spans_seen}
use Rattle.lower_flat_arrays.proofs.SpanPlaces.{offset_last}
use Rattle.lower_builders.specs.Growing.{last_end_of}
use Rattle.lower_validation.specs.Fields.{child_fields, FieldTypes, IsPair}
use Rattle.lower_validation.specs.ListTypes.{list_with, last_offset}
use Rattle.lower_validation.specs.Rules.{BreaksListRules, BreaksMapRules}
use Rattle.lower_arrays.specs.Lists.{ListSeen, list_seen, list_layout, BreaksList}
use Rattle.lower_arrays.specs.Maps.{MapSeen, map_seen, map_layout, BreaksMap}
use Rattle.lower_arrays.specs.Layouts.{Parts, lists, maps, Level, Layout, layout, Layouts, no_layouts, more_layouts, level, children, len_of, type_of}
use Rattle.lower_arrays.specs.Children.{child_count}
use Rattle.lower_arrays.specs.Choices.{child}
use Rattle.lower_arrays.specs.Slots.{value_at, slot_at, children_at, slots, PartsFit, ItemsFit, IsArray}
use Rattle.lower_compute.specs.declared.runs.Run.{Run}
use Rattle.lower_compute.specs.Kinds.{offsets_in}
use Rattle.lower_compute.specs.Runs.{RunFits, items_of_runs, origins, origin_at, run_of_items, offsets_of_runs, IsValidityOf}
use Rattle.lower_compute.specs.Copies.{AllHaveTypeOf, AreWithin, IsCopy, each_child, HaveChild}
use Rattle.lower_compute.proofs.RunPlaces.{map-map, length-slots_from}
use Rattle.lower_compute.proofs.SpanRuns.{width, slot_there, items-fit, spans_count, ends_there}
use Rattle.lower_compute.proofs.ChildPlaces.{reach-first}
use Rattle.lower_compute.proofs.CopySlots.{map_same, value_in, slots_are, first_there, second_there, nested_made}

list_kept : (t : TypeTree) (p : PrimitiveType) (os : List ℕ) (c : TypeTree) (n : ℕ) (v : Validity) (e : Error) → physical t ≡ list_with p → FieldTypes (child_fields t) (c ∷ [])
    → last_offset os ≤ n → ValidityFits v (span_count os) → BreaksListRules t p os c n v e → ⊥
list_kept t p os c n v (OutOfSpec WrongType) lies child within fits breaks = breaks lies
list_kept t p os c n v (OutOfSpec ChildType) lies child within fits breaks = breaks child
list_kept t p os c n v (OutOfSpec OffsetsPastValues) lies child within fits breaks = breaks within
list_kept t p os c n v (OutOfSpec ValidityLength) lies child within fits breaks = breaks fits
list_kept t p os c n v (OutOfSpec _) lies child within fits breaks = breaks

map_kept : (t : TypeTree) (os : List ℕ) (c : TypeTree) (n : ℕ) (v : Validity) (e : Error) → physical t ≡ Physicals.Map → IsPair c → FieldTypes (child_fields t) (c ∷ [])
    → last_offset os ≤ n → ValidityFits v (span_count os) → BreaksMapRules t os c n v e → ⊥
map_kept t os c n v (OutOfSpec WrongType) lies pair child within fits breaks = breaks lies
map_kept t os c n v (OutOfSpec MapChild) lies pair child within fits breaks = breaks pair
map_kept t os c n v (OutOfSpec ChildType) lies pair child within fits breaks = breaks child
map_kept t os c n v (OutOfSpec OffsetsPastValues) lies pair child within fits breaks = breaks within
map_kept t os c n v (OutOfSpec ValidityLength) lies pair child within fits breaks = breaks fits
map_kept t os c n v (OutOfSpec _) lies pair child within fits breaks = breaks

-- some slots of an array, as a part of all
take-slots : (f : ℕ → Slot) (a n m : ℕ) → n ≤ m → take n (slots_from f a m) ≡ slots_from f a n
take-slots f a zero m h = refl
take-slots f a (suc n) zero h = absurd (omega (arith, h))
take-slots f a (suc n) (suc m) h = ap (λ l. f a ∷ l) (take-slots f (a + 1) n m (omega (arith, h)))

drop-slots : (f : ℕ → Slot) (a o m : ℕ) → o ≤ m → drop o (slots_from f a m) ≡ slots_from f (a + o) (m - o)
drop-slots f a zero m h =
    let e : a ≡ a + 0 = omega arith in
    let d : m ≡ m - 0 = omega arith in
    ap₂ (λ x y. slots_from f x y) e d
drop-slots f a (suc o) zero h = absurd (omega (arith, h))
drop-slots f a (suc o) (suc m) h =
    let e : a + 1 + o ≡ a + suc o = omega arith in
    let d : m - o ≡ suc m - suc o = omega arith in
    drop-slots f (a + 1) o m (omega (arith, h)) ∙ ap₂ (λ x y. slots_from f x y) e d

pub slots_part : (c : Layout) (a n : ℕ) → a + n ≤ len_of c → slots_from (slot_at c) a n ≡ part a n (slots c)
slots_part c a n h =
    let z : a ≡ 0 + a = omega arith in
    ap (λ x. slots_from (slot_at c) x n) z
    ∙ sym (take-slots (slot_at c) (0 + a) n (len_of c - a) (omega (arith, h)))
    ∙ ap (take n) (sym (drop-slots (slot_at c) 0 a (len_of c) (omega (arith, h))))

-- The slots are lists or maps.
abbrev pub HasItems : Parts → Type 0
HasItems (lists _ _ _) = Unit {0}
HasItems (maps _) = Unit {0}
HasItems _ = ⊥

-- the offsets of an array
abbrev pub off : Layout → List ℕ
off l = offsets_in (level l).parts

-- the slots of its child
abbrev pub items_in : Layout → List Slot
items_in l = slots (child (children l) 0)

parts_items : (h : Level) (p : Parts) (cs : Layouts) → PartsFit h p cs → HasItems p → ItemsFit (offsets_in p) h.len cs
parts_items h (lists w q os) cs f has = f.2
parts_items h (maps os) cs f has = f.3
parts_items h _ cs f has = absurd has

pub items_fit : (l : Layout) → IsArray l → HasItems (level l).parts → ItemsFit (off l) (len_of l) (children l)
items_fit (layout h cs) is has = parts_items h h.parts cs is.1 has

items_value : (p : Parts) (cs : Layouts) (j : ℕ) → HasItems p → 0 < child_count cs
    → value_at p (children_at cs) j ≡ list_slot (slots_of (slots_from (slot_at (child cs 0)) (slice_index (offsets_in p) j) (width (offsets_in p) j)))
items_value (lists w q os) no_layouts j has lt = absurd (omega (arith, lt))
items_value (lists w q os) (more_layouts c cs) j has lt = refl
items_value (maps os) no_layouts j has lt = absurd (omega (arith, lt))
items_value (maps os) (more_layouts c cs) j has lt = refl
items_value _ cs j has lt = absurd has

-- The slot at j has the items of the child between its offsets.
pub items_part : (l : Layout) (j : ℕ) → IsArray l → HasItems (level l).parts → 0 < child_count (children l) → j < len_of l
    → value_in l j ≡ list_slot (slots_of (part (slice_index (off l) j) (width (off l) j) (items_in l)))
items_part l j is has some lt =
    let fit = items_fit l is has in
    let ends = reach-first (last_end_of (off l)) (children l) fit.within some in
    let n = fit.count in
    let more = fit.offsets.some in
    let rise = fit.offsets.rising j (omega (arith, lt, n, more)) in
    let last = offset_last (off l) (j + 1) fit.offsets (omega (arith, lt, n, more)) in
    items_value (level l).parts (children l) j has some
    ∙ ap (λ ss. list_slot (slots_of ss)) (slots_part (child (children l) 0) (slice_index (off l) j) (width (off l) j) (omega (arith, ends, rise, last)))

module _ (m : Layout) (ls : List Layout) (runs : List Run) (like : AllHaveTypeOf m ls) (within : AreWithin ls runs)
    (has : All (λ l. HasItems (level l).parts) ls) (some : HaveChild 0 ls) where
  are : All (λ l. IsOffsets (off l)) ls
  are = λ k d lt. (items_fit (get_or ls k d) (like.1 k d lt) (has k d lt)).offsets

  ends : All (λ l. last_end_of (off l) ≤ length (items_in l)) ls
  ends = λ k d lt.
      let l = get_or ls k d in
      let fit = items_fit l (like.1 k d lt) (has k d lt) in
      let reach = reach-first (last_end_of (off l)) (children l) fit.within (some k d lt) in
      let count = length-slots_from (slot_at (child (children l) 0)) 0 (len_of (child (children l) 0)) in
      omega (arith, reach, count)

  pub spans-fit : All (RunFits (map (λ l. span_count (off l)) ls)) runs
  spans-fit =
      subst (λ ns. All (RunFits ns) runs)
      (sym (map_same (λ l. span_count (off l)) len_of ls (λ k d lt. (items_fit (get_or ls k d) (like.1 k d lt) (has k d lt)).count)))
      within

  item_lens : (xs : List Layout) → map (λ ss. length ss) (map items_in xs) ≡ map len_of (each_child 0 xs)
  item_lens [] = refl
  item_lens (x ∷ xs) = ap₂ (λ n ns. n ∷ ns) (length-slots_from (slot_at (child (children x) 0)) 0 (len_of (child (children x) 0))) (item_lens xs)

  -- the runs over the children are within them
  pub items-within : AreWithin (each_child 0 ls) (map (run_of_items (map off ls)) runs)
  items-within = subst (λ ns. All (RunFits ns) (map (run_of_items (map off ls)) runs)) (item_lens ls) (items-fit off items_in ls are ends runs spans-fit)

  pub offsets_count : span_count (offsets_of_runs (map off ls) runs) ≡ length (origins runs)
  offsets_count = spans_count (λ l. spans_seen (type_of l) (off l) [] None) ls runs spans-fit

  -- An array with the offsets of the runs, and a copy of their items.
  pub items_copied : (l c : Layout) → IsArray l → HasItems (level l).parts → 0 < child_count (children l) → child (children l) 0 ≡ c
      → off l ≡ offsets_of_runs (map off ls) runs → IsCopy (child (children m) 0) (each_child 0 ls) (map (run_of_items (map off ls)) runs) c
      → type_of l ≡ type_of m → IsValidityOf (map (λ l. (level l).validity) ls) runs (level l).validity → IsCopy m ls runs l
  items_copied l c is hasl somel same offs copy types valid =
      let fit = items_fit l is hasl in
      let len : len_of l ≡ length (origins runs) = sym fit.count ∙ ap span_count offs ∙ offsets_count in
      let items : items_in l ≡ items_of_runs (map items_in ls) (map (run_of_items (map off ls)) runs) =
      ap slots same
      ∙ ap (λ c. c.slots) copy
      ∙ ap (λ cs. items_of_runs cs (map (run_of_items (map off ls)) runs)) (slots_are (each_child 0 ls) ∙ map-map slots (λ l. child (children l) 0) ls)
      in
      nested_made ls runs within (type_of m) l types len valid (λ d i lt v.
      let p0 = (origin_at runs i).0 in
      let j = (origin_at runs i).1 in
      let x = get_or ls p0 d in
      let first : p0 < length ls = first_there ls runs within i lt in
      items_part l i is hasl somel (omega (arith, len, lt))
      ∙ ap₂ (λ os ss. list_slot (slots_of (part (slice_index os i) (width os i) ss))) offs items
      ∙ ap (λ ss. list_slot (slots_of ss)) (slot_there off items_in ls are ends d runs i spans-fit lt)
      ∙ sym (items_part x j (like.1 p0 d first) (has p0 d first) (some p0 d first) (second_there ls runs within d i lt)))

  -- the items of the copy reach as far as the offsets
  pub items_reach : (c : Layout) → IsCopy (child (children m) 0) (each_child 0 ls) (map (run_of_items (map off ls)) runs) c
      → last_end_of (offsets_of_runs (map off ls) runs) ≤ len_of c
  items_reach c copy =
      let reach = ends_there off items_in ls are ends runs spans-fit in
      let same : length (slots c) ≡ length (items_of_runs (map items_in ls) (map (run_of_items (map off ls)) runs)) =
      ap (λ k. length k.slots) copy
      ∙ ap (λ cs. length (items_of_runs cs (map (run_of_items (map off ls)) runs))) (slots_are (each_child 0 ls) ∙ map-map slots (λ l. child (children l) 0) ls)
      in
      let count = length-slots_from (slot_at c) 0 (len_of c) in
      omega (arith, reach, same, count)

-- ---- lists like b
module _ (b : ListSeen) (ls : List Layout) (runs : List Run) (like : AllHaveTypeOf (list_layout b) ls) (within : AreWithin ls runs)
    (has : All (λ l. HasItems (level l).parts) ls) (some : HaveChild 0 ls) (os : List ℕ) (offs : os ≡ offsets_of_runs (map off ls) runs)
    (c : Layout) (copy : IsCopy b.child (each_child 0 ls) (map (run_of_items (map off ls)) runs) c)
    (v : Validity) (is : IsValidityOf (map (λ l. (level l).validity) ls) runs v) where
  pub list_unbroken : (t : TypeTree) (p : PrimitiveType) (e : Error) → t ≡ b.type → p ≡ b.width → BreaksList (list_seen t p os c v) e → ⊥
  list_unbroken t p e typed wide breaks =
      let reach = items_reach (list_layout b) ls runs like within has some c copy in
      let same : last_offset os ≡ last_end_of (offsets_of_runs (map off ls) runs) = ap last_offset offs in
      let count : span_count os ≡ length (origins runs) = ap span_count offs ∙ offsets_count (list_layout b) ls runs like within has some in
      list_kept b.type b.width os (type_of c) (len_of c) v e like.0.1.0
      (subst (λ u. FieldTypes (child_fields b.type) (u ∷ [])) (sym (ap (λ k. k.type) copy)) like.0.1.1)
      (omega (arith, reach, same))
      (subst (ValidityFits v) (sym count) is.fits)
      (subst (λ u. BreaksListRules u b.width os (type_of c) (len_of c) v e) typed
      (subst (λ q. BreaksListRules t q os (type_of c) (len_of c) v e) wide breaks))

  pub list_copied : (t : TypeTree) (p : PrimitiveType) (a : ListSeen) → t ≡ b.type → p ≡ b.width → a ≡ list_seen t p os c v → IsArray (list_layout (list_seen t p os c v))
      → IsCopy (list_layout b) ls runs (list_layout a)
  list_copied t p a typed wide made array =
      subst (λ s. IsCopy (list_layout b) ls runs (list_layout s)) (sym made)
      (items_copied (list_layout b) ls runs like within has some (list_layout (list_seen t p os c v)) c array tt (omega arith) refl offs copy typed is)

-- ---- maps like b
module _ (b : MapSeen) (ls : List Layout) (runs : List Run) (like : AllHaveTypeOf (map_layout b) ls) (within : AreWithin ls runs)
    (has : All (λ l. HasItems (level l).parts) ls) (some : HaveChild 0 ls) (os : List ℕ) (offs : os ≡ offsets_of_runs (map off ls) runs)
    (c : Layout) (copy : IsCopy b.child (each_child 0 ls) (map (run_of_items (map off ls)) runs) c)
    (v : Validity) (is : IsValidityOf (map (λ l. (level l).validity) ls) runs v) where
  pub map_unbroken : (t : TypeTree) (e : Error) → t ≡ b.type → BreaksMap (map_seen t os c v) e → ⊥
  map_unbroken t e typed breaks =
      let reach = items_reach (map_layout b) ls runs like within has some c copy in
      let same : last_offset os ≡ last_end_of (offsets_of_runs (map off ls) runs) = ap last_offset offs in
      let count : span_count os ≡ length (origins runs) = ap span_count offs ∙ offsets_count (map_layout b) ls runs like within has some in
      map_kept b.type os (type_of c) (len_of c) v e like.0.1.0
      (subst IsPair (sym (ap (λ k. k.type) copy)) like.0.1.1.0)
      (subst (λ u. FieldTypes (child_fields b.type) (u ∷ [])) (sym (ap (λ k. k.type) copy)) like.0.1.2)
      (omega (arith, reach, same))
      (subst (ValidityFits v) (sym count) is.fits)
      (subst (λ u. BreaksMapRules u os (type_of c) (len_of c) v e) typed breaks)

  pub map_copied : (t : TypeTree) (a : MapSeen) → t ≡ b.type → a ≡ map_seen t os c v → IsArray (map_layout (map_seen t os c v)) → IsCopy (map_layout b) ls runs (map_layout a)
  map_copied t a typed made array =
      subst (λ s. IsCopy (map_layout b) ls runs (map_layout s)) (sym made)
      (items_copied (map_layout b) ls runs like within has some (map_layout (map_seen t os c v)) c array tt (omega arith) refl offs copy typed is)
