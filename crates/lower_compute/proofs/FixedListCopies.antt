-- Lists of one length, run by run.
use Rattle.std.proofs.Common.{arith, refl, ◌≡◌, ℕ, ◌+◌, ◌*◌, ◌/◌, ◌<◌, List, [], ◌∷◌, length, map, get_or, sym, ap, ap₂, subst, ◌∙◌}
use Rattle.std.specs.List.{All}
use Rattle.std.proofs.Math.Nat.{add-mul}
use Rattle.std.proofs.lemmas.Nat.{mul-le, div-mul-add}
use Rattle.lower.specs.TypeTrees.{TypeTree}
use Rattle.lower.specs.Physical.{physical}
use Rattle.lower.specs.declared.datatypes.physical_type.PhysicalType.TheVariants as Physicals
use Rattle.lower.specs.declared.error.Error.{Error}
use Rattle.lower.specs.declared.error.Error.TheVariants.{OutOfSpec}
use Rattle.lower.specs.declared.error.Rule.TheVariants.{ValidityLength, ZeroSize, ChildLength, ChildType, PhysicalType as WrongType}
use Rattle.lower_flat_arrays.specs.Validities.{Validity, ValidityFits, part}
use Rattle.lower_validation.specs.Fields.{child_fields, FieldTypes}
use Rattle.lower_validation.specs.Rules.{BreaksFixedListRules}
use Rattle.lower_arrays.specs.FixedLists.{FixedListSeen, fixed_list_seen, fixed_list_layout, BreaksFixedList}
use Rattle.lower_flat_arrays.specs.Columns.{null_slot, list_slot, slots_of, slots_from}
use Rattle.lower_validation.specs.ListTypes.{list_size}
use Rattle.lower_arrays.specs.Layouts.{Parts, fixed_lists, Level, Layout, layout, Layouts, no_layouts, more_layouts, level, children, len_of, type_of}
use Rattle.lower_arrays.specs.Children.{child_count}
use Rattle.lower_arrays.specs.Choices.{child}
use Rattle.lower_arrays.specs.Slots.{value_at, slot_at, children_at, slots, PartsFit, IsArray}
use Rattle.lower_compute.specs.declared.runs.Run.{Run}
use Rattle.lower_compute.specs.Runs.{RunFits, items_of_runs, origins, origin_at, scaled, IsValidityOf}
use Rattle.lower_compute.specs.Copies.{AllHaveTypeOf, AreWithin, IsCopy, each_child, HaveChild}
use Rattle.lower_compute.proofs.RunPlaces.{map-map, length-slots_from}
use Rattle.lower_compute.proofs.ScaledRuns.{scaled-fit, pieces_there, scaled_count}
use Rattle.lower_compute.proofs.KindFacts.{kind}
use Rattle.lower_compute.proofs.ChildPlaces.{have-first}
use Rattle.lower_compute.proofs.CopySlots.{value_in, slots_are, first_there, second_there, nested_made, viewed_all}
use Rattle.lower_compute.proofs.ListCopies.{slots_part, items_in}

-- The slots are lists of this size.
abbrev pub HasSize : ℕ → Parts → Type 0
HasSize n (fixed_lists s) = s ≡ n
HasSize n _ = ⊥

-- a size is the type's
pub sized : (h : Level) (p : Parts) (cs : Layouts) (n : ℕ) → PartsFit h p cs → kind p ≡ 7 → list_size h.type ≡ n → HasSize n p
sized h (fixed_lists s) cs n f k e = sym f.1 ∙ e
sized h _ cs n f k e = absurd (omega (arith, k))

sized_len : (h : Level) (p : Parts) (cs : Layouts) (n : ℕ) → PartsFit h p cs → HasSize n p → 0 < child_count cs → len_of (child cs 0) ≡ h.len * n
sized_len h (fixed_lists s) cs n f e lt = have-first (h.len * s) cs f.4 lt ∙ ap (λ k. h.len * k) e
sized_len h _ cs n f e lt = absurd e

pub child_len : (l : Layout) (n : ℕ) → IsArray l → HasSize n (level l).parts → 0 < child_count (children l) → len_of (child (children l) 0) ≡ len_of l * n
child_len (layout h cs) n is e lt = sized_len h h.parts cs n is.1 e lt

sized_value : (p : Parts) (cs : Layouts) (n j : ℕ) → HasSize n p → 0 < child_count cs
    → value_at p (children_at cs) j ≡ list_slot (slots_of (slots_from (slot_at (child cs 0)) (j * n) n))
sized_value (fixed_lists s) no_layouts n j e lt = absurd (omega (arith, lt))
sized_value (fixed_lists s) (more_layouts c cs) n j e lt = ap (λ k. list_slot (slots_of (slots_from (slot_at c) (j * k) k))) e
sized_value _ cs n j e lt = absurd e

-- The slot at j has n slots of the child.
pub sized_part : (l : Layout) (n j : ℕ) → IsArray l → HasSize n (level l).parts → 0 < child_count (children l) → j < len_of l
    → value_in l j ≡ list_slot (slots_of (part (j * n) n (items_in l)))
sized_part l n j is e some lt =
    let count = child_len l n is e some in
    let more = mul-le (j + 1) n (len_of l) n (omega (arith, lt)) (omega arith) in
    let one : (j + 1) * n ≡ j * n + 1 * n = add-mul j 1 n in
    sized_value (level l).parts (children l) n j e some
    ∙ ap (λ ss. list_slot (slots_of ss)) (slots_part (child (children l) 0) (j * n) n (omega (arith, count, more, one)))

module _ (m : Layout) (ls : List Layout) (runs : List Run) (n : ℕ) (like : AllHaveTypeOf m ls) (within : AreWithin ls runs)
    (has : All (λ l. HasSize n (level l).parts) ls) (some : HaveChild 0 ls) where
  long : All (λ l. length (items_in l) ≡ len_of l * n) ls
  long = λ k d lt.
      let l = get_or ls k d in
      length-slots_from (slot_at (child (children l) 0)) 0 (len_of (child (children l) 0)) ∙ child_len l n (like.1 k d lt) (has k d lt) (some k d lt)

  item_lens : (xs : List Layout) → map (λ ss. length ss) (map items_in xs) ≡ map len_of (each_child 0 xs)
  item_lens [] = refl
  item_lens (x ∷ xs) = ap₂ (λ n ns. n ∷ ns) (length-slots_from (slot_at (child (children x) 0)) 0 (len_of (child (children x) 0))) (item_lens xs)

  -- the runs over the children are within them
  pub scaled-within : AreWithin (each_child 0 ls) (map (scaled n) runs)
  scaled-within = subst (λ ns. All (RunFits ns) (map (scaled n) runs)) (item_lens ls) (scaled-fit len_of items_in n ls long runs within)

  -- as many slots as the lists have
  pub scaled_len : (c : Layout) → IsCopy (child (children m) 0) (each_child 0 ls) (map (scaled n) runs) c → len_of c ≡ length (origins runs) * n
  scaled_len c copy =
      sym (length-slots_from (slot_at c) 0 (len_of c))
      ∙ ap (λ k. length k.slots) copy
      ∙ ap (λ cs. length (items_of_runs cs (map (scaled n) runs))) (slots_are (each_child 0 ls) ∙ map-map slots (λ l. child (children l) 0) ls)
      ∙ scaled_count len_of items_in n ls long runs within

  -- An array with a copy of their items.
  pub sized_copied : (l c : Layout) → IsArray l → HasSize n (level l).parts → 0 < child_count (children l) → child (children l) 0 ≡ c
      → len_of l ≡ length (origins runs) → IsCopy (child (children m) 0) (each_child 0 ls) (map (scaled n) runs) c
      → type_of l ≡ type_of m → IsValidityOf (map (λ l. (level l).validity) ls) runs (level l).validity → IsCopy m ls runs l
  sized_copied l c is hasl somel same len copy types valid =
      let items : items_in l ≡ items_of_runs (map items_in ls) (map (scaled n) runs) =
      ap slots same
      ∙ ap (λ c. c.slots) copy
      ∙ ap (λ cs. items_of_runs cs (map (scaled n) runs)) (slots_are (each_child 0 ls) ∙ map-map slots (λ l. child (children l) 0) ls)
      in
      nested_made ls runs within (type_of m) l types len valid (λ d i lt v.
      let p0 = (origin_at runs i).0 in
      let j = (origin_at runs i).1 in
      let x = get_or ls p0 d in
      let first : p0 < length ls = first_there ls runs within i lt in
      sized_part l n i is hasl somel (omega (arith, len, lt))
      ∙ ap (λ ss. list_slot (slots_of (part (i * n) n ss))) items
      ∙ ap (λ ss. list_slot (slots_of ss)) (pieces_there len_of items_in n ls long runs d null_slot i within lt)
      ∙ sym (sized_part x n j (like.1 p0 d first) (has p0 d first) (some p0 d first) (second_there ls runs within d i lt)))

fixed_list_kept : (t c : TypeTree) (n : ℕ) (v : Validity) (e : Error) → physical t ≡ Physicals.FixedSizeList → 0 < list_size t → FieldTypes (child_fields t) (c ∷ [])
    → n ≡ (n / list_size t) * list_size t → ValidityFits v (n / list_size t) → BreaksFixedListRules t c n v e → ⊥
fixed_list_kept t c n v (OutOfSpec WrongType) lies some child whole fits breaks = breaks lies
fixed_list_kept t c n v (OutOfSpec ZeroSize) lies some child whole fits breaks = omega (arith, some, breaks)
fixed_list_kept t c n v (OutOfSpec ChildLength) lies some child whole fits breaks = breaks whole
fixed_list_kept t c n v (OutOfSpec ChildType) lies some child whole fits breaks = breaks child
fixed_list_kept t c n v (OutOfSpec ValidityLength) lies some child whole fits breaks = breaks fits
fixed_list_kept t c n v (OutOfSpec _) lies some child whole fits breaks = breaks

-- ---- lists of one length like b
module _ (b : FixedListSeen) (ls : List Layout) (runs : List Run) (like : AllHaveTypeOf (fixed_list_layout b) ls) (within : AreWithin ls runs)
    (has : All (λ l. HasSize b.size (level l).parts) ls) (some : HaveChild 0 ls)
    (c : Layout) (copy : IsCopy b.child (each_child 0 ls) (map (scaled b.size) runs) c)
    (v : Validity) (is : IsValidityOf (map (λ l. (level l).validity) ls) runs v) where
  size_is : list_size b.type ≡ b.size
  size_is = like.0.1.1

  len_is : len_of c ≡ length (origins runs) * b.size
  len_is = scaled_len (fixed_list_layout b) ls runs b.size like within has some c copy

  count : len_of c / list_size b.type ≡ length (origins runs)
  count =
      let e : length (origins runs) * b.size ≡ length (origins runs) * b.size + 0 = omega arith in
      ap₂ (λ x y. x / y) (len_is ∙ e) size_is ∙ div-mul-add (length (origins runs)) b.size 0 like.0.1.2

  pub fixed_list_unbroken : (t : TypeTree) (e : Error) → t ≡ b.type → BreaksFixedList (fixed_list_seen t c v) e → ⊥
  fixed_list_unbroken t e typed breaks =
      fixed_list_kept b.type (type_of c) (len_of c) v e like.0.1.0 (subst (λ n. 0 < n) (sym size_is) like.0.1.2)
      (subst (λ u. FieldTypes (child_fields b.type) (u ∷ [])) (sym (ap (λ k. k.type) copy)) like.0.1.3)
      (len_is ∙ sym (ap₂ (λ x y. x * y) count size_is))
      (subst (ValidityFits v) (sym count) is.fits)
      (subst (λ u. BreaksFixedListRules u (type_of c) (len_of c) v e) typed breaks)

  pub fixed_list_copied : (t : TypeTree) (a : FixedListSeen) → t ≡ b.type → a ≡ fixed_list_seen t c v → IsArray (fixed_list_layout (fixed_list_seen t c v))
      → IsCopy (fixed_list_layout b) ls runs (fixed_list_layout a)
  fixed_list_copied t a typed made array =
      subst (λ s. IsCopy (fixed_list_layout b) ls runs (fixed_list_layout s)) (sym made)
      (sized_copied (fixed_list_layout b) ls runs b.size like within has some (fixed_list_layout (fixed_list_seen t c v)) c array
      (ap list_size typed ∙ size_is) (omega arith) refl (ap (λ u. len_of c / list_size u) typed ∙ count) copy typed is)

-- a run over the children is within its child
pub scaled_there : {X : Type 0} (lay : X → Layout) (xs : List X) (runs : List Run) (size k : ℕ) (d : Run) → k < length runs
    → AreWithin (each_child 0 (map lay xs)) (map (scaled size) runs) → RunFits (map (λ x. len_of (child (children (lay x)) 0)) xs) (scaled size (get_or runs k d))
scaled_there lay xs runs size k d h within =
    let same : map len_of (each_child 0 (map lay xs)) ≡ map (λ x. len_of (child (children (lay x)) 0)) xs =
    map-map len_of (λ l. child (children l) 0) (map lay xs) ∙ map-map (λ l. len_of (child (children l) 0)) lay xs
    in
    subst (λ ns. RunFits ns (scaled size (get_or runs k d))) same
    (viewed_all (RunFits (map len_of (each_child 0 (map lay xs)))) (scaled size) runs (map (scaled size) runs) refl within k d h)
