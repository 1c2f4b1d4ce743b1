-- Structs, run by run.
use Rattle.std.proofs.Common.{arith, refl, ◌≡◌, ℕ, ◌<◌, ◌≤◌, List, [], ◌∷◌, length, map, get_or, sym, ap, subst, ◌∙◌}
use Rattle.std.specs.List.{All}
use Rattle.std.proofs.lemmas.List.{get_or-map}
use Rattle.lower.specs.Physical.{physical}
use Rattle.lower.specs.TypeTrees.{TypeTree, FieldTrees, no_fields, more_fields}
use Rattle.lower.specs.declared.datatypes.physical_type.PhysicalType.TheVariants.{Struct}
use Rattle.lower.specs.declared.error.Error.{Error}
use Rattle.lower.specs.declared.error.Error.TheVariants.{OutOfSpec}
use Rattle.lower.specs.declared.error.Rule.TheVariants.{ValidityLength, NoChild, ChildCount, ChildType, ChildLength, PhysicalType as WrongType}
use Rattle.lower_flat_arrays.specs.Validities.{Validity, ValidityFits}
use Rattle.lower_arrays.specs.Layouts.{Parts, records, Level, Layout, layout, Layouts, no_layouts, more_layouts, layouts, level, children, len_of}
use Rattle.lower_arrays.specs.Children.{child_fields, field_count, child_count, FieldTypes, ChildTypes, HasChild, AllHave}
use Rattle.lower_arrays.specs.Choices.{child, no_child}
use Rattle.lower_arrays.specs.Slots.{Slot, record_slot, slots_of, each_at, value_at, slot_at, children_at, PartsFit, IsArray}
use Rattle.lower_arrays.specs.Structs.{StructSeen, struct_seen, first_len, struct_layout, BreaksStruct}
use Rattle.lower_arrays.proofs.Children.{count_children}
use Rattle.lower_arrays.proofs.Choices.{child_has}
use Rattle.lower_compute.specs.declared.runs.Run.{Run}
use Rattle.lower_compute.specs.Runs.{RunFits, origins, origin_at, IsValidityOf}
use Rattle.lower_compute.specs.Copies.{AllHaveTypeOf, AreWithin, IsCopy, each_child, HaveChildren, AreCopies}
use Rattle.lower_compute.proofs.RunPlaces.{map-map}
use Rattle.lower_compute.proofs.KindFacts.{kind}
use Rattle.lower_compute.proofs.Likes.{kinds, counts, like_child, have_child}
use Rattle.lower_compute.proofs.ChildPlaces.{child_layouts, each-same, types-same, all-have, has-child, some-child}
use Rattle.lower_compute.proofs.CopySlots.{map_same, first_there, copy_len, copy_slot, nested_made}

record_value : (p : Parts) (fs : List (ℕ → Slot)) (i : ℕ) → kind p ≡ 9 → value_at p fs i ≡ record_slot (slots_of (each_at fs i))
record_value records fs i e = refl
record_value _ fs i e = absurd (omega (arith, e))

pub record_lens : (h : Level) (p : Parts) (cs : Layouts) → PartsFit h p cs → kind p ≡ 9 → (k : ℕ) → k < child_count cs → len_of (child cs k) ≡ h.len
record_lens h records cs f e k lt = child_has cs h.len k f.3 lt
record_lens h _ cs f e k lt = absurd (omega (arith, e))

record_lens_of : (l : Layout) → IsArray l → kind (level l).parts ≡ 9 → (k : ℕ) → k < child_count (children l) → len_of (child (children l) k) ≡ len_of l
record_lens_of (layout h cs) is e k lt = record_lens h h.parts cs is.1 e k lt

pub types_counted : (fs : FieldTrees) (cs : Layouts) → ChildTypes fs cs → child_count cs ≡ field_count fs
types_counted no_fields no_layouts f = refl
types_counted no_fields (more_layouts c cs) f = absurd f
types_counted (more_fields g fs) no_layouts f = absurd f
types_counted (more_fields g fs) (more_layouts c cs) f = let rest = types_counted fs cs f.1 in omega (arith, rest)

struct_kept : (a : StructSeen) (e : Error) → physical a.type ≡ Struct → HasChild (layouts a.children) → ChildTypes (child_fields a.type) (layouts a.children)
    → AllHave a.len (layouts a.children) → ValidityFits a.validity a.len → BreaksStruct a e → ⊥
struct_kept a (OutOfSpec WrongType) lies some types lens fits breaks = breaks lies
struct_kept a (OutOfSpec NoChild) lies some types lens fits breaks = breaks some
struct_kept a (OutOfSpec ChildCount) lies some types lens fits breaks = breaks (types_counted (child_fields a.type) (layouts a.children) types)
struct_kept a (OutOfSpec ChildType) lies some types lens fits breaks = breaks types
struct_kept a (OutOfSpec ChildLength) lies some types lens fits breaks = breaks lens
struct_kept a (OutOfSpec ValidityLength) lies some types lens fits breaks = breaks fits
struct_kept a (OutOfSpec _) lies some types lens fits breaks = breaks

first_len_is : (cs : List Layout) → first_len cs ≡ len_of (get_or cs 0 no_child)
first_len_is [] = refl
first_len_is (c ∷ cs) = refl

-- The arrays ls, of the type of the structs b.
module _ (b : StructSeen) (ls : List Layout) (runs : List Run) (like : AllHaveTypeOf (struct_layout b) ls) (within : AreWithin ls runs) where
  abbrev m : Layout
  m = struct_layout b

  nested : 6 ≤ kind (level m).parts
  nested = omega arith

  count_is : child_count (layouts b.children) ≡ length b.children
  count_is = count_children b.children

  pub child_within : (k : ℕ) → k < length b.children → AreWithin (each_child k ls) runs
  child_within k lt =
      let same : map len_of (each_child k ls) ≡ map len_of ls =
      map-map len_of (λ l. child (children l) k) ls
      ∙ map_same (λ l. len_of (child (children l) k)) len_of ls
      (λ i d below. record_lens_of (get_or ls i d) (like.1 i d below) (kinds m ls like i d below) k
      (let n : child_count (children (get_or ls i d)) ≡ child_count (layouts b.children) = counts m ls like nested i d below in omega (arith, n, count_is, lt)))
      in
      subst (λ ns. All (RunFits ns) runs) (sym same) within

  pub structs_have : HaveChildren b.children ls (λ k. runs)
  structs_have = record {
    like = λ k lt. subst (λ c. AllHaveTypeOf c (each_child k ls)) (child_layouts b.children k) (like_child m ls like nested k);
    have = λ k lt. have_child m ls like nested k (omega (arith, count_is, lt));
    within = child_within;
  }

  -- The copies cs of the children.
  module _ (cs : List Layout) (copies : AreCopies b.children ls (λ k. runs) cs) where
    lens : (k : ℕ) → k < length cs → len_of (get_or cs k no_child) ≡ length (origins runs)
    lens k lt =
        let n = copies.count in
        let below : k < length b.children = omega (arith, n, lt) in
        copy_len (each_child k ls) runs (child_within k below) (get_or b.children k no_child) (get_or cs k no_child) (copies.each k below)

    some : 0 < length cs
    some =
        let n = copies.count in
        let first = some-child (layouts b.children) like.0.1.1 in
        omega (arith, n, first, count_is)

    pub struct_len : first_len cs ≡ length (origins runs)
    struct_len = first_len_is cs ∙ lens 0 some

    types : ChildTypes (child_fields b.type) (layouts cs)
    types =
        subst (FieldTypes (child_fields b.type))
        (sym (types-same cs b.children copies.count (λ k lt. ap (λ c. c.type) (copies.each k lt))))
        like.0.1.2

    module _ (v : Validity) (is : IsValidityOf (map (λ l. (level l).validity) ls) runs v) where
      -- they make a struct
      pub struct_unbroken : (t : TypeTree) (e : Error) → t ≡ b.type → BreaksStruct (struct_seen t cs v) e → ⊥
      struct_unbroken t e same breaks =
          struct_kept (struct_seen b.type cs v) e like.0.1.0 (has-child cs b.children copies.count like.0.1.1) types
          (all-have (first_len cs) cs (λ k lt. lens k lt ∙ sym struct_len))
          (subst (ValidityFits v) (sym struct_len) is.fits)
          (subst (λ u. BreaksStruct (struct_seen u cs v) e) same breaks)

      -- whose slots are those of the runs
      pub struct_copied : (t : TypeTree) (a : StructSeen) → t ≡ b.type → a ≡ struct_seen t cs v → IsCopy m ls runs (struct_layout a)
      struct_copied t a typed made =
          subst (λ s. IsCopy m ls runs (struct_layout s)) (sym (made ∙ ap (λ u. struct_seen u cs v) typed))
          (nested_made ls runs within b.type (struct_layout (struct_seen b.type cs v)) refl struct_len is (λ d i lt valid.
          let p0 = (origin_at runs i).0 in
          let j = (origin_at runs i).1 in
          let x = get_or ls p0 d in
          let first : p0 < length ls = first_there ls runs within i lt in
          let many : child_count (children x) ≡ child_count (layouts b.children) = counts m ls like nested p0 d first in
          let all = count_children cs in
          let n = copies.count in
          ap (λ ss. record_slot (slots_of ss))
          (each-same (layouts cs) (children x) i j (omega (arith, many, all, n, count_is)) (λ k below.
          let inner : k < length b.children = omega (arith, below, all, n) in
          ap (λ c. slot_at c i) (child_layouts cs k)
          ∙ copy_slot (each_child k ls) runs (child_within k inner) (get_or b.children k no_child) (get_or cs k no_child) no_child i (copies.each k inner) lt
          ∙ ap (λ c. slot_at c j) (get_or-map (λ l. child (children l) k) ls p0 d no_child first)))
          ∙ sym (record_value (level x).parts (children_at (children x)) j (kinds m ls like p0 d first))))
