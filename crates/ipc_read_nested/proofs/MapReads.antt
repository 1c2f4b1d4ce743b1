-- Columns of maps.
use Rattle.std.proofs.Common.{arith, ◌≡◌, refl, ℕ, ℤ, ◌+◌, Bool, Box, Global, List, [], ◌∷◌, Option, Some, sym, ap, subst, ◌∙◌}
use denote.Hole.Carrier.{out}
use Rattle.lower.specs.TypeTrees.{Plain, null, boolean, int8, int16, int32, int64, uint8, uint16, uint32, uint64, float16, float32, float64, timestamp, date32, date64, time32, time64, duration, interval, binary, fixed_binary, large_binary, utf8, large_utf8, decimal, decimal256, list, large_list, fixed_list, entries as pairs, structure, choice, TypeTree, plain, single, group, dictionary, extension, FieldTree, FieldTrees, no_fields, more_fields}
use Rattle.lower.specs.TypeViews.{type_step, field_step, type_view, field_view}
use Rattle.lower.specs.Physical.{physical}
use Rattle.lower.specs.declared.datatypes.Field.{Field}
use Rattle.lower.specs.declared.datatypes.DataType.{DataType}
use Rattle.lower.specs.declared.datatypes.DataType.TheVariants.{Map as MapType}
use Rattle.lower.specs.declared.datatypes.DataType.TheViews.{out-DataType}
use Rattle.lower.specs.declared.datatypes.DataType.TheFolds.{fold_out-DataType}
use Rattle.lower.specs.declared.datatypes.physical_type.PhysicalType.TheVariants.{Map}
use Rattle.lower.specs.declared.error.Error.{Error}
use Rattle.lower.specs.declared.error.Error.TheVariants.{OutOfSpec}
use Rattle.lower.specs.declared.error.Rule.TheVariants.{ValidityLength, OffsetsPastValues, ChildType, MapChild, PhysicalType as WrongType}
use Rattle.lower_flat_arrays.specs.Validities.{Validity}
use Rattle.lower_validation.specs.Fields.{child_fields, field_type, FieldTypes, IsPair}
use Rattle.lower_arrays.specs.Layouts.{Layout, layout, no_layouts, more_layouts, maps, len_of, type_of}
use Rattle.lower_arrays.specs.Maps.{map_seen, map_layout, BreaksMap}
use Rattle.ipc_base.specs.IdTrees.{IdTrees}
use Rattle.ipc_model.proofs.ReadSlots.{array_len}
use Rattle.ipc_model.specs.Kinds.{offsets_32, offset_width, Kind, map_kind}
use Rattle.ipc_model.specs.TypeKinds.{first_ids, plain_kind, field_kind, kind_of}
use Rattle.ipc_model.specs.Entries.{Entries, Limit, rows}
use Rattle.ipc_model.specs.Columns.{Begins, Offsets, last_offset, IsPairKind, IsWell}
use Rattle.ipc_model.specs.ReadArrays.{first_type, array_at}
use Rattle.ipc_read_nested.specs.ListHeads.{AreLists, AreListsAt}
use Rattle.ipc_read_nested.proofs.ColumnLevels.{array_type}

pub map_keeps :
    (u : TypeTree) (os : List ℕ) (c : Layout) (v : Validity) (last : ℕ) (e : Error) → physical u ≡ Map → AreLists os v last → len_of c ≡ last
    → BreaksMap (map_seen u os c v) e → IsPair (type_of c) → FieldTypes (child_fields u) (type_of c ∷ []) → ⊥
map_keeps u os c v last (OutOfSpec WrongType) lies are len h pair types = h lies
map_keeps u os c v last (OutOfSpec MapChild) lies are len h pair types = h pair
map_keeps u os c v last (OutOfSpec OffsetsPastValues) lies are len h pair types = let ends = are.ends in h (omega (arith, ends, len))
map_keeps u os c v last (OutOfSpec ChildType) lies are len h pair types = h types
map_keeps u os c v last (OutOfSpec ValidityLength) lies are len h pair types = h are.fits
map_keeps u os c v last (OutOfSpec _) lies are len h pair types = absurd h

pub ruleset map_rules = (map_keeps)

-- ---- the type of maps

map_view : (d : DataType) (f : Box Field Global) (sorted : Bool) → d ≡ MapType f sorted → type_view d ≡ single (pairs sorted) (field_view f.value)
unfolding out-DataType out
map_view d f sorted e = ap type_view e ∙ fold_out-DataType TypeTree FieldTree type_step field_step (MapType f sorted)

pub map_kind_is : (d : DataType) (f : Box Field Global) (sorted : Bool) (id : Option ℤ) (is : IdTrees) → d ≡ MapType f sorted
    → kind_of (type_view d) id is ≡ map_kind (field_kind (field_view f.value) (first_ids is))
map_kind_is d f sorted id is e = ap (λ u. kind_of u id is) (map_view d f sorted e)

-- ---- pairs by their kind and by their type

plain_pair : (p : Plain) → IsPairKind (plain_kind p) → ⊥
plain_pair null h = h
plain_pair boolean h = h
plain_pair int8 h = h
plain_pair int16 h = h
plain_pair int32 h = h
plain_pair int64 h = h
plain_pair uint8 h = h
plain_pair uint16 h = h
plain_pair uint32 h = h
plain_pair uint64 h = h
plain_pair float16 h = h
plain_pair float32 h = h
plain_pair float64 h = h
plain_pair (timestamp unit _) h = h
plain_pair date32 h = h
plain_pair date64 h = h
plain_pair (time32 unit) h = h
plain_pair (time64 unit) h = h
plain_pair (duration unit) h = h
plain_pair (interval unit) h = h
plain_pair binary h = h
plain_pair (fixed_binary n) h = h
plain_pair large_binary h = h
plain_pair utf8 h = h
plain_pair large_utf8 h = h
plain_pair (decimal p s) h = h
plain_pair (decimal256 p s) h = h

pub pair_type : (t : TypeTree) (id : Option ℤ) (is : IdTrees) → IsPairKind (kind_of t id is) → IsPair t
pair_type (plain p) id is h = absurd (plain_pair p h)
pair_type (single list f) id is h = h
pair_type (single large_list f) id is h = h
pair_type (single (fixed_list n) f) id is h = h
pair_type (single (pairs sorted) f) id is h = h
pair_type (group structure no_fields) id is h = absurd h
pair_type (group structure (more_fields f no_fields)) id is h = absurd h
pair_type (group structure (more_fields f (more_fields g no_fields))) id is h = refl
pair_type (group structure (more_fields f (more_fields g (more_fields e fs)))) id is h = absurd h
pair_type (group (choice ids mode) fs) id is h = h
pair_type (dictionary keys t ordered) id is h = h
pair_type (extension name t text) id is h = h

pub pair_kind : (t : TypeTree) (id : Option ℤ) (is : IdTrees) → IsPair t → IsPairKind (kind_of t id is)
pair_kind (plain p) id is h = absurd h
pair_kind (single s f) id is h = absurd h
pair_kind (group structure no_fields) id is h = absurd (omega (arith, h))
pair_kind (group structure (more_fields f no_fields)) id is h = absurd (omega (arith, h))
pair_kind (group structure (more_fields f (more_fields g no_fields))) id is h = tt
pair_kind (group structure (more_fields f (more_fields g (more_fields e fs)))) id is h = absurd (omega (arith, h))
pair_kind (group (choice ids mode) fs) id is h = absurd h
pair_kind (dictionary keys t ordered) id is h = absurd h
pair_kind (extension name t text) id is h = absurd h

-- ---- columns

-- What is known of the column of maps at node a and buffer b: k are read, the
-- last offset, and the child's kind.
module _ (s : Entries) (vs : Option ℤ → Layout) (t : Kind) (u : TypeTree) (a b : ℕ) (limit : Limit) (os : List ℕ) (v : Validity) (last : ℕ) (f : FieldTree) (ut : TypeTree) (id : Option ℤ) (is : IdTrees)
    (at : AreListsAt s offsets_32 a b (rows s a limit) os v last) (fields : child_fields u ≡ more_fields f no_fields) (typed : field_type f ≡ ut) (kind : t ≡ kind_of ut id is) where
  pub map_child : IsWell s (map_kind t) a b limit → IsWell s t (a + 1) (b + 2) (Some last)
  map_child h = subst (λ (n : ℕ). IsWell s t (a + 1) (b + 2) (Some n)) (sym at.ends) h.1.2.0

  named : (c : Layout) → c ≡ array_at s vs t ut (a + 1) (b + 2) (Some last) → type_of c ≡ ut
  named c e = ap type_of e ∙ array_type s vs t ut (a + 1) (b + 2) (Some last)

  pub map_typed : (c : Layout) → c ≡ array_at s vs t ut (a + 1) (b + 2) (Some last) → FieldTypes (child_fields u) (type_of c ∷ [])
  map_typed c e = subst (λ (fs : FieldTrees). FieldTypes fs (type_of c ∷ [])) (sym fields) (named c e ∙ sym typed, tt)

  pub map_pair : (c : Layout) → c ≡ array_at s vs t ut (a + 1) (b + 2) (Some last) → IsWell s (map_kind t) a b limit → IsPair (type_of c)
  map_pair c e h = subst IsPair (sym (named c e)) (pair_type ut id is (subst IsPairKind kind h.0))

  pub map_len : (c : Layout) → c ≡ array_at s vs t ut (a + 1) (b + 2) (Some last) → IsWell s (map_kind t) a b limit → len_of c ≡ last
  map_len c e h =
      ap len_of e ∙ array_len s vs t ut (a + 1) (b + 2) (Some last) ∙ ap (λ n. rows s (a + 1) (Some n)) at.ends ∙ h.1.2.1 ∙ sym at.ends

  pub map_well : (c : Layout) → Begins s a b (rows s a limit) × Offsets s (b + 1) (offset_width offsets_32) (rows s a limit) → IsWell s t (a + 1) (b + 2) (Some last)
      → c ≡ array_at s vs t ut (a + 1) (b + 2) (Some last) → IsPair (type_of c) → len_of c ≡ last → IsWell s (map_kind t) a b limit
  map_well c head child e pair len = (
    subst IsPairKind (sym kind) (pair_kind ut id is (subst IsPair (named c e) pair)),
    (
      head.0,
      head.1,
      (
        subst (λ (m : ℕ). IsWell s t (a + 1) (b + 2) (Some m)) at.ends child,
        ap (λ m. rows s (a + 1) (Some m)) (sym at.ends) ∙ sym (array_len s vs t ut (a + 1) (b + 2) (Some last)) ∙ sym (ap len_of e) ∙ len ∙ at.ends,
      ),
    ),
  )

  pub map_array : (c x : Layout) → c ≡ array_at s vs t ut (a + 1) (b + 2) (Some last) → x ≡ map_layout (map_seen u os c v) → x ≡ array_at s vs (map_kind t) u a b limit
  map_array c x e made =
      let first : ut ≡ first_type (child_fields u) = sym (ap first_type fields ∙ typed) in
      let below : c ≡ array_at s vs t (first_type (child_fields u)) (a + 1) (b + 2) (Some (last_offset s (b + 1) (offset_width offsets_32) (rows s a limit))) =
      e ∙ ap (λ d. array_at s vs t d (a + 1) (b + 2) (Some last)) first
      ∙ ap (λ m. array_at s vs t (first_type (child_fields u)) (a + 1) (b + 2) (Some m)) at.ends
      in
      made ∙ (λ i. layout (record { type = u; len = at.count i; validity = at.mask i; parts = maps (at.places i) }) (more_layouts (below i) no_layouts))
