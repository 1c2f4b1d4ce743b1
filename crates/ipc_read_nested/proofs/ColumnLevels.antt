-- Columns of every kind, by their levels.
use Rattle.std.specs.Prelude.{string_bytes}
use Rattle.std.proofs.Common.{◌≡◌, refl, ℕ, ℤ, ◌+◌, List, [], ◌∷◌, Option, Some, sym, ap, subst, ◌∙◌}
use Rattle.lower.specs.TypeTrees.{TypeTree, field, FieldTree, FieldTrees, no_fields, more_fields}
use Rattle.lower.specs.TypeViews.{type_step, field_step, type_view, field_view, pairs_of}
use Rattle.lower.specs.declared.datatypes.Field.{Field}
use Rattle.lower.specs.declared.datatypes.DataType.TheFolds.{fold_out-Field}
use Rattle.lower.specs.declared.datatypes.UnionMode.TheVariants.{Sparse, Dense}
use Rattle.lower_types.specs.declared.PrimitiveType.{PrimitiveType}
use Rattle.lower_flat_arrays.specs.Validities.{Validity}
use Rattle.lower_validation.specs.Fields.{child_fields, field_type, FieldTypes}
use Rattle.lower_arrays.specs.Layouts.{Layout, layout, no_layouts, more_layouts, lists, len_of, type_of}
use Rattle.lower_arrays.specs.Lists.{list_seen, list_layout}
use Rattle.ipc_base.specs.IdTrees.{IdTree, ids, IdTrees}
use Rattle.ipc_model.proofs.ReadSlots.{array_len}
use Rattle.ipc_model.specs.Kinds.{OffsetWidth, offset_width, Kind, null_kind, boolean_kind, number_kind, float_kind, fixed_binary_kind, binary_kind, utf8_kind, list_kind, map_kind, fixed_list_kind, struct_kind, union_kind, dictionary_kind, extension_kind}
use Rattle.ipc_model.specs.TypeKinds.{field_kind, kind_of}
use Rattle.ipc_model.specs.Entries.{Entries, Limit, rows}
use Rattle.ipc_model.specs.Columns.{Begins, Offsets, last_offset, IsWell}
use Rattle.ipc_model.specs.ReadArrays.{offset_type, first_type, array_at}
use Rattle.ipc_read_flat.specs.Kinds.{IsStored}
use Rattle.ipc_read_nested.specs.ListHeads.{AreListsAt}

-- ---- types and ids

pub same_stored : (t : TypeTree) → IsStored t t
same_stored t = record { lies = refl; fields = refl; bytes_named = refl; slots_named = refl; values_named = refl; ids_named = refl; mode_named = refl }

field_is : (f : Field) → field_view f ≡ field (string_bytes f.name) (type_view f.data_type) f.is_nullable (pairs_of f.metadata.entries)
field_is f = fold_out-Field TypeTree FieldTree type_step field_step f

pub child_kind_is : (f : Field) (i : IdTree) (id : Option ℤ) (is : IdTrees) → i ≡ ids id is → field_kind (field_view f) i ≡ kind_of (type_view f.data_type) id is
child_kind_is f i id is e = ap (λ j. field_kind (field_view f) j) e ∙ ap (λ g. field_kind g (ids id is)) (field_is f)

pub child_type_is : (f : Field) → field_type (field_view f) ≡ type_view f.data_type
child_type_is f = ap field_type (field_is f)

pub ruleset child_fields_is = (child_kind_is, child_type_is)

pub ruleset columns = (same_stored)

-- ---- levels

pub array_type : (s : Entries) (vs : Option ℤ → Layout) (t : Kind) (u : TypeTree) (a b : ℕ) (limit : Limit) → type_of (array_at s vs t u a b limit) ≡ u
array_type s vs null_kind u a b limit = refl
array_type s vs boolean_kind u a b limit = refl
array_type s vs (number_kind f) u a b limit = refl
array_type s vs float_kind u a b limit = refl
array_type s vs (fixed_binary_kind n) u a b limit = refl
array_type s vs (binary_kind w) u a b limit = refl
array_type s vs (utf8_kind w) u a b limit = refl
array_type s vs (list_kind w t) u a b limit = refl
array_type s vs (map_kind t) u a b limit = refl
array_type s vs (fixed_list_kind n t) u a b limit = refl
array_type s vs (struct_kind ts) u a b limit = refl
array_type s vs (union_kind Sparse is ts) u a b limit = refl
array_type s vs (union_kind Dense is ts) u a b limit = refl
array_type s vs (dictionary_kind f id t) u a b limit = refl
array_type s vs (extension_kind t) u a b limit = array_type s vs t u a b limit

-- ---- lists

-- What is known of the column of lists at node a and buffer b: k are read, the
-- last offset, and the child's kind.
module _ (s : Entries) (vs : Option ℤ → Layout) (form : OffsetWidth) (t : Kind) (u : TypeTree) (a b : ℕ) (limit : Limit) (os : List ℕ) (v : Validity) (last : ℕ) (f : FieldTree) (ut : TypeTree)
    (at : AreListsAt s form a b (rows s a limit) os v last) (fields : child_fields u ≡ more_fields f no_fields) (typed : field_type f ≡ ut) where
  pub list_child : IsWell s (list_kind form t) a b limit → IsWell s t (a + 1) (b + 2) (Some last)
  list_child h = subst (λ (n : ℕ). IsWell s t (a + 1) (b + 2) (Some n)) (sym at.ends) h.2.0

  pub child_typed : (c : Layout) → c ≡ array_at s vs t ut (a + 1) (b + 2) (Some last) → FieldTypes (child_fields u) (type_of c ∷ [])
  child_typed c e = subst (λ (fs : FieldTrees). FieldTypes fs (type_of c ∷ [])) (sym fields) (ap type_of e ∙ array_type s vs t ut (a + 1) (b + 2) (Some last) ∙ sym typed, tt)

  pub list_len : (c : Layout) → c ≡ array_at s vs t ut (a + 1) (b + 2) (Some last) → IsWell s (list_kind form t) a b limit → len_of c ≡ last
  list_len c e h =
      ap len_of e ∙ array_len s vs t ut (a + 1) (b + 2) (Some last) ∙ ap (λ n. rows s (a + 1) (Some n)) at.ends ∙ h.2.1 ∙ sym at.ends

  pub list_well : (c : Layout) → Begins s a b (rows s a limit) × Offsets s (b + 1) (offset_width form) (rows s a limit)
      → IsWell s t (a + 1) (b + 2) (Some last) × (c ≡ array_at s vs t ut (a + 1) (b + 2) (Some last)) → len_of c ≡ last
      → IsWell s (list_kind form t) a b limit
  list_well c head child len = (
    head.0,
    head.1,
    (
      subst (λ (m : ℕ). IsWell s t (a + 1) (b + 2) (Some m)) at.ends child.0,
      ap (λ m. rows s (a + 1) (Some m)) (sym at.ends) ∙ sym (array_len s vs t ut (a + 1) (b + 2) (Some last)) ∙ sym (ap len_of child.1) ∙ len ∙ at.ends,
    ),
  )

  pub list_array : (c : Layout) (p : PrimitiveType) (x : Layout) → p ≡ offset_type form → c ≡ array_at s vs t ut (a + 1) (b + 2) (Some last) → x ≡ list_layout (list_seen u p os c v)
      → x ≡ array_at s vs (list_kind form t) u a b limit
  list_array c p x width e made =
      let named : ut ≡ first_type (child_fields u) = sym (ap first_type fields ∙ typed) in
      let below : c ≡ array_at s vs t (first_type (child_fields u)) (a + 1) (b + 2) (Some (last_offset s (b + 1) (offset_width form) (rows s a limit))) =
      e ∙ ap (λ d. array_at s vs t d (a + 1) (b + 2) (Some last)) named
      ∙ ap (λ m. array_at s vs t (first_type (child_fields u)) (a + 1) (b + 2) (Some m)) at.ends
      in
      made ∙ (λ i. layout (record { type = u; len = at.count i; validity = at.mask i; parts = lists (width i) (width i) (at.places i) }) (more_layouts (below i) no_layouts))
