-- Columns of fixed-size lists.
use Rattle.std.proofs.Common.{arith, ◌≡◌, ℕ, ℤ, ◌+◌, ◌*◌, ◌/◌, ◌<◌, [], ◌∷◌, Option, sym, ap, subst, ◌∙◌}
use Rattle.std.proofs.Math.Nat.{mul-div_cancel}
use Rattle.lower.specs.TypeTrees.{TypeTree, FieldTree, FieldTrees, no_fields, more_fields}
use Rattle.lower.specs.Physical.{physical}
use Rattle.lower.specs.declared.datatypes.physical_type.PhysicalType.TheVariants.{FixedSizeList}
use Rattle.lower.specs.declared.error.Error.{Error}
use Rattle.lower.specs.declared.error.Error.TheVariants.{OutOfSpec}
use Rattle.lower.specs.declared.error.Rule.TheVariants.{ValidityLength, ZeroSize, ChildType, ChildLength, PhysicalType as WrongType}
use Rattle.lower_flat_arrays.specs.Validities.{Validity, ValidityFits}
use Rattle.lower_validation.specs.Fields.{child_fields, field_type, FieldTypes}
use Rattle.lower_validation.specs.ListTypes.{list_size}
use Rattle.lower_arrays.specs.Layouts.{Layout, layout, no_layouts, more_layouts, fixed_lists, len_of, type_of}
use Rattle.lower_arrays.specs.FixedLists.{fixed_list_seen, fixed_list_layout, BreaksFixedList}
use Rattle.ipc_model.proofs.ReadSlots.{array_len}
use Rattle.ipc_model.specs.Kinds.{Kind, fixed_list_kind}
use Rattle.ipc_model.specs.Entries.{Entries, Limit, rows, times}
use Rattle.ipc_model.specs.Columns.{Begins, IsWell}
use Rattle.ipc_model.specs.ReadArrays.{validity_of, first_type, array_at}
use Rattle.ipc_read_nested.specs.FixedLevels.{sized_layout}
use Rattle.ipc_read_flat.specs.Limits.{SameRows}
use Rattle.ipc_read_nested.proofs.ColumnLevels.{array_type}
use Rattle.ipc_read_nested.proofs.LimitLevels.{row_same, well_same, array_same, same_back}

lists_in : (u : TypeTree) (size n m : ℕ) → list_size u ≡ size → 0 < size → m ≡ n * size → m / list_size u ≡ n
lists_in u size n m named some e = (λ i. e i / named i) ∙ mul-div_cancel n some

pub fixed_keeps :
    (u : TypeTree) (size n : ℕ) (c : Layout) (v : Validity) (e : Error) → physical u ≡ FixedSizeList → list_size u ≡ size → 0 < size → ValidityFits v n
    → len_of c ≡ n * size → BreaksFixedList (fixed_list_seen u c v) e → FieldTypes (child_fields u) (type_of c ∷ []) → ⊥
fixed_keeps u size n c v (OutOfSpec WrongType) lies named some fits len h types = h lies
fixed_keeps u size n c v (OutOfSpec ZeroSize) lies named some fits len h types = omega (arith, named, h, some)
fixed_keeps u size n c v (OutOfSpec ChildLength) lies named some fits len h types =
    h (len ∙ (λ i. sym (lists_in u size n (len_of c) named some len) i * sym named i))
fixed_keeps u size n c v (OutOfSpec ChildType) lies named some fits len h types = h types
fixed_keeps u size n c v (OutOfSpec ValidityLength) lies named some fits len h types =
    h (subst (ValidityFits v) (sym (lists_in u size n (len_of c) named some len)) fits)
fixed_keeps u size n c v (OutOfSpec _) lies named some fits len h types = absurd h

pub fixed_made :
    (u : TypeTree) (size n : ℕ) (c : Layout) (v : Validity) → list_size u ≡ size → 0 < size → len_of c ≡ n * size
    → fixed_list_layout (fixed_list_seen u c v) ≡ sized_layout u n size v c
fixed_made u size n c v named some len =
    let count = lists_in u size n (len_of c) named some len in
    λ i. layout (record { type = u; len = count i; validity = v; parts = fixed_lists (named i) }) (more_layouts c no_layouts)

pub ruleset fixed_rules = (fixed_keeps, fixed_made)

-- the column at node a and buffer b, with a limit for its child by which the same slots are read
module _ (s : Entries) (vs : Option ℤ → Layout) (n : ℕ) (t : Kind) (u : TypeTree) (a b : ℕ) (limit most : Limit) (v : Validity) (k : ℕ) (f : FieldTree) (ut : TypeTree)
    (some : 0 < n) (same : SameRows s most (times limit n)) (count : k ≡ rows s a limit) (mask : v ≡ validity_of s a b (rows s a limit))
    (fields : child_fields u ≡ more_fields f no_fields) (typed : field_type f ≡ ut) where
  pub fixed_child : IsWell s (fixed_list_kind n t) a b limit → IsWell s t (a + 1) (b + 1) most
  fixed_child h = well_same s t (a + 1) (b + 1) (times limit n) most (same_back s most (times limit n) same) h.2.0

  pub fixed_typed : (c : Layout) → c ≡ array_at s vs t ut (a + 1) (b + 1) most → FieldTypes (child_fields u) (type_of c ∷ [])
  fixed_typed c e = subst (λ (fs : FieldTrees). FieldTypes fs (type_of c ∷ [])) (sym fields) (ap type_of e ∙ array_type s vs t ut (a + 1) (b + 1) most ∙ sym typed, tt)

  fixed_rows : (c : Layout) → c ≡ array_at s vs t ut (a + 1) (b + 1) most → len_of c ≡ rows s (a + 1) (times limit n)
  fixed_rows c e = ap len_of e ∙ array_len s vs t ut (a + 1) (b + 1) most ∙ row_same s most (times limit n) same (a + 1)

  pub fixed_len : (c : Layout) → c ≡ array_at s vs t ut (a + 1) (b + 1) most → IsWell s (fixed_list_kind n t) a b limit → len_of c ≡ k * n
  fixed_len c e h = fixed_rows c e ∙ h.2.1 ∙ ap (λ j. j * n) (sym count)

  pub fixed_well : (c : Layout) → Begins s a b (rows s a limit) → IsWell s t (a + 1) (b + 1) most → c ≡ array_at s vs t ut (a + 1) (b + 1) most → len_of c ≡ k * n
      → IsWell s (fixed_list_kind n t) a b limit
  fixed_well c head child e len =
      (some, head, (well_same s t (a + 1) (b + 1) most (times limit n) same child, sym (fixed_rows c e) ∙ len ∙ ap (λ j. j * n) count))

  pub fixed_array : (c x : Layout) → IsWell s t (a + 1) (b + 1) most → c ≡ array_at s vs t ut (a + 1) (b + 1) most → x ≡ sized_layout u k n v c
      → x ≡ array_at s vs (fixed_list_kind n t) u a b limit
  fixed_array c x child e made =
      let named : ut ≡ first_type (child_fields u) = sym (ap first_type fields ∙ typed) in
      let below : c ≡ array_at s vs t (first_type (child_fields u)) (a + 1) (b + 1) (times limit n) =
      e ∙ array_same s vs t ut (a + 1) (b + 1) most (times limit n) same child
      ∙ ap (λ d. array_at s vs t d (a + 1) (b + 1) (times limit n)) named
      in
      made ∙ (λ i. layout (record { type = u; len = count i; validity = mask i; parts = fixed_lists n }) (more_layouts (below i) no_layouts))
