-- The values at the dictionary fields of the array that a column is read to.
use Rattle.std.proofs.Common.{◌≡◌, ℕ, ℤ, ◌+◌, List, [], ◌∷◌, ◌++◌, false, Option, Some, None, refl, sym, ap, subst, ◌∙◌}
use Rattle.std.specs.List.{AllByRecursion}
use Rattle.std.specs.Option.{option_map}
use Rattle.lower.specs.declared.datatypes.IntervalUnit.TheVariants.{YearMonth, DayTime, MonthDayNano}
use Rattle.lower.specs.declared.datatypes.UnionMode.TheVariants.{Sparse, Dense}
use Rattle.lower.specs.Normal.{norm}
use Rattle.lower.specs.TypeTrees.{Plain, null, boolean, int8, int16, int32, int64, uint8, uint16, uint32, uint64, float16, float32, float64, timestamp, date32, date64, time32, time64, duration, interval, binary, fixed_binary, large_binary, utf8, large_utf8, decimal, decimal256, list, large_list, fixed_list, entries, structure, choice, TypeTree, plain, single, group, dictionary, extension, FieldTree, field, FieldTrees, no_fields, more_fields}
use Rattle.lower_arrays.specs.Children.{child_fields}
use Rattle.lower_arrays.specs.Layouts.{Parts, Layout, layout, Layouts, no_layouts, more_layouts}
use Rattle.lower_arrays.specs.Slots.{Slot, slots}
use Rattle.ipc_base.specs.IdTrees.{IdTree, ids, IdTrees}
use Rattle.ipc_model.specs.Columns.{values_type, slots_in, IsWell, AllHaveRows, AllWell}
use Rattle.ipc_model.specs.Entries.{Entries, Dictionary, Dictionaries, dictionary_at, Limit}
use Rattle.ipc_model.specs.Kinds.{nodes, buffers}
use Rattle.ipc_model.specs.Offers.{is_keyed, own_values, own_id, inner_ids}
use Rattle.ipc_model.specs.ReadArrays.{first_type, other_fields, array_at, arrays_at, AreValues}
use Rattle.ipc_model.specs.ReadChunks.{outer_values, outer_below, values_at, IsKnown, ReadValuesLaw}
use Rattle.ipc_model.specs.TypeKinds.{plain_kind, first_ids, other_ids, kind_of, field_kind, kinds_of}

all_append : {X : Type 0} (P : X → Type 0) (xs ys : List X) → AllByRecursion P xs → AllByRecursion P ys → AllByRecursion P (xs ++ ys)
all_append P [] ys h k = k
all_append P (x ∷ xs) ys h k = (h.0, all_append P xs ys h.1 k)

all_left : {X : Type 0} (P : X → Type 0) (xs ys : List X) → AllByRecursion P (xs ++ ys) → AllByRecursion P xs
all_left P [] ys h = tt
all_left P (x ∷ xs) ys h = (h.0, all_left P xs ys h.1)

-- Some arrays, the first of them alone.
and_others : (known : Dictionaries) (c : Layout) (cs : Layouts) (is : IdTrees) → AllByRecursion (IsKnown known) (values_at c (first_ids is))
    → AllByRecursion (IsKnown known) (outer_values cs (other_ids is)) → AllByRecursion (IsKnown known) (outer_values (more_layouts c cs) is)
and_others known c cs is h k =
    let here = own_values c (own_id (first_ids is)) ++ outer_below c (inner_ids (first_ids is)) in
    all_append (IsKnown known) here (outer_values cs (other_ids is)) (all_left (IsKnown known) here [] h) k

only_child : (known : Dictionaries) (c : Layout) (is : IdTrees) → AllByRecursion (IsKnown known) (values_at c (first_ids is))
    → AllByRecursion (IsKnown known) (outer_values (more_layouts c no_layouts) is)
only_child known c is h = and_others known c no_layouts is h tt

abbrev parts_of : Layout → Parts
parts_of (layout h cs) = h.parts

no_own : (l : Layout) (id : Option ℤ) → is_keyed (parts_of l) ≡ false → own_values l id ≡ []
no_own (layout h no_layouts) None e = refl
no_own (layout h no_layouts) (Some i) e = refl
no_own (layout h (more_layouts c cs)) None e = refl
no_own (layout h (more_layouts c cs)) (Some i) e = rw e refl

-- an array that has no keys of its own has the values that its children have
inside : (known : Dictionaries) (l : Layout) (id : Option ℤ) (is : IdTrees) → is_keyed (parts_of l) ≡ false
    → AllByRecursion (IsKnown known) (outer_below l is) → AllByRecursion (IsKnown known) (values_at l (ids id is))
inside known l id is e h =
    let own : AllByRecursion (IsKnown known) (own_values l id) = subst (λ ps. AllByRecursion (IsKnown known) ps) (sym (no_own l id e)) tt in
    all_append (IsKnown known) (own_values l id ++ outer_below l is) [] (all_append (IsKnown known) (own_values l id) (outer_below l is) own h) tt

plain_values : (s : Entries) (vs : Option ℤ → Layout) (p : Plain) (u : TypeTree) (i : IdTree) (a b : ℕ) (limit : Limit)
    → AllByRecursion (IsKnown s.dictionaries) (values_at (array_at s vs (plain_kind p) u a b limit) i)
plain_values s vs null u i a b limit = tt
plain_values s vs boolean u i a b limit = tt
plain_values s vs int8 u i a b limit = tt
plain_values s vs int16 u i a b limit = tt
plain_values s vs int32 u i a b limit = tt
plain_values s vs int64 u i a b limit = tt
plain_values s vs uint8 u i a b limit = tt
plain_values s vs uint16 u i a b limit = tt
plain_values s vs uint32 u i a b limit = tt
plain_values s vs uint64 u i a b limit = tt
plain_values s vs float16 u i a b limit = tt
plain_values s vs float32 u i a b limit = tt
plain_values s vs float64 u i a b limit = tt
plain_values s vs (timestamp unit place) u i a b limit = tt
plain_values s vs date32 u i a b limit = tt
plain_values s vs date64 u i a b limit = tt
plain_values s vs (time32 unit) u i a b limit = tt
plain_values s vs (time64 unit) u i a b limit = tt
plain_values s vs (duration unit) u i a b limit = tt
plain_values s vs (interval YearMonth) u i a b limit = tt
plain_values s vs (interval DayTime) u i a b limit = tt
plain_values s vs (interval MonthDayNano) u i a b limit = tt
plain_values s vs binary u i a b limit = tt
plain_values s vs (fixed_binary n) u i a b limit = tt
plain_values s vs large_binary u i a b limit = tt
plain_values s vs utf8 u i a b limit = tt
plain_values s vs large_utf8 u i a b limit = tt
plain_values s vs (decimal precision scale) u i a b limit = tt
plain_values s vs (decimal256 precision scale) u i a b limit = tt

known_slots : (o : Option Dictionary) (t : TypeTree) (xs : List Slot) → option_map (λ d. d.type) o ≡ Some t → xs ≡ slots_in o → option_map (λ d. d.slots) o ≡ Some xs
known_slots None t xs e f = absurd cc
known_slots (Some d) t xs e f = ap Some (sym f)

-- the values of a column's own keys
own_known : (s : Entries) (vs : Option ℤ → Layout) (id : Option ℤ) (t : TypeTree) → AreValues s vs → values_type s id ≡ Some t
    → (i : ℤ) → id ≡ Some i → option_map (λ d. d.slots) (dictionary_at s.dictionaries i) ≡ Some (slots (vs id))
own_known s vs None t h e i f = absurd cc
own_known s vs (Some j) t h e i f =
    let same : j ≡ i = cc in
    ap (λ k. option_map (λ d. d.slots) (dictionary_at s.dictionaries k)) (sym same) ∙ known_slots (dictionary_at s.dictionaries j) t (slots (vs (Some j))) e (h.each (Some j))

mutual
  pub read_values_law : ReadValuesLaw
  read_values_law s vs (plain p) u id is a b limit h w = plain_values s vs p u (ids id is) a b limit
  read_values_law s vs (single list f) u id is a b limit h w =
      inside s.dictionaries (array_at s vs (kind_of (single list f) id is) u a b limit) id is refl
      (only_child s.dictionaries _ is (field_values s vs f (first_type (child_fields u)) (first_ids is) (a + 1) (b + 2) _ h w.2.0))
  read_values_law s vs (single large_list f) u id is a b limit h w =
      inside s.dictionaries (array_at s vs (kind_of (single large_list f) id is) u a b limit) id is refl
      (only_child s.dictionaries _ is (field_values s vs f (first_type (child_fields u)) (first_ids is) (a + 1) (b + 2) _ h w.2.0))
  read_values_law s vs (single (fixed_list n) f) u id is a b limit h w =
      inside s.dictionaries (array_at s vs (kind_of (single (fixed_list n) f) id is) u a b limit) id is refl
      (only_child s.dictionaries _ is (field_values s vs f (first_type (child_fields u)) (first_ids is) (a + 1) (b + 1) _ h w.2.0))
  read_values_law s vs (single (entries sorted) f) u id is a b limit h w =
      inside s.dictionaries (array_at s vs (kind_of (single (entries sorted) f) id is) u a b limit) id is refl
      (only_child s.dictionaries _ is (field_values s vs f (first_type (child_fields u)) (first_ids is) (a + 1) (b + 2) _ h w.1.2.0))
  read_values_law s vs (group structure fs) u id is a b limit h w =
      inside s.dictionaries (array_at s vs (kind_of (group structure fs) id is) u a b limit) id is refl
      (all_values s vs fs (child_fields u) is (a + 1) (b + 1) limit _ h w.2)
  read_values_law s vs (group (choice type_ids Sparse) fs) u id is a b limit h w =
      inside s.dictionaries (array_at s vs (kind_of (group (choice type_ids Sparse) fs) id is) u a b limit) id is refl
      (all_values s vs fs (child_fields u) is (a + 1) (b + s.extra + 1) limit _ h w.3)
  read_values_law s vs (group (choice type_ids Dense) fs) u id is a b limit h w =
      inside s.dictionaries (array_at s vs (kind_of (group (choice type_ids Dense) fs) id is) u a b limit) id is refl
      (whole_values s vs fs (child_fields u) is (a + 1) (b + s.extra + 2) h w.4)
  read_values_law s vs (dictionary keys t ordered) u None is a b limit h w = tt
  read_values_law s vs (dictionary keys t ordered) u (Some i) is a b limit h w = (own_known s vs (Some i) (norm t) h w.2.known i refl, tt)
  read_values_law s vs (extension name t text) u id is a b limit h w = read_values_law s vs t u id is a b limit h w

  field_values : (s : Entries) (vs : Option ℤ → Layout) (f : FieldTree) (u : TypeTree) (i : IdTree) (a b : ℕ) (limit : Limit) → AreValues s vs
      → IsWell s (field_kind f i) a b limit → AllByRecursion (IsKnown s.dictionaries) (values_at (array_at s vs (field_kind f i) u a b limit) i)
  field_values s vs (field name t nullable metadata) u (ids id is) a b limit h w = read_values_law s vs t u id is a b limit h w

  all_values : (s : Entries) (vs : Option ℤ → Layout) (fs us : FieldTrees) (is : IdTrees) (a b : ℕ) (limit : Limit) (k : ℕ) → AreValues s vs
      → AllHaveRows s (kinds_of fs is) a b limit k → AllByRecursion (IsKnown s.dictionaries) (outer_values (arrays_at s vs (kinds_of fs is) us a b limit) is)
  all_values s vs no_fields us is a b limit k h w = tt
  all_values s vs (more_fields f fs) us is a b limit k h w =
      and_others s.dictionaries (array_at s vs (field_kind f (first_ids is)) (first_type us) a b limit)
      (arrays_at s vs (kinds_of fs (other_ids is)) (other_fields us) (a + nodes (field_kind f (first_ids is))) (b + buffers s.extra (field_kind f (first_ids is))) limit) is
      (field_values s vs f (first_type us) (first_ids is) a b limit h w.0.0) (all_values s vs fs (other_fields us) (other_ids is) _ _ limit k h w.1)

  whole_values : (s : Entries) (vs : Option ℤ → Layout) (fs us : FieldTrees) (is : IdTrees) (a b : ℕ) → AreValues s vs
      → AllWell s (kinds_of fs is) a b → AllByRecursion (IsKnown s.dictionaries) (outer_values (arrays_at s vs (kinds_of fs is) us a b None) is)
  whole_values s vs no_fields us is a b h w = tt
  whole_values s vs (more_fields f fs) us is a b h w =
      and_others s.dictionaries (array_at s vs (field_kind f (first_ids is)) (first_type us) a b None)
      (arrays_at s vs (kinds_of fs (other_ids is)) (other_fields us) (a + nodes (field_kind f (first_ids is))) (b + buffers s.extra (field_kind f (first_ids is))) None) is
      (field_values s vs f (first_type us) (first_ids is) a b None h w.0) (whole_values s vs fs (other_fields us) (other_ids is) _ _ h w.1)
