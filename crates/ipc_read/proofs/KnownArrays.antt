-- The arrays that are read have the values that are known at their dictionary fields, and
-- the variants of their offsets.
use Rattle.std.proofs.Common.{◌≡◌, refl, ℕ, zero, suc, ℤ, List, [], ◌∷◌, map, Option, IfOk, Result, Ok, Err, sym, ap, subst, ◌∙◌}
use Rattle.std.specs.List.{AllByRecursion}
use Rattle.lower.specs.TypeTrees.{TypeTree, plain, null, field, FieldTrees, no_fields, more_fields}
use Rattle.lower_types.specs.declared.Endianness.{Endianness}
use Rattle.lower_arrays.specs.AnyLayouts.{layout_of}
use Rattle.lower_arrays.specs.Cases.{HasListCases}
use Rattle.lower_arrays.specs.Layouts.{Layout}
use Rattle.lower_arrays.specs.declared.array.AnyArray.{AnyArray}
use Rattle.ipc_base.specs.IdTrees.{IdTree, ids, IdTrees, no_ids, more_ids}
use Rattle.ipc_devices.specs.declared.fault.Fault.{Fault}
use Rattle.ipc_model.proofs.ReadValues.{read_values_law}
use Rattle.ipc_model.specs.AddressLaws.{IsWellInBatch}
use Rattle.ipc_model.specs.Batches.{Body, Lists, entries_of, kind_at, type_at, nodes_before, buffers_before}
use Rattle.ipc_model.specs.Columns.{IsWell}
use Rattle.ipc_model.specs.Entries.{Entries, Dictionaries, Limit}
use Rattle.ipc_model.specs.Kinds.{Kind, null_kind}
use Rattle.ipc_model.specs.ReadArrays.{array_at, AreValues}
use Rattle.ipc_model.specs.ReadChunks.{values_at, IsKnown, ids_at, HaveMeaning}
use Rattle.ipc_model.specs.TypeKinds.{kind_of, kinds_of}
use Rattle.ipc_read.proofs.ReadCases.{read_cases}
use Rattle.ipc_read.specs.Chunks.{chunk_seen}
use Rattle.ipc_read.specs.Columns.{HasColumns, IsColumnAt, AreColumns}

-- ---- a column by its type and its ids

abbrev kind_by : TypeTree → IdTree → Kind
kind_by t (ids id is) = kind_of t id is

kind_of_none : (i : IdTree) → kind_by (plain null) i ≡ null_kind
kind_of_none (ids id is) = refl

kind_named : (fs : FieldTrees) (is : IdTrees) (j : ℕ) → kind_by (type_at fs j) (ids_at is j) ≡ kind_at (kinds_of fs is) j
kind_named no_fields is j = kind_of_none (ids_at is j)
kind_named (more_fields (field name t nullable metadata) fs) no_ids zero = refl
kind_named (more_fields (field name t nullable metadata) fs) (more_ids (ids id is) rest) zero = refl
kind_named (more_fields f fs) no_ids (suc j) = kind_named fs no_ids j
kind_named (more_fields f fs) (more_ids i is) (suc j) = kind_named fs is j

-- ---- its values

values_by : (s : Entries) (vs : Option ℤ → Layout) (t u : TypeTree) (i : IdTree) (a b : ℕ) (limit : Limit) → AreValues s vs → IsWell s (kind_by t i) a b limit
    → AllByRecursion (IsKnown s.dictionaries) (values_at (array_at s vs (kind_by t i) u a b limit) i)
values_by s vs t u (ids id is) a b limit h w = read_values_law s vs t u id is a b limit h w

column_values : (s : Entries) (vs : Option ℤ → Layout) (fs : FieldTrees) (is : IdTrees) (limit : Limit) (j : ℕ) (x : AnyArray) → AreValues s vs
    → IsWellInBatch s (kinds_of fs is) limit j → IsColumnAt s vs fs (kinds_of fs is) limit j x
    → AllByRecursion (IsKnown s.dictionaries) (values_at (layout_of x) (ids_at is j))
column_values s vs fs is limit j x h w c =
    let u = type_at fs j in
    let i = ids_at is j in
    let a = nodes_before (kinds_of fs is) j in
    let b = buffers_before s.extra (kinds_of fs is) j in
    let same = kind_named fs is j in
    let well : IsWell s (kind_by u i) a b limit = subst (λ (k : Kind). IsWell s k a b limit) (sym same) w in
    subst (λ (l : Layout). AllByRecursion (IsKnown s.dictionaries) (values_at l i)) (ap (λ (k : Kind). array_at s vs k u a b limit) same ∙ sym c.array)
    (values_by s vs u u i a b limit h well)

-- ---- those of some columns

module _ (s : Entries) (vs : Option ℤ → Layout) (fs : FieldTrees) (is : IdTrees) (limit : Limit) (known : Dictionaries) (same : s.dictionaries ≡ known) (values : AreValues s vs) where
  pub have_meaning : (js : List ℕ) (xs : List AnyArray) → HasColumns s (kinds_of fs is) limit js → AreColumns s vs fs (kinds_of fs is) limit js xs
      → HaveMeaning known is js (chunk_seen xs) (map layout_of xs)
  have_meaning [] [] has are = tt
  have_meaning [] (x ∷ xs) has are = absurd are
  have_meaning (j ∷ js) [] has are = absurd are
  have_meaning (j ∷ js) (x ∷ xs) has are = (
    record {
      type = refl;
      slots_are = refl;
      cases = subst HasListCases (sym are.0.array)
          (read_cases s vs (kind_at (kinds_of fs is) j) (type_at fs j) (nodes_before (kinds_of fs is) j) (buffers_before s.extra (kinds_of fs is) j) limit);
      values = subst (λ (ds : Dictionaries). AllByRecursion (IsKnown ds) (values_at (layout_of x) (ids_at is j))) same
          (column_values s vs fs is limit j x values has.0 are.0);
    },
    have_meaning js xs has.1 are.1,
  )

pub dictionaries_are : (lists : Lists) (b : Body) (order : Endianness) (extra : ℕ) (known : Dictionaries) → (entries_of lists b order extra known).dictionaries ≡ known
unfolding entries_of
dictionaries_are lists b order extra known = refl

-- so have those of the chunk that is made of them
pub chunk_has_meaning :
    (known : Dictionaries) (is : IdTrees) (js : List ℕ) (ys : List AnyArray) (r : Result (List AnyArray) Fault) → IfOk r (λ xs. xs ≡ ys)
    → HaveMeaning known is js (chunk_seen ys) (map layout_of ys) → IfOk r (λ xs. HaveMeaning known is js (chunk_seen xs) (map layout_of xs))
chunk_has_meaning known is js ys (Ok xs) told h = subst (λ (zs : List AnyArray). HaveMeaning known is js (chunk_seen zs) (map layout_of zs)) (sym told) h
chunk_has_meaning known is js ys (Err e) told h = tt
