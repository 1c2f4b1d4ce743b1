-- Some columns of a batch, each at its position: after all columns before it.
-- (Arrow columnar format, "RecordBatch message".)
use Rattle.std.specs.Prelude.{◌≡◌, ℕ, ℤ, ◌+◌, List, [], ◌∷◌, slice_get, Option, None, Some}
use Rattle.lower.specs.TypeTrees.{FieldTrees}
use Rattle.lower_arrays.specs.AnyLayouts.{layout_of}
use Rattle.lower_arrays.specs.Layouts.{Layout}
use Rattle.lower_arrays.specs.declared.array.AnyArray.{AnyArray}
use Rattle.ipc_model.specs.AddressLaws.{IsWellInBatch}
use Rattle.ipc_model.specs.Batches.{kind_at, type_at, nodes_before, buffers_before}
use Rattle.ipc_model.specs.Entries.{Entries, Limit}
use Rattle.ipc_model.specs.Kinds.{Kinds}
use Rattle.ipc_read_flat.specs.Kinds.{listed_in}
use Rattle.ipc_read_nested.specs.ReadColumns.{IsColumn}
use Rattle.ipc_projection.specs.Projections.{IsPrepared}

-- The columns of a projection are each one of n, in ascending order; without a
-- projection nothing is required.
abbrev pub ArePrepared : Option (List ℕ) → ℕ → Type 0
ArePrepared None n = Unit {0}
ArePrepared (Some js) n = IsPrepared js n

-- These columns are well formed.
abbrev pub HasColumns : Entries → Kinds → Limit → List ℕ → Type 0
HasColumns s ts limit [] = Unit {0}
HasColumns s ts limit (j ∷ js) = IsWellInBatch s ts limit j × HasColumns s ts limit js

-- An array is that of column j; `vs` gives the arrays of the dictionaries' values.
abbrev pub IsColumnAt : Entries → (Option ℤ → Layout) → FieldTrees → Kinds → Limit → ℕ → AnyArray → Type 0
IsColumnAt s vs fs ts limit j x = IsColumn s vs (kind_at ts j) (type_at fs j) (nodes_before ts j) (buffers_before s.extra ts j) limit (layout_of x)

-- The arrays are those of these columns, one by one.
abbrev pub AreColumns : Entries → (Option ℤ → Layout) → FieldTrees → Kinds → Limit → List ℕ → List AnyArray → Type 0
AreColumns s vs fs ts limit [] [] = Unit {0}
AreColumns s vs fs ts limit (j ∷ js) (x ∷ xs) = IsColumnAt s vs fs ts limit j x × AreColumns s vs fs ts limit js xs
AreColumns s vs fs ts limit _ _ = ⊥

-- The encoded length of these columns' buffers.
abbrev pub columns_listed : Entries → ℕ → Kinds → List ℕ → ℕ
columns_listed s extra ts [] = 0
columns_listed s extra ts (j ∷ js) = listed_in s extra (kind_at ts j) (buffers_before extra ts j) + columns_listed s extra ts js

-- Column i is at index m of a projection; any column is at any index without one.
abbrev pub IsChosen : Option (List ℕ) → ℕ → ℕ → Type 0
IsChosen None m i = Unit {0}
IsChosen (Some js) m i = slice_get js m ≡ Some i
