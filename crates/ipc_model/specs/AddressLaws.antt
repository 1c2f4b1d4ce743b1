-- Theorems on where the nodes and buffers of a column are in a batch, and on
-- bodies with more bytes after them.
-- (Arrow columnar format, "RecordBatch message".)
use Rattle.std.specs.Prelude.{◌≡◌, ℕ, ◌+◌, ◌<◌, ◌≤◌, List, ◌++◌, Option, Some}
use Rattle.ipc_table_views.specs.Spot.{Spot}
use Rattle.ipc_model.specs.Kinds.{Kinds, count, nodes, buffers}
use Rattle.ipc_model.specs.Entries.{Entries, Dictionaries, Limit}
use Rattle.ipc_model.specs.Columns.{IsWell, column}
use Rattle.ipc_model.specs.Batches.{Schema, Body, Chunk, kind_at, nodes_before, buffers_before, IsWellAt, slots_of_column, record_meaning, dictionary_meaning}

-- Column j has its nodes and its buffers after those of column i.
pub record ComesAfter (extra : ℕ) (ts : Kinds) (i j : ℕ) : Type 0 where
  pub node : nodes_before ts i + nodes (kind_at ts i) ≤ nodes_before ts j
  pub buffer : buffers_before extra ts i + buffers extra (kind_at ts i) ≤ buffers_before extra ts j

-- A column's nodes and buffers come after those of each column before it.
abbrev pub OrderLaw : Type 0
OrderLaw = (extra : ℕ) (ts : Kinds) (i j : ℕ) → i < j → j < count ts → ComesAfter extra ts i j

-- Column j is well formed, read from the entries of the whole batch.
abbrev pub IsWellInBatch : Entries → Kinds → Limit → ℕ → Type 0
IsWellInBatch s ts limit j = IsWell s (kind_at ts j) (nodes_before ts j) (buffers_before s.extra ts j) limit

-- At its position in the whole batch, a column has the meaning that it has in its own entries.
pub record IsAddressed (s : Entries) (ts : Kinds) (limit : Limit) (j : ℕ) : Type 0 where
  pub from_whole : IsWellInBatch s ts limit j → IsWellAt s ts limit j
  pub to_whole : IsWellAt s ts limit j → IsWellInBatch s ts limit j
  pub slots : IsWellAt s ts limit j → slots_of_column s ts limit j
      ≡ column s (kind_at ts j) (nodes_before ts j) (buffers_before s.extra ts j) limit

-- Each column of a batch means at its position what it means in its own entries.
abbrev pub AddressLaw : Type 0
AddressLaw = (s : Entries) (ts : Kinds) (limit : Limit) (j : ℕ) → IsAddressed s ts limit j

-- Body y is body x with bytes after its source, and with at least the same size.
pub record Followed (x y : Body) : Type 0 where
  pub added : List ℕ
  pub source_then : y.source ≡ x.source ++ added
  pub base_same : y.base ≡ x.base
  pub size_grows : x.size ≤ y.size

-- A record batch keeps its meaning if bytes are added after its source.
abbrev pub RecordFollowLaw : Type 0
RecordFollowLaw = (schema : Schema) (extra : ℕ) (known : Dictionaries) (x y : Body) (t : Spot)
    (projection : Option (List ℕ)) (limit : Limit) (c : Chunk) → Followed x y
    → record_meaning schema extra known x t projection limit ≡ Some c
    → record_meaning schema extra known y t projection limit ≡ Some c

-- A dictionary batch keeps its meaning if bytes are added after its source.
abbrev pub DictionaryFollowLaw : Type 0
DictionaryFollowLaw = (schema : Schema) (extra : ℕ) (known after : Dictionaries) (x y : Body) (t : Spot)
    → Followed x y
    → dictionary_meaning schema extra known x t ≡ Some after → dictionary_meaning schema extra known y t ≡ Some after
