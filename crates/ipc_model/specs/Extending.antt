-- Theorem: a column keeps its meaning if its entries are at another position,
-- or have more bytes after them.
-- (Arrow columnar format, "RecordBatch message".)
use Rattle.std.specs.Prelude.{◌≡◌, ℕ, ◌+◌, ◌<◌, List, ◌++◌}
use Rattle.ipc_table_views.specs.declared.message.FieldNode.{FieldNode}
use Rattle.ipc_model.specs.Kinds.{Kind, nodes, buffers}
use Rattle.ipc_model.specs.Entries.{Entries, Part, node, buffer, Limit}
use Rattle.ipc_model.specs.Columns.{IsWell, column}

-- Part q is part p with bytes added after it.
pub record Longer (p q : Part) : Type 0 where
  pub offset_same : q.offset ≡ p.offset
  pub length_same : q.length ≡ p.length
  pub added : List ℕ
  pub bytes_then : q.bytes ≡ p.bytes ++ added

-- The same entries with other nodes and parts.
abbrev pub changed : Entries → List FieldNode → List Part → Entries
changed s ns ps = record { nodes = ns; parts = ps; order = s.order; extra = s.extra; dictionaries = s.dictionaries }

-- The n nodes from a on are at position c, and the m parts from b on at
-- position d, perhaps with more bytes.
pub record Extends (s : Entries) (ns : List FieldNode) (ps : List Part) (a c b d n m : ℕ) : Type 0 where
  pub nodes_same : (i : ℕ) → i < n → node (changed s ns ps) (c + i) ≡ node s (a + i)
  pub parts_longer : (i : ℕ) → i < m → Longer (buffer s (b + i)) (buffer (changed s ns ps) (d + i))

-- A well formed column is still well formed, with the same slots, at another position or
-- with more bytes after its parts.
abbrev pub ExtendLaw : Type 0
ExtendLaw = (s : Entries) (ns : List FieldNode) (ps : List Part) (t : Kind) (a c b d : ℕ) (limit : Limit)
    → Extends s ns ps a c b d (nodes t) (buffers s.extra t)
    → IsWell s t a b limit
    → IsWell (changed s ns ps) t c d limit × (column (changed s ns ps) t c d limit ≡ column s t a b limit)
