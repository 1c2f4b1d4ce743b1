-- Entries that suffice for columns.
-- (Arrow columnar format, "RecordBatch message".)
use Rattle.std.specs.Prelude.{ℕ, ◌+◌, ◌≤◌, length}
use Rattle.ipc_model.specs.Kinds.{Kind, nodes, buffers, Kinds, all_nodes, all_buffers}
use Rattle.ipc_reference.specs.declared.entries.PlainEntries.{PlainEntries}

-- The nodes and buffers of a column at node a and buffer b are present.
pub record HasEntries (e : PlainEntries) (t : Kind) (a b : ℕ) : Type 0 where
  pub nodes_in : a + nodes t ≤ length e.nodes.now
  pub buffers_in : b + buffers e.extra t ≤ length e.parts.now

-- The nodes and buffers of some columns are present, one column after the other.
pub record HasRooms (e : PlainEntries) (ts : Kinds) (a b : ℕ) : Type 0 where
  pub nodes_in : a + all_nodes ts ≤ length e.nodes.now
  pub buffers_in : b + all_buffers e.extra ts ≤ length e.parts.now

-- The entries suffice for all columns of a batch.
pub record IsEnough (e : PlainEntries) (ts : Kinds) : Type 0 where
  pub nodes_enough : all_nodes ts ≤ length e.nodes.now
  pub buffers_enough : all_buffers e.extra ts ≤ length e.parts.now
