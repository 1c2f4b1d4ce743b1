-- What the calls that encode a batch do.
-- (Arrow columnar format, "RecordBatch message" and "Dictionary Messages".)
use Rattle.std.specs.Prelude.{◌≡◌, ℕ, ℤ, ◌*◌, ◌≤◌, List, [], length}
use Rattle.lower_types.specs.declared.Endianness.{Endianness}
use Rattle.lower_arrays.specs.Layouts.{Layout}
use Rattle.ipc_table_views.specs.declared.message.FieldNode.{FieldNode}
use Rattle.ipc_table_views.specs.declared.schema.Buffer.{Buffer}
use Rattle.ipc_model.specs.Offers.{body_lengths}
use Rattle.ipc_plan.specs.Pieces.{pieces_bytes}
use Rattle.ipc_encode.specs.Appending.{BatchParts}
use Rattle.ipc_encode.specs.Encoding.{IsEncoded, levels_of}
use Rattle.ipc_encode.specs.declared.batches.BatchKind.{BatchKind}
use Rattle.ipc_encode.specs.declared.batches.Encoded.{Encoded}

-- `encode_batch`: the message of these columns, of so many rows.
pub record EncodesBatch (kind : BatchKind) (order : Endianness) (columns : List Layout) (rows : ℕ) (e : Encoded) : Type 0 where
  -- The metadata and the bytes of the body encode the columns.
  pub content : IsEncoded kind order columns rows e.metadata.items (pieces_bytes order e.body.pieces.items)
  -- The numbers in the body have this byte order.
  pub order_is : e.body.order ≡ order
  -- The end of the body is its length.
  pub end : e.body.end ≡ length (pieces_bytes order e.body.pieces.items)
  -- The body has at most two pieces for each buffer.
  pub few : length e.body.pieces.items ≤ length (body_lengths (levels_of columns))
  -- The metadata have the nodes and the buffers, and the body none.
  pub moved : (e.body.nodes.items ≡ []) × (e.body.buffers.items ≡ [])

-- The parts of a batch: its nodes, its buffers, the bytes of its body, and the offset after them.
abbrev pub parts : List FieldNode → List Buffer → List ℕ → ℤ → BatchParts
parts nodes buffers bytes offset = record { nodes = nodes; buffers = buffers; bytes = bytes; offset = offset }

-- A refused `write` leaves the parts of the batch as they were.
pub record KeepsParts (old new : BatchParts) : Type 0 where
  pub nodes : new.nodes ≡ old.nodes
  pub buffers : new.buffers ≡ old.buffers
  pub bytes : new.bytes ≡ old.bytes
  pub offset : new.offset ≡ old.offset
