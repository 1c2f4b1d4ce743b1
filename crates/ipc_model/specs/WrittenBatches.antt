-- Columns of numbers as they are written, and what they mean: without a validity, each buffer
-- padded to a multiple of 64 bytes.
-- (Arrow columnar format, "RecordBatch message" and "Buffer Alignment and Padding".)
use Rattle.std.specs.Prelude.{◌≡◌, ℕ, ℤ, pos, ◌-◌, ◌*◌, ◌+ℤ◌, List, [], ◌∷◌, ◌++◌, length, map, drop, replicate, Some, None}
use Rattle.std.specs.Int.{next_multiple_of}
use Rattle.std.specs.List.{flat_map, range_with_len}
use Rattle.lower.specs.TypeTrees.{FieldTrees, more_fields}
use Rattle.lower_types.specs.NumberTypes.{width_of, number_in}
use Rattle.lower_types.specs.declared.Endianness.{Endianness}
use Rattle.lower_types.specs.declared.PrimitiveType.{PrimitiveType}
use Rattle.lower_arrays.specs.Slots.{Slot, number_slot}
use Rattle.ipc_table_views.specs.declared.message.FieldNode.{FieldNode}
use Rattle.ipc_table_views.specs.declared.schema.Buffer.{Buffer}
use Rattle.ipc_model.specs.Batches.{Schema, kinds, Chunk, field_type, entries_of, batch}
use Rattle.ipc_model.specs.Entries.{Dictionaries}
use Rattle.ipc_model.specs.Kinds.{number_kind, Kinds, no_kinds, more_kinds}
use Rattle.ipc_model.specs.Streams.{whole}

-- The numbers of a column: their type, how many there are, and their bytes.
pub record Numbers : Type 0 where
  pub form : PrimitiveType
  pub rows : ℕ
  pub bytes : List ℕ

-- ---- how they are written

-- Bytes with zeros after them, up to a multiple of 64.

abbrev pub padded : List ℕ → List ℕ
padded bytes = bytes ++ replicate (next_multiple_of (length bytes) 64 - length bytes) 0

-- The body of a batch of these columns.
abbrev pub body_of : List Numbers → List ℕ
body_of cs = flat_map (λ c. padded c.bytes) cs

-- The node of a column, which has no nulls.
abbrev pub node_of : Numbers → FieldNode
node_of c = record { length = pos c.rows; null_count = pos 0 }

-- A buffer of n bytes at offset o.
abbrev pub entry : ℤ → ℕ → Buffer
entry o n = record { offset = o; length = pos n }

-- The buffers of columns from offset o on: for each an empty validity, and the numbers.
abbrev pub buffers_from : ℤ → List Numbers → List Buffer
buffers_from o [] = []
buffers_from o (c ∷ cs) =
    entry o 0 ∷ (entry o (length c.bytes) ∷ buffers_from (o +ℤ pos (next_multiple_of (length c.bytes) 64)) cs)

-- ---- what they mean

-- The slots of a column of numbers.

abbrev pub number_slots : Endianness → Numbers → List Slot
number_slots order c =
    map (λ i. number_slot (number_in c.form order (drop (width_of c.form * i) c.bytes))) (range_with_len 0 c.rows)

-- The columns have k numbers each, of the types that the kinds say.
abbrev pub AreNumbers : ℕ → List Numbers → Kinds → Type 0
AreNumbers k [] no_kinds = Unit {0}
AreNumbers k (c ∷ cs) (more_kinds t ts) =
    (t ≡ number_kind c.form) × (c.rows ≡ k) × (length c.bytes ≡ width_of c.form * c.rows) × AreNumbers k cs ts
AreNumbers k _ _ = ⊥

-- The columns of numbers as a chunk, with the types of the fields.
abbrev pub numbers_chunk : Endianness → FieldTrees → List Numbers → Chunk
numbers_chunk order (more_fields f fs) (c ∷ cs) =
    record { type = field_type f; slots = number_slots order c } ∷ numbers_chunk order fs cs
numbers_chunk order _ _ = []

-- A batch that was written of columns of numbers means these columns.
abbrev pub WrittenBatchLaw : Type 0
WrittenBatchLaw = (k : ℕ) (cs : List Numbers) (schema : Schema) (extra : ℕ) (known : Dictionaries)
    → AreNumbers k cs (kinds schema)
    → batch (entries_of (record { nodes = map node_of cs; buffers = buffers_from (pos 0) cs })
    (whole (body_of cs)) schema.order extra known)
    (length (body_of cs)) schema None None
    ≡ Some (numbers_chunk schema.order schema.fields cs)
