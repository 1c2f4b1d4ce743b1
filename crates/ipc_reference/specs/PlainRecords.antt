-- The slots of a record batch's columns. What the program returns for some bytes is what they mean,
-- so that faster readers can be compared with it. `plain_column` is `column` if `is_well` passes,
-- `plain_batch` the same with `is_batch`, and `plain_record` the slots of `record_meaning`.
-- (Arrow columnar format, "RecordBatch message".)
use Rattle.std.specs.Prelude.{◌≡◌, ℕ, [], List, map, Option}
use Rattle.std.specs.Option.{option_and_then, option_map}
use Rattle.lower_types.specs.declared.Endianness.{Endianness}
use Rattle.lower_arrays.specs.Slots.{Slot}
use Rattle.ipc_table_views.specs.Spot.{Spot}
use Rattle.ipc_model.specs.Batches.{Schema, kinds, Body, Lists, lists_of, entries_of, chosen, IsProjection, Chunk, record_meaning}
use Rattle.ipc_model.specs.Entries.{Limit}
use Rattle.ipc_model.specs.Kinds.{Kinds, count}
use Rattle.ipc_reference.specs.PlainBatches.{columns_of}
use Rattle.ipc_reference.specs.declared.record.PlainBody.{PlainBody}

-- Where a body is.
abbrev pub body_view : PlainBody → Body
body_view b = record { source = b.source.now; base = b.base; size = b.size }

-- The slots of the chosen columns of a batch with these lists, if it has a meaning.
abbrev pub record_columns : Option Lists → Body → Endianness → ℕ → Kinds → List ℕ → Limit → Option (List (List Slot))
record_columns lists body order extra ts js limit =
    option_and_then (λ l. columns_of (entries_of l body order extra []) body.size ts js limit) lists

-- The slots of each column.
abbrev pub chunk_slots : Chunk → List (List Slot)
chunk_slots c = map (λ x. x.slots) c

-- Theorem: these are the slots of the record batch's meaning, if no dictionary is known, for each
-- projection to columns that exist, each once.
abbrev pub RecordLaw : Type 0
RecordLaw = (schema : Schema) (extra : ℕ) (body : Body) (t : Spot) (projection : Option (List ℕ)) (limit : Limit)
    → IsProjection projection (count (kinds schema))
    → option_map chunk_slots (record_meaning schema extra [] body t projection limit)
    ≡ record_columns (lists_of t) body schema.order extra (kinds schema) (chosen projection (count (kinds schema))) limit
