-- What columns that are written mean, by the definitions of `ipc_model`.
-- (Arrow columnar format, "RecordBatch message" and "Schema message".)
use Rattle.std.specs.Prelude.{◌≡◌, List, [], ◌∷◌, map}
use Rattle.lower.specs.Normal.{norm}
use Rattle.lower.specs.TypeTrees.{TypeTree, FieldTrees, Pairs, field, more_fields, no_fields}
use Rattle.lower_types.specs.declared.Endianness.{Endianness}
use Rattle.lower_arrays.specs.AnyLayouts.{layout_of}
use Rattle.lower_arrays.specs.declared.array.AnyArray.{AnyArray}
use Rattle.ipc_base.specs.IdTrees.{IdTrees}
use Rattle.ipc_stream_lemmas.specs.Messages.{chunk_written as layouts_written}
use Rattle.ipc_model.specs.Batches.{Chunk}
use Rattle.ipc_model.specs.Streams.{Head}
use Rattle.ipc_model.specs.Writable.{IsWritable}
use Rattle.ipc_schema_write.specs.WriterAnswers.{written_head_as}

-- The columns as a chunk, as it is read back.
abbrev pub chunk_written : List AnyArray → Chunk
chunk_written columns = layouts_written (map layout_of columns)

-- The types of fields, in their normal form.
abbrev pub normal_types : FieldTrees → List TypeTree
normal_types no_fields = []
normal_types (more_fields (field name t nullable metadata) fields) = norm t ∷ normal_types fields

-- The schema of a stream is one that can be written, in its normal form. Its columns have these
-- types, its dictionaries these ids, and its numbers this byte order.
pub record HeadHas (order : Endianness) (head : Head) (types : List TypeTree) (ids : IdTrees) : Type 0 where
  pub fields : FieldTrees
  pub metadata : Pairs
  pub writable : IsWritable fields metadata ids
  pub head_is : head ≡ written_head_as order fields metadata ids
  pub types_are : normal_types fields ≡ types
