-- What the public calls that read streams do, in one record for each call. Those that are one
-- definition elsewhere: `MetadataGave` (`read_stream_metadata`) and `NextStep` (`next`).
-- (Arrow columnar format, "IPC Streaming Format".)
use Rattle.std.specs.Prelude.{◌≡◌, ℕ, List, length, Option, Some, None}
use Rattle.lower.specs.TypeViews.{fields_view}
use Rattle.ipc_base.specs.Fitting.{AllFit}
use Rattle.ipc_base.specs.IdTrees.{all_ids_view}
use Rattle.ipc_model.specs.Batches.{IsProjection}
use Rattle.ipc_projection.specs.ChosenColumns.{ShowsColumns}
use Rattle.ipc_readers.specs.Streams.{IsUnread, projection_of, schema_of}
use Rattle.ipc_readers.specs.declared.read.stream.metadata.StreamMetadata.{StreamMetadata}
use Rattle.ipc_readers.specs.declared.read.stream.reader.StreamReader.{StreamReader}

-- `StreamReader::new`: it made the reader r of these columns of a stream on this device.
pub record MakesReader {R : Type 0} (device : R) (metadata : StreamMetadata) (columns : Option (List ℕ)) (r : StreamReader R) : Type 0 where
  -- Nothing was read yet.
  pub unread : IsUnread device metadata r
  -- These columns are requested, in this order.
  pub asked : projection_of r ≡ columns
  -- The schema of the chunks has the fields of these columns.
  pub shown : ShowsColumns columns metadata.schema (schema_of r)

-- A reader of these columns can be made: the dictionary ids have the shape of the fields, and each
-- requested column is one of the stream's, none twice.
abbrev pub CanRead : StreamMetadata → Option (List ℕ) → Type 0
CanRead metadata columns =
    AllFit (fields_view metadata.schema.fields.items) (all_ids_view metadata.ipc_schema.fields.items)
    × IsProjection columns (length metadata.schema.fields.items)

-- `StreamReader::try_new`: a reader exactly if one can be made.
abbrev pub TriesReader : {R : Type 0} → R → StreamMetadata → Option (List ℕ) → Option (StreamReader R) → Type 0
TriesReader device metadata columns None = CanRead metadata columns → ⊥
TriesReader device metadata columns (Some r) = CanRead metadata columns × MakesReader device metadata columns r
