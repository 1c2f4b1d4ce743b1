-- Why `ipcat` doesn't show what is requested: an error names a condition that holds, or the
-- columns aren't those of the schema.
-- (Arrow columnar format, "IPC Streaming Format" and "IPC File Format".)
use Rattle.std.specs.Prelude.{◌≡◌, ◌⊎◌, ℕ, IsTrue, List, length, Option, None, Some, Ok}
use Rattle.ipc_devices.specs.Gives.{Gives}
use Rattle.ipc_devices.specs.declared.fault.Fault.{Fault}
use Rattle.ipc_model.specs.Batches.{IsProjection}
use Rattle.ipc_model.specs.Files.{metadata_of}
use Rattle.ipc_model.specs.WholeStreams.{Stream}
use Rattle.ipc_readers.specs.Metadata.{MetadataGave}
use Rattle.ipc_readers.specs.Streams.{IsUnread, projection_of}
use Rattle.ipc_readers.specs.declared.read.stream.metadata.StreamMetadata.{StreamMetadata}
use Rattle.ipc_readers.specs.declared.read.stream.reader.StreamReader.{StreamReader}
use Rattle.ipc_files.specs.Footers.{file_seen}
use Rattle.ipc_files.specs.declared.read.file.metadata.FileMetadata.{FileMetadata}
use Rattle.ipc_file_readers.specs.Readers as files
use Rattle.ipc_file_readers.specs.declared.read.reader.state.FileReader.{FileReader}
use Rattle.ipc_round_trip.specs.Choosing as streams
use Rattle.ipc_round_trip.specs.Choosing.{IsReadableBy, chosen_stream_of}
use Rattle.ipc_round_trip.specs.Reading.{StreamCause}
use Rattle.ipc_file_round_trip.specs.Reading.{IsUnreadable, NamesOthers, ReadingCause}
use Rattle.ipc_convert.specs.Chunks.{AreTooMany}
use Rattle.ipc_convert.specs.Refusals.{HoldsOfGiven}
use Rattle.ipc_devices.specs.Device.{Device}
use Rattle.ipc_programs.specs.CatWords.{Wanted, demo, stream, file}

-- ---- a stream

-- A stream reader of an input has read the schema message, and reads the requested columns.
pub record OpensStream {R : Type 0} (gives : Gives R) (input : R) (asked : Option (List ℕ)) (reader : StreamReader R) : Type 0 where
  pub metadata : StreamMetadata
  pub device : R
  pub front : MetadataGave gives input (Ok metadata) device
  pub unread : IsUnread device metadata reader
  pub columns : projection_of reader ≡ asked

-- The bytes are a stream of more chunks than can be counted.
pub record HasTooMany (asked : Option (List ℕ)) (e : Fault) (bytes : List ℕ) : Type 0 where
  pub stream : Stream
  pub is : chosen_stream_of asked bytes ≡ Some stream
  pub many : AreTooMany stream.meant.chunks e

-- The bytes can't be read as a stream by the requested columns, by an error in
-- them; or there are too many chunks.
abbrev pub IsNoStream : Option (List ℕ) → Fault → List ℕ → Type 0
IsNoStream asked e bytes = ((¬ IsReadableBy asked bytes) × StreamCause bytes (chosen_stream_of asked bytes) asked e) ⊎ HasTooMany asked e bytes

-- The stream of an input isn't shown, since the bytes that were read of it are no stream.
abbrev pub ShowStreamCause : {R : Type 0} → Gives R → Device R → R → Option (List ℕ) → Fault → Type 0
ShowStreamCause gives source input asked e = HoldsOfGiven gives source input (IsNoStream asked e)

-- The schema of the stream doesn't have these columns, or one of them is named twice.
abbrev pub StreamHasOthers : {R : Type 0} → Gives R → Device R → R → Option (List ℕ) → Type 0
StreamHasOthers gives source input None = ⊥
StreamHasOthers gives source input (Some columns) = HoldsOfGiven gives source input (streams.NamesOthers columns)

-- ---- a file

-- A file reader has read the footer, and is at the first block. It reads the requested columns,
-- which the file has, and at most so many rows.
pub record OpensFile {F : Type 0} (contents : Device F) (file : F) (asked : Option (List ℕ)) (limit : Option ℕ) (reader : FileReader F) : Type 0 where
  pub metadata : FileMetadata
  pub device : F
  pub unread : files.IsUnread device metadata asked limit reader
  pub columns : IsProjection asked (length metadata.schema.fields.items)
  pub footer : IsTrue contents.is_memory → (contents.memory file).place ≡ 0 → metadata_of (contents.memory file).whole ≡ Some (file_seen metadata)
  pub same : IsTrue contents.is_memory → (contents.memory device).whole ≡ (contents.memory file).whole

-- The file at offset 0 of a device that is memory isn't shown. By the requested columns, and up to
-- the limit, it can't be read, and the error says why.
abbrev pub ShowFileCause : {F : Type 0} → Device F → F → Option (List ℕ) → Option ℕ → Fault → Type 0
ShowFileCause contents device asked limit e =
    IsTrue contents.is_memory → (contents.memory device).place ≡ 0 → IsUnreadable asked limit (contents.memory device).whole × ReadingCause asked limit (contents.memory device).whole e

-- The schema of the file doesn't have these columns, or one of them is named twice.
abbrev pub FileHasOthers : {F : Type 0} → Device F → F → Option (List ℕ) → Type 0
FileHasOthers contents device None = ⊥
FileHasOthers contents device (Some columns) = IsTrue contents.is_memory → (contents.memory device).place ≡ 0 → NamesOthers (Some columns) (contents.memory device).whole

-- ---- what the words ask for

-- `gives` and `source` say what is known of the input, `contents` what is known of an opened file.
module _ {R F : Type 0} (gives : Gives R) (source : Device R) (contents : Device F) where
  -- Why what is requested isn't shown. The example, and a file that couldn't be opened, have no
  -- other errors than those of a device or of allocation.
  abbrev pub ShowCause : Wanted → R → Option F → Fault → Type 0
  ShowCause demo input device e = ⊥
  ShowCause (stream asked) input device e = ShowStreamCause gives source input asked e
  ShowCause (file path asked limit) input (Some device) e = ShowFileCause contents device asked limit e
  ShowCause (file path asked limit) input None e = ⊥

  -- Why arguments of a right form are wrong: they name columns that the schema doesn't have, or one
  -- twice. The example, and all columns, are never wrong.
  abbrev pub AsksForOthers : Wanted → R → Option F → Type 0
  AsksForOthers demo input device = ⊥
  AsksForOthers (stream asked) input device = StreamHasOthers gives source input asked
  AsksForOthers (file path asked limit) input (Some device) = FileHasOthers contents device asked
  AsksForOthers (file path asked limit) input None = ⊥
