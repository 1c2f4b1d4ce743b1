-- Files that can be appended to, and the writer that appends.
-- (Arrow columnar format, "IPC File Format"; the limits are this project's own.)
use Rattle.std.specs.Prelude.{◌≡◌, ◌⊎◌, ℕ, ℤ, ◌^◌, ◌<◌, ◌≤◌, Bool, IsTrue, List, [], ◌++◌, map, Some, None}
use Rattle.lower.specs.TypeViews.{fields_view, pairs_of}
use Rattle.ipc_devices.specs.Device.{Device, GoesTo, Rises}
use Rattle.ipc_devices.specs.Faults.{OwnFault}
use Rattle.ipc_devices.specs.declared.fault.ArgFault.TheVariants.{FieldsShape, NoRecordBlocks, NotWritable, TooLarge}
use Rattle.ipc_devices.specs.declared.fault.Fault.{Fault}
use Rattle.ipc_devices.specs.declared.fault.Fault.TheVariants.{Argument, Memory as NoMemory, OutOfSpec}
use Rattle.ipc_devices.specs.declared.fault.OutOfSpecKind.TheVariants.{UnexpectedNegativeInteger}
use Rattle.ipc_base.specs.Fitting.{AllFit}
use Rattle.ipc_base.specs.IdTrees.{all_ids_view}
use Rattle.ipc_model.specs.Batches.{Chunk}
use Rattle.ipc_model.specs.Entries.{Dictionaries, dictionary_at}
use Rattle.ipc_model.specs.Files.{FileMetadata, file_dictionaries, metadata_of}
use Rattle.ipc_model.specs.Writable.{IsWritable, file_weight}
use Rattle.ipc_stream_lemmas.specs.Agreement.{AreAlike}
use Rattle.ipc_stream_lemmas.specs.Remembered.{Remembered}
use Rattle.ipc_encode.specs.declared.common.EncodedData.{EncodedData}
use Rattle.ipc_tracker.specs.Trackers.{remembered}
use Rattle.ipc_schema_write.specs.WriterAnswers.{byte_order, max_weight}
use Rattle.ipc_write.specs.Writers.{chosen_ids}
use Rattle.ipc_write.specs.declared.stream.WriterState.TheVariants.{Started}
use Rattle.ipc_files.specs.Dictionaries.{DictionariesReason, IsDictionaryBlockFault}
use Rattle.ipc_file_lemmas.specs.Appending.{HaveNegative, MeansBefore, goes_on, normal_chunk}
use Rattle.ipc_file_write.specs.FileWriters.{AgreesAlone, FileSeen, HoldsBytes, IsWholeFile}
use Rattle.ipc_file_write.specs.declared.prepared.Prepared.{Prepared}

-- ---- which files

-- A file with this metadata can be appended to. It has a record block, no negative number in its
-- blocks, and less than 2 ^ 63 bytes, and its schema and its pairs can be written.
pub record MayGoOn (m : FileMetadata) : Type 0 where
  pub some_blocks : m.blocks ≡ [] → ⊥
  pub natural : HaveNegative (m.dictionaries ++ m.blocks) → ⊥
  pub short : m.size < 2 ^ 63
  pub writable : IsWritable m.schema.fields m.schema.metadata m.schema.ids
  pub light : file_weight m.schema.fields m.schema.metadata m.pairs ≤ max_weight

-- The part of `MayGoOn` that isn't about blocks: the length of the file, its schema and its pairs.
pub record CanBeWritten (m : FileMetadata) : Type 0 where
  pub short : m.size < 2 ^ 63
  pub writable : IsWritable m.schema.fields m.schema.metadata m.schema.ids
  pub light : file_weight m.schema.fields m.schema.metadata m.pairs ≤ max_weight

-- Why a file with this metadata can't be appended to.
abbrev pub RefusesToGoOn : FileMetadata → Fault → Type 0
RefusesToGoOn m (Argument NoRecordBlocks) = m.blocks ≡ []
RefusesToGoOn m (OutOfSpec UnexpectedNegativeInteger) = HaveNegative (m.dictionaries ++ m.blocks)
RefusesToGoOn m (Argument TooLarge) = (2 ^ 63 ≤ m.size) ⊎ (file_weight m.schema.fields m.schema.metadata m.pairs ≤ max_weight → ⊥)
RefusesToGoOn m (Argument FieldsShape) = AllFit m.schema.fields m.schema.ids → ⊥
RefusesToGoOn m (Argument NotWritable) = IsWritable m.schema.fields m.schema.metadata m.schema.ids → ⊥
RefusesToGoOn m NoMemory = Unit {0}
RefusesToGoOn m _ = ⊥

-- The dictionaries of a file can't be read: the error is that of the
-- first dictionary block that fails.
pub record HasNoDictionaries (known : Bool) (m : FileMetadata) (bytes : List ℕ) (e : Fault) : Type 0 where
  pub kind : IsDictionaryBlockFault e
  pub none : IsTrue known → file_dictionaries m bytes ≡ None
  pub reason : IsTrue known → DictionariesReason m bytes [] m.dictionaries e

-- Why a file can't be appended to: its metadata doesn't allow it, or its dictionaries can't be
-- read. Nothing is claimed of errors of allocation and of the device.
abbrev pub RefusesFile : Bool → FileMetadata → List ℕ → Fault → Type 0
RefusesFile known m bytes e = OwnFault e (RefusesToGoOn m e ⊎ HasNoDictionaries known m bytes e)

-- ---- the device

-- A call on this device failed: in some state after it the device has counted one
-- failure more. Memory never fails.
pub record DeviceFails {W : Type 0} (failures : W → ℕ) (device : W) : Type 0 where
  pub after : W
  pub rises : Rises (failures device) (failures after)

-- ---- the writer

-- The writer that a prepared file gives for this device: it is
-- started, and has written nothing yet.
abbrev pub resumed : {W : Type 0} → W → Prepared → FileSeen W
resumed device p = record {
  device = device;
  state = Started;
  order = byte_order p.metadata.ipc_schema.is_little_endian;
  fields = fields_view p.metadata.schema.fields.items;
  metadata = pairs_of p.metadata.schema.metadata.entries;
  chosen = chosen_ids None (fields_view p.metadata.schema.fields.items);
  ids = all_ids_view p.metadata.ipc_schema.fields.items;
  pairs = pairs_of p.metadata.custom_metadata.entries;
  remembers = remembered p.dictionary_tracker;
  dictionaries = p.dictionary_blocks.items;
  blocks = p.metadata.blocks.items;
  place = p.block_offsets;
  size = p.metadata.size;
}

-- Scratch memory without any byte in it.
pub record AreEmptyScratches (scratches : EncodedData) : Type 0 where
  pub no_message : scratches.ipc_message.items ≡ []
  pub no_data : scratches.arrow_data.items ≡ []

-- The remembered dictionaries are those of the file.
pub record RemembersFile (m : FileMetadata) (bytes : List ℕ) (r : Remembered) : Type 0 where
  pub found : Dictionaries
  pub alike : AreAlike (file_dictionaries m bytes) (Some found)
  pub each : (id : ℤ) → r id ≡ dictionary_at found id

-- A writer appends to a file: it has the file's byte order, schema, ids, pairs, blocks and
-- dictionaries, and is at the append position. No byte of the file has changed.
pub record GoesOn {W : Type 0} (d : Device W) (m : FileMetadata) (device : W) (w : FileSeen W) : Type 0 where
  pub may : MayGoOn m
  pub state : w.state ≡ Started
  pub order : w.order ≡ m.schema.order
  pub fields : w.fields ≡ m.schema.fields
  pub metadata : w.metadata ≡ m.schema.metadata
  pub ids : w.ids ≡ m.schema.ids
  pub pairs : w.pairs ≡ m.pairs
  pub dictionaries : w.dictionaries ≡ m.dictionaries
  pub blocks : w.blocks ≡ m.blocks
  pub size : w.size ≡ m.size
  pub place : w.place ≡ goes_on m
  pub stands : IsTrue d.is_memory → GoesTo (d.memory device) (d.memory w.device) (goes_on m)
  pub remembers : IsTrue d.is_memory → RemembersFile m (d.memory device).whole w.remembers

-- A writer appends to a file, on the device that it was given, and no call of that failed.
pub record OpensFile {W : Type 0} (d : Device W) (m : FileMetadata) (device : W) (w : FileSeen W) : Type 0 where
  pub goes_on : GoesOn d m device w
  pub done : d.failures w.device ≡ d.failures device
  pub names : d.names w.device ≡ d.names device

-- If the file had these chunks, and its blocks need no byte after the append position, the writer's
-- chunks come after them. The earlier chunks are seen in the normal form of the schema.
abbrev pub GoesOnWith : {W : Type 0} → Device W → FileMetadata → W → FileSeen W → Type 0
GoesOnWith d m device w =
    IsTrue d.is_memory → metadata_of (d.memory device).whole ≡ Some m → (dictionaries : Dictionaries) (cs : List Chunk) → MeansBefore m (d.memory device).whole dictionaries cs
    → AgreesAlone d w [] (map normal_chunk cs)

-- If the file was finished by a writer, the new writer's chunks come after its chunks; the file
-- is also a stream if it was one.
abbrev pub GoesOnAgain : {W : Type 0} → Device W → FileMetadata → W → FileSeen W → Type 0
GoesOnAgain d m device w =
    IsTrue d.is_memory → metadata_of (d.memory device).whole ≡ Some m → (is_stream : Bool) (before : FileSeen (Unit {0})) (cs : List Chunk) → IsWholeFile is_stream before (d.memory device).whole cs
    → HoldsBytes is_stream (d.memory w.device) w [] cs

-- Unless an allocation or the device fails, no file is refused that a writer finished and that has
-- a record block and fewer than 2 ^ 63 bytes.
abbrev pub RefusesNoWhole : {W : Type 0} → Device W → FileMetadata → W → Fault → Type 0
RefusesNoWhole d m device e =
    OwnFault e (IsTrue d.is_memory → metadata_of (d.memory device).whole ≡ Some m → (is_stream : Bool) (before : FileSeen (Unit {0})) (cs : List Chunk) → IsWholeFile is_stream before (d.memory device).whole cs
    → (m.blocks ≡ [] → ⊥) → m.size < 2 ^ 63 → ⊥)
