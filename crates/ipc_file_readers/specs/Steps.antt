-- What the steps of a call of `next` do, one by one.
-- (Arrow columnar format, "IPC File Format".)
use Rattle.std.specs.Prelude.{◌≡◌, ◌≢◌, ℕ, ◌+◌, ◌≤◌, Bool, IsTrue, IfOk, IfErr, OnOk, List, [], length, Option, None, Some, Result, slice_get}
use Rattle.lower_arrays.specs.declared.array.AnyArray.{AnyArray}
use Rattle.ipc_devices.specs.Device.{Device, IsAnswered, Rises}
use Rattle.ipc_devices.specs.Faults.{IfIo, OnIo, UnlessIo, OwnFault}
use Rattle.ipc_devices.specs.declared.fault.Fault.{Fault}
use Rattle.ipc_model.specs.Batches.{kinds}
use Rattle.ipc_model.specs.Entries.{Dictionaries, Limit}
use Rattle.ipc_model.specs.Files.{file_dictionaries, file_chunk}
use Rattle.ipc_stream_lemmas.specs.Agreement.{KnowAlike}
use Rattle.ipc_read.specs.Chunks.{chunk_seen}
use Rattle.ipc_read_flat.specs.Scratches.{KeepsScratch}
use Rattle.ipc_files.specs.Batches.{HoldBatch, IsRecordFault, RecordReason, block_metadata, needed_bytes}
use Rattle.ipc_files.specs.Dictionaries.{DictionariesReason, IsDictionaryBlockFault, ValuesTaken}
use Rattle.ipc_files.specs.Footers.{GivesPart, file_seen}
use Rattle.ipc_files.specs.declared.read.file.metadata.FileMetadata.{FileMetadata}
use Rattle.ipc_file_readers.specs.Readers.{AreKnown, HaveKnownValues, HoldValues, IsOfSameFile, asked_of, block_of, columns_asked, device_of, file_of, known_of, less, message_of, metadata_of, remaining_of, rows_given, scratches_of, values_of}
use Rattle.ipc_file_readers.specs.declared.read.reader.state.FileReader.{FileReader}

-- The device was read: its failures rise exactly if its error is returned, and its bytes stay. An
-- `Io` is an error that the device returned.
pub record WasAsked {R X : Type 0} (d : Device R) (a : FileReader R) (r : Result X Fault) (b : FileReader R) : Type 0 where
  pub monotone : d.failures (device_of a) ≤ d.failures (device_of b)
  pub failed : OnIo r (Rises (d.failures (device_of a)) (d.failures (device_of b)))
  pub told : UnlessIo r (d.failures (device_of b) ≡ d.failures (device_of a))
  pub whole : IsTrue d.is_read_only → (d.memory (device_of b)).whole ≡ (d.memory (device_of a)).whole
  pub names : d.names (device_of b) ≡ d.names (device_of a)
  pub answered : IfIo r (IsAnswered d)

-- The dictionaries are known; or they were refused, also by an allocation or the device, and the
-- reader differs in its device and its scratch memory for data alone.
pub record DictionariesGave {R : Type 0} (d : Device R) (a : FileReader R) (r : Result Unit Fault) (b : FileReader R) : Type 0 where
  pub file : IsOfSameFile a b
  pub block : block_of b ≡ block_of a
  pub remaining : remaining_of b ≡ remaining_of a
  pub room : KeepsScratch (scratches_of a).0.items (scratches_of b).0.items
  pub message : (scratches_of b).1 ≡ (scratches_of a).1
  pub asked : WasAsked d a r b
  pub are : IfOk r (λ _. (ds : Dictionaries) × (known_of b ≡ Some ds)
      × AreKnown d.is_memory (known_of a) (file_dictionaries (file_of a) (d.memory (device_of a)).whole) ds)
  pub holds : IfOk r (λ _. HoldValues d.is_memory (file_of a) (d.memory (device_of a)).whole (known_of a) (values_of a) (values_of b))
  pub left_alone : (ds : Dictionaries) → known_of a ≡ Some ds → device_of b ≡ device_of a
  pub bytes : known_of a ≡ None → ValuesTaken d.is_memory (file_of a) (d.memory (device_of a)).whole r (d.given (device_of a)) (d.given (device_of b))
  pub some : IfErr r (λ e. (file_of a).dictionaries ≢ [])
  pub unread : IfErr r (λ e. known_of a ≡ None)
  pub stay_unread : IfErr r (λ e. known_of b ≡ None)
  pub only : IfErr r (λ e. OwnFault e (IsDictionaryBlockFault e))
  pub refused : IsTrue d.is_memory → IfErr r (λ e. OwnFault e (file_dictionaries (file_of a) (d.memory (device_of a)).whole ≡ None))
  pub reason : IsTrue d.is_memory → IfErr r (λ e. OwnFault e (DictionariesReason (file_of a) (d.memory (device_of a)).whole [] (file_of a).dictionaries e))

-- The chunk of block i was returned, by the dictionaries that are known, or its error. The message
-- that was read has this metadata.
pub record WasChunk (known : Bool) (m : FileMetadata) (asked : Option (List ℕ)) (limit : Limit) (i : ℕ) (ds : Dictionaries) (source : List ℕ) (old new : ℕ) (metadata : List ℕ)
    (r : Result (List AnyArray) Fault) : Type 0 where
  pub many : IfOk r (λ xs. length xs ≡ length (columns_asked m asked))
  pub only : IfErr r (λ e. OwnFault e (IsRecordFault (kinds (file_seen m).schema) (columns_asked m asked) e))
  pub reason : IsTrue known → IfErr r (λ e. OwnFault e (RecordReason (file_seen m) (columns_asked m asked) source (slice_get m.blocks.items i) e))
  pub message : IsTrue known → OnOk r (block_metadata source (slice_get m.blocks.items i) ≡ Some metadata)
  pub bytes : OnOk r (new ≤ old + needed_bytes (kinds (file_seen m).schema) (columns_asked m asked) metadata)
  pub holds : IfOk r (HoldBatch m.size (kinds (file_seen m).schema) (columns_asked m asked) metadata)
  pub meaning : IsTrue known → (es : Dictionaries) → KnowAlike ds es → GivesPart chunk_seen r (file_chunk (file_seen m) es source asked limit i)
  pub values : IsTrue known → IfOk r (HaveKnownValues m asked ds)

-- The chunk of block i was returned, or its error.
pub record BlockGave {R : Type 0} (d : Device R) (i : ℕ) (a : FileReader R) (r : Result (List AnyArray) Fault) (b : FileReader R) : Type 0 where
  pub file : IsOfSameFile a b
  pub block : block_of b ≡ block_of a
  pub remaining : remaining_of b ≡ remaining_of a
  pub held : known_of b ≡ known_of a
  pub values : values_of b ≡ values_of a
  pub room : KeepsScratch (scratches_of a).0.items (scratches_of b).0.items
  pub asked : WasAsked d a r b
  pub chunk : (ds : Dictionaries) → known_of a ≡ Some ds
      → WasChunk d.is_memory (metadata_of a) (asked_of a) (remaining_of a) i ds (d.memory (device_of a)).whole (d.given (device_of a)) (d.given (device_of b)) (message_of b) r

-- The chunk of the next block was returned, or its error, and the reader is at the block after
-- it. After an error, also of an allocation or of the device, the dictionaries are known as
-- before, and the limit is as it was.
pub record NextGave {R : Type 0} (d : Device R) (a : FileReader R) (r : Result (List AnyArray) Fault) (b : FileReader R) : Type 0 where
  pub file : IsOfSameFile a b
  pub block : block_of b ≡ block_of a + 1
  pub remaining : remaining_of b ≡ less (remaining_of a) (rows_given r)
  pub held : known_of b ≡ known_of a
  pub values : values_of b ≡ values_of a
  pub room : KeepsScratch (scratches_of a).0.items (scratches_of b).0.items
  pub asked : WasAsked d a r b
  pub chunk : (ds : Dictionaries) → known_of a ≡ Some ds
      → WasChunk d.is_memory (metadata_of a) (asked_of a) (remaining_of a) (block_of a) ds (d.memory (device_of a)).whole (d.given (device_of a)) (d.given (device_of b)) (message_of b) r
