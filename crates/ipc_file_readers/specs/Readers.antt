-- The state of a file reader, and what `next` returns.
-- (Arrow columnar format, "IPC File Format".)
use Rattle.std.specs.Prelude.{◌≡◌, ◌≢◌, ◌⊎◌, ℕ, ℤ, ◌+◌, ◌-◌, ◌≤◌, ◌==◌, if◌then◌else◌, nat_le, Bool, true, false, IsTrue, IfOk, IfErr, OnOk, List, [], map, length, Option, None, Some, option_map, slice_get, Result, Ok, Err, vec_len, Vec}
use Rattle.std.specs.HashMap.{HashMap}
use Rattle.std.specs.declared.alloc.Global.{Global}
use Rattle.std.specs.declared.sync.Arc.{Arc}
use Rattle.lower.specs.declared.datatypes.schema.Schema.{Schema}
use Rattle.lower_arrays.specs.AnyLayouts.{layout_of}
use Rattle.lower_arrays.specs.Layouts.{Layout, len_of}
use Rattle.lower_arrays.specs.declared.array.AnyArray.{AnyArray}
use Rattle.ipc_base.specs.Chunks.{row_count}
use Rattle.ipc_devices.specs.Device.{Device}
use Rattle.ipc_devices.specs.Faults.{OwnFault}
use Rattle.ipc_devices.specs.declared.fault.Fault.{Fault}
use Rattle.ipc_model.specs.Batches.{IsProjection, kinds, chosen}
use Rattle.ipc_model.specs.Entries.{Dictionaries, Limit}
use Rattle.ipc_model.specs.Files.{FileMetadata as Meaning, file_dictionaries, file_chunk}
use Rattle.ipc_model.specs.ReadChunks.{HaveMeaning}
use Rattle.ipc_base.specs.IdTrees.{all_ids_view}
use Rattle.ipc_stream_lemmas.specs.Agreement.{AreAlike, KnowAlike}
use Rattle.ipc_read_flat.specs.Bodies.{array_under, known_dictionaries, no_values}
use Rattle.ipc_read_flat.specs.Scratches.{KeepsScratch}
use Rattle.ipc_projection.specs.ChosenColumns.{ShowsColumns, asked_by, shown_by}
use Rattle.ipc_read.specs.Chunks.{chunk_seen}
use Rattle.ipc_files.specs.Batches.{HoldBatch, IsRecordFault, RecordReason, block_metadata, needed_bytes}
use Rattle.ipc_files.specs.Dictionaries.{DictionariesReason, HoldListed, IsDictionaryBlockFault, RefusedValues, ValuesGiven}
use Rattle.ipc_files.specs.Footers.{GivesPart, file_seen}
use Rattle.ipc_files.specs.declared.read.file.metadata.FileMetadata.{FileMetadata}
use Rattle.ipc_file_readers.specs.declared.read.reader.state.FileReader.{FileReader}
use Rattle.ipc_devices.specs.Acts.{ReadsDevice}

-- ---- the state of a reader

-- The device of a reader.

abbrev pub device_of : {R : Type 0} → FileReader R → R
device_of x = x.reader

-- What the footer of the file says.
abbrev pub metadata_of : {R : Type 0} → FileReader R → FileMetadata
metadata_of x = x.metadata

-- The columns that are requested, in this order; none if all are.
abbrev pub asked_of : {R : Type 0} → FileReader R → Option (List ℕ)
asked_of x = asked_by x.projection

-- The schema of the chunks that `next` returns.
abbrev pub schema_of : {R : Type 0} → FileReader R → Schema
schema_of x = shown_by x.metadata.schema x.projection

-- The dictionaries, once they were read.
abbrev pub known_of : {R : Type 0} → FileReader R → Option Dictionaries
known_of x = option_map known_dictionaries x.dictionaries

-- The arrays of dictionary values by id, once they were read.
abbrev pub values_in : {Z S : Type 0} → Option (HashMap ℤ (Arc AnyArray Z) S) → Option ℤ → Layout
values_in None id = no_values id
values_in (Some m) id = array_under m id

-- The arrays of dictionary values that a reader retains, by id.
abbrev pub values_of : {R : Type 0} → FileReader R → Option ℤ → Layout
values_of x id = values_in x.dictionaries id

-- The index of the next block.
abbrev pub block_of : {R : Type 0} → FileReader R → ℕ
block_of x = x.current_block

-- How many rows are left of the row limit.
abbrev pub remaining_of : {R : Type 0} → FileReader R → Limit
remaining_of x = x.remaining

-- The block before block i, once the dictionaries are known.
abbrev pub block_before : Option Dictionaries → ℕ → Option ℕ
block_before None i = None
block_before (Some ds) i = if i == 0 then None else Some (i - 1)

-- The block that the last item came from: none before the first, or if that was the error of the
-- dictionaries.
abbrev pub item_block : {R : Type 0} → FileReader R → Option ℕ
item_block x = block_before (known_of x) (block_of x)

-- Whether the reader is after the last block: `next` returns None from now on.
abbrev pub is_over : {R : Type 0} → FileReader R → Bool
is_over x = nat_le (vec_len x.metadata.blocks) x.current_block

-- How many blocks are left.
abbrev pub blocks_left : {R : Type 0} → FileReader R → ℕ
blocks_left x = vec_len x.metadata.blocks - x.current_block

-- The scratch memory for data and for messages.
abbrev pub scratches_of : {R : Type 0} → FileReader R → Vec ℕ Global × Vec ℕ Global
scratches_of x = (x.data_scratch, x.message_scratch)

-- The metadata of the message that was read last.
abbrev pub message_of : {R : Type 0} → FileReader R → List ℕ
message_of x = x.message_scratch.items

-- The metadata of the file, as its meaning has them.
abbrev pub file_of : {R : Type 0} → FileReader R → Meaning
file_of x = file_seen (metadata_of x)

-- The indices of the requested columns: all without a projection.
abbrev pub columns_asked : FileMetadata → Option (List ℕ) → List ℕ
columns_asked m asked = chosen asked (length m.schema.fields.items)

-- The reader is at the first block, and has read no dictionary. Its scratch memory is empty.
pub record IsUnread {R : Type 0} (reader : R) (metadata : FileMetadata) (asked : Option (List ℕ)) (limit : Limit) (x : FileReader R) : Type 0 where
  pub device : device_of x ≡ reader
  pub described : metadata_of x ≡ metadata
  pub asked_for : asked_of x ≡ asked
  pub shown : ShowsColumns asked metadata.schema (schema_of x)
  pub unread : known_of x ≡ None
  pub block : block_of x ≡ 0
  pub remaining : remaining_of x ≡ limit
  pub rooms : ((scratches_of x).0.items ≡ []) × ((scratches_of x).1.items ≡ [])

-- `FileReader::try_new`: a reader exactly if each requested column is one of the file's, and none
-- is requested twice.
abbrev pub TriesFile : {R : Type 0} → R → FileMetadata → Option (List ℕ) → Limit → Option (FileReader R) → Type 0
TriesFile reader metadata asked limit None = IsProjection asked (length metadata.schema.fields.items) → ⊥
TriesFile reader metadata asked limit (Some x) =
    IsProjection asked (length metadata.schema.fields.items) × IsUnread reader metadata asked limit x

-- Two states of a reader have the same file, projection and schema.
pub record IsOfSameFile {R : Type 0} (a b : FileReader R) : Type 0 where
  pub described : metadata_of b ≡ metadata_of a
  pub asked : asked_of b ≡ asked_of a
  pub shown : schema_of b ≡ schema_of a

-- Two states of a reader differ in their scratch memory alone.
pub record DiffersInScratches {R : Type 0} (a b : FileReader R) : Type 0 where
  pub file : IsOfSameFile a b
  pub device : device_of b ≡ device_of a
  pub known : known_of b ≡ known_of a
  pub block : block_of b ≡ block_of a
  pub remaining : remaining_of b ≡ remaining_of a

-- ---- what `next` returns

-- What a call of `next` returns.
abbrev pub Answer : Type 0
Answer = Option (Result (List AnyArray) Fault)

-- The result of `next` as a `Result`.
abbrev pub next_result : Answer → Result (Option (List AnyArray)) Fault
next_result None = Ok None
next_result (Some (Ok x)) = Ok (Some x)
next_result (Some (Err e)) = Err e

-- How many rows a call returned.
abbrev pub rows_given : Result (List AnyArray) Fault → ℕ
rows_given (Ok xs) = row_count (λ x. len_of (layout_of x)) xs
rows_given (Err e) = 0

-- A limit, less some rows.
abbrev pub less : Limit → ℕ → Limit
less None n = None
less (Some l) n = Some (l - n)

-- The dictionaries of a file are known: those from before, or those that were read now.
abbrev pub AreKnown : Bool → Option Dictionaries → Option Dictionaries → Dictionaries → Type 0
AreKnown known (Some before) file ds = before ≡ ds
AreKnown known None file ds = IsTrue known → AreAlike file (Some ds)

-- The arrays of values that were known stay. Those that were read now retain at most the encoded
-- length of their blocks' buffers, plus one offset for each empty buffer of offsets.
abbrev pub HoldValues : Bool → Meaning → List ℕ → Option Dictionaries → (before after : Option ℤ → Layout) → Type 0
HoldValues known m source (Some ds) before after = after ≡ before
HoldValues known m source None before after = HoldListed known m source after

-- At the dictionary fields of the requested columns that aren't inside other values, the arrays
-- have the values that are known.
abbrev pub HaveKnownValues : FileMetadata → Option (List ℕ) → Dictionaries → List AnyArray → Type 0
HaveKnownValues m asked ds xs = HaveMeaning ds (all_ids_view m.ipc_schema.fields.items) (columns_asked m asked) (chunk_seen xs) (map layout_of xs)

-- The dictionaries were refused, and there are some. The error is returned once, by the first block
-- that is refused, and nothing comes after it.
pub record WereRefused {R : Type 0} (d : Device R) (a : FileReader R) (e : Fault) (b : FileReader R) : Type 0 where
  pub some : (file_of a).dictionaries ≢ []
  pub unread : known_of a ≡ None
  pub stay_unread : known_of b ≡ None
  pub only : OwnFault e (IsDictionaryBlockFault e)
  pub meaning : IsTrue d.is_memory → OwnFault e (file_dictionaries (file_of a) (d.memory (device_of a)).whole ≡ None)
  pub reason : IsTrue d.is_memory → OwnFault e (DictionariesReason (file_of a) (d.memory (device_of a)).whole [] (file_of a).dictionaries e)
  pub over : is_over b ≡ true

-- The chunk of the next block was returned, or its error, which says why and leaves the row limit
-- as it was. The reader is then at the block after it, and keeps the metadata of the block's
-- message. At most so many bytes were read: this message, its prefix, the encoded length of the
-- requested columns' buffers, and in the first call what the dictionaries need. The arrays retain
-- at most the encoded length of these buffers, plus one offset for each empty buffer of offsets.
pub record WasNext {R : Type 0} (d : Device R) (a : FileReader R) (r : Result (List AnyArray) Fault) (b : FileReader R) : Type 0 where
  pub dictionaries : Dictionaries
  pub held : known_of b ≡ Some dictionaries
  pub are : AreKnown d.is_memory (known_of a) (file_dictionaries (file_of a) (d.memory (device_of a)).whole) dictionaries
  pub held_values : HoldValues d.is_memory (file_of a) (d.memory (device_of a)).whole (known_of a) (values_of a) (values_of b)
  pub block : block_of b ≡ block_of a + 1
  pub remaining : remaining_of b ≡ less (remaining_of a) (rows_given r)
  pub many : IfOk r (λ xs. length xs ≡ length (columns_asked (metadata_of a) (asked_of a)))
  pub only : IfErr r (λ e. OwnFault e (IsRecordFault (kinds (file_of a).schema) (columns_asked (metadata_of a) (asked_of a)) e))
  pub reason : IsTrue d.is_memory
      → IfErr r (λ e. OwnFault e (RecordReason (file_of a) (columns_asked (metadata_of a) (asked_of a)) (d.memory (device_of a)).whole (slice_get (metadata_of a).blocks.items (block_of a)) e))
  pub message : IsTrue d.is_memory
      → OnOk r (block_metadata (d.memory (device_of a)).whole (slice_get (metadata_of a).blocks.items (block_of a)) ≡ Some (message_of b))
  pub bytes : (ds : Dictionaries) → known_of a ≡ Some ds
      → OnOk r (d.given (device_of b) ≤ d.given (device_of a) + needed_bytes (kinds (file_of a).schema) (columns_asked (metadata_of a) (asked_of a)) (message_of b))
  pub first : known_of a ≡ None
      → OnOk r ((n : ℕ) × ValuesGiven d.is_memory (file_of a) (d.memory (device_of a)).whole (d.given (device_of a)) n
      × (d.given (device_of b) ≤ n + needed_bytes (kinds (file_of a).schema) (columns_asked (metadata_of a) (asked_of a)) (message_of b)))
  pub holds : IfOk r (HoldBatch (file_of a).size (kinds (file_of a).schema) (columns_asked (metadata_of a) (asked_of a)) (message_of b))
  pub meaning : IsTrue d.is_memory → (ds : Dictionaries) → KnowAlike dictionaries ds
      → GivesPart chunk_seen r (file_chunk (file_of a) ds (d.memory (device_of a)).whole (asked_of a) (remaining_of a) (block_of a))
  pub values : IsTrue d.is_memory → IfOk r (HaveKnownValues (metadata_of a) (asked_of a) dictionaries)

-- `next` returned a chunk or an error of the next block, or the error of the dictionaries.
abbrev pub HasNext : {R : Type 0} → Device R → FileReader R → Answer → FileReader R → Type 0
HasNext d a None b = ⊥
HasNext d a (Some (Ok xs)) b = WasNext d a (Ok xs) b
HasNext d a (Some (Err e)) b = WereRefused d a e b ⊎ WasNext d a (Err e) b

-- No block was read: the scratch memory for messages and the row limit are as they were. The bytes
-- read are those that the dictionaries need before the refused one, and those read of that.
pub record AskedNoBlock {R : Type 0} (d : Device R) (a b : FileReader R) : Type 0 where
  pub message : (scratches_of b).1 ≡ (scratches_of a).1
  pub remaining : remaining_of b ≡ remaining_of a
  pub bytes : RefusedValues d.is_memory (file_of a).schema (d.memory (device_of a)).whole (file_of a).dictionaries (d.given (device_of a)) (d.given (device_of b))

-- The reader after a call of `next`.
pub record FileReaderState {R : Type 0} (d : Device R) (a b : FileReader R) : Type 0 where
  -- The file, the projection and the schema stay.
  pub file : IsOfSameFile a b
  -- The scratch memory for data has at most 65,536 bytes, or at most as many as before.
  pub room : KeepsScratch (scratches_of a).0.items (scratches_of b).0.items
  -- Until the dictionaries are known, no block is read.
  pub unread : is_over a ≡ false → known_of b ≡ None → AskedNoBlock d a b

-- What a call of `next` reads and returns, and the reader after it. After an error of a block, also
-- of an allocation or of the device, the dictionaries are known, and the reader is at the block
-- after it (`WasNext`).
pub record NextStep {R : Type 0} (d : Device R) (a : FileReader R) (r : Answer) (b : FileReader R) : Type 0 where
  -- If no block is left, it returns None, and nothing changes.
  pub over : is_over a ≡ true → (r ≡ None) × (b ≡ a)
  -- Otherwise it returns the chunk of the next block, or an error.
  pub next : is_over a ≡ false → HasNext d a r b
  -- What became of the device.
  pub device : ReadsDevice d (device_of a) (next_result r) (device_of b)
  -- What became of the reader.
  pub state : FileReaderState d a b
