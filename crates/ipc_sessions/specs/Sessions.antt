-- Append sessions on a file: which chunks they wrote, with which files one
-- can begin, and what they leave.
-- (Arrow columnar format, "IPC File Format".)
use Rattle.std.specs.Prelude.{◌≡◌, ◌⊎◌, ℕ, ◌^◌, ◌<◌, ◌≤◌, Bool, false, IsTrue, List, [], ◌∷◌, ◌++◌, length, map, take, None, Some, Result, Vec, is_ok}
use Rattle.std.specs.declared.alloc.Global.{Global}
use Rattle.lower.specs.TypeTrees.{Pairs}
use Rattle.lower_arrays.specs.declared.array.AnyArray.{AnyArray}
use Rattle.ipc_devices.specs.Faults.{OwnFault}
use Rattle.ipc_devices.specs.declared.fault.Fault.{Fault}
use Rattle.ipc_table_views.specs.declared.file.Block.{Block}
use Rattle.ipc_table_views.specs.declared.schema.MetadataVersion.TheVariants.{V5}
use Rattle.ipc_model.specs.Batches.{Chunk, Schema}
use Rattle.ipc_model.specs.Entries.{Dictionaries}
use Rattle.ipc_model.specs.FileFollowLaws.{BlocksMean}
use Rattle.ipc_model.specs.Files.{FileMetadata, all_of, metadata_of}
use Rattle.ipc_model.specs.Writers.{Call, taken, write_call}
use Rattle.ipc_write.specs.Meaning.{chunk_written}
use Rattle.ipc_file_lemmas.specs.Appending.{MeansBefore, goes_on, normal_chunk, normal_schema}
use Rattle.ipc_file_lemmas.specs.FileBytes.{EndsStreamBehind, IsFile, file_so_far}
use Rattle.ipc_files.specs.Files.{FileFault, FileReason}
use Rattle.ipc_file_write.specs.Appends.{MayGoOn, RefusesFile}
use Rattle.ipc_file_write.specs.FileWriters.{FileSeen, IsWholeFile, head_of_file}

-- ---- chunks that were written

-- The writes of some chunks, each with whether it returned Ok.
abbrev pub writes_of : List (List AnyArray) → List (Result Unit Fault) → List (Call × Bool)
writes_of (c ∷ cs) (r ∷ rs) = (write_call (chunk_written c), is_ok r) ∷ writes_of cs rs
writes_of _ _ = []

-- The chunks that a session wrote: those whose `write` returned Ok.
abbrev pub taken_of : List (List AnyArray) → List (Result Unit Fault) → List Chunk
taken_of cs rs = taken (writes_of cs rs)

-- The chunks that some sessions wrote, in order.
abbrev pub all_taken_of : List (Vec (List AnyArray) Global) → List (Vec (Result Unit Fault) Global) → List Chunk
all_taken_of (cs ∷ rest) (rs ∷ answers) = taken_of cs.items rs.items ++ all_taken_of rest answers
all_taken_of _ _ = []

-- ---- files

-- The bytes are a file that a writer finished, with this schema in its normal form, these pairs and
-- these chunks. If `is_stream`, it is a stream of the same without its first eight bytes.
pub record IsEndedFile (is_stream : Bool) (bytes : List ℕ) (schema : Schema) (pairs : Pairs) (cs : List Chunk) : Type 0 where
  pub writer : FileSeen (Unit {0})
  pub whole : IsWholeFile is_stream writer bytes cs
  pub schema_is : (head_of_file writer).schema ≡ schema
  pub pairs_are : writer.pairs ≡ pairs

-- The bytes are a file that another program wrote: its dictionaries and its blocks have a meaning,
-- and need no byte after the append position. Its schema and its chunks are in their normal form,
-- and it isn't taken for a stream.
pub record IsForeignFile (is_stream : Bool) (bytes : List ℕ) (schema : Schema) (pairs : Pairs) (cs : List Chunk) : Type 0 where
  pub no_stream : is_stream ≡ false
  pub metadata : FileMetadata
  pub metadata_is : metadata_of bytes ≡ Some metadata
  pub known : Dictionaries
  pub chunks : List Chunk
  pub means : MeansBefore metadata bytes known chunks
  pub schema_is : normal_schema metadata.schema ≡ schema
  pub pairs_are : metadata.pairs ≡ pairs
  pub chunks_are : map normal_chunk chunks ≡ cs

-- The bytes are a file that can be appended to, if the limits allow it: a writer finished
-- it, or another program wrote it.
abbrev pub IsOldFile : Bool → List ℕ → Schema → Pairs → List Chunk → Type 0
IsOldFile is_stream bytes schema pairs cs = IsEndedFile is_stream bytes schema pairs cs ⊎ IsForeignFile is_stream bytes schema pairs cs

-- ---- what sessions leave

-- If the old bytes are a file that can be appended to (`IsOldFile`), the new ones are this
-- file with these chunks more, finished by a writer. Its schema and its pairs stay, and it
-- is still a stream if it was one.
abbrev pub GainsChunks : List ℕ → List ℕ → List Chunk → Type 0
GainsChunks old new cs =
    (is_stream : Bool) (schema : Schema) (pairs : Pairs) (before : List Chunk) → IsOldFile is_stream old schema pairs before → IsEndedFile is_stream new schema pairs (before ++ cs)

-- So many sessions, one after the other, appended these chunks to a file. After at
-- least one session the file is one that a writer finished; without a session it
-- is the kind of file that it was.
pub record AddsInTurn (count : ℕ) (old new : List ℕ) (cs : List Chunk) : Type 0 where
  pub some : 0 < count → GainsChunks old new cs
  pub any : (is_stream : Bool) (schema : Schema) (pairs : Pairs) (before : List Chunk) → IsOldFile is_stream old schema pairs before → IsOldFile is_stream new schema pairs (before ++ cs)
  pub ended : (is_stream : Bool) (schema : Schema) (pairs : Pairs) (before : List Chunk) → IsEndedFile is_stream old schema pairs before → IsEndedFile is_stream new schema pairs (before ++ cs)

-- What stays of a file with this metadata, whatever the calls of a session return. The file is no
-- shorter, and no byte before the append position changed. The old metadata still give the
-- dictionaries and the chunks, if their blocks need no byte after that position.
pub record KeepsOld (m : FileMetadata) (old new : List ℕ) : Type 0 where
  pub longer : length old ≤ length new
  pub kept : take (goes_on m) new ≡ take (goes_on m) old
  pub gives : (known : Dictionaries) (cs : List Chunk) → MeansBefore m old known cs → BlocksMean m (all_of new) known cs

-- If a file that can be appended to is refused, the error is one of allocation or of the device.
abbrev pub OldFileCause : FileMetadata → List ℕ → Fault → Type 0
OldFileCause m old e =
    OwnFault e (MayGoOn m → (is_stream : Bool) (schema : Schema) (pairs : Pairs) (before : List Chunk) → IsOldFile is_stream old schema pairs before → ⊥)

-- The file has metadata, and can't be appended to.
pub record ResumeCause (known : Bool) (bytes : List ℕ) (e : Fault) : Type 0 where
  pub metadata : FileMetadata
  pub is : IsTrue known → metadata_of bytes ≡ Some metadata
  pub refused : RefusesFile known metadata bytes e

-- The file has no metadata, for this reason.
pub record MetadataCause (known : Bool) (bytes : List ℕ) (e : Fault) : Type 0 where
  pub kind : FileFault e
  pub none : IsTrue known → metadata_of bytes ≡ None
  pub reason : IsTrue known → FileReason 0 bytes e

-- Why a session can't begin on a file of these bytes: it has no metadata, or can't be appended to.
-- Nothing is claimed of errors of allocation and of the device.
abbrev pub OpeningCause : Bool → List ℕ → Fault → Type 0
OpeningCause known bytes e = OwnFault e (MetadataCause known bytes e ⊎ ResumeCause known bytes e)

-- ---- reading a file that a session left

-- The file is read as this schema, these pairs and these chunks, which its blocks have. If
-- `is_stream`, a stream without the first eight bytes means the same.
pub record ReadsAs (is_stream : Bool) (bytes : List ℕ) (schema : Schema) (pairs : Pairs) (cs : List Chunk) : Type 0 where
  pub dictionaries : List Block
  pub blocks : List Block
  pub file : IsFile bytes (file_so_far schema pairs dictionaries blocks (length bytes)) cs
  pub stream : IsTrue is_stream → EndsStreamBehind bytes (record { schema = schema; version = V5 }) cs

-- Theorem: a file that a writer finished is read as its schema, its pairs and its chunks.
abbrev pub EndedLaw : Type 0
EndedLaw = (is_stream : Bool) (bytes : List ℕ) (schema : Schema) (pairs : Pairs) (cs : List Chunk) → IsEndedFile is_stream bytes schema pairs cs → ReadsAs is_stream bytes schema pairs cs

-- Theorem: a file that a writer finished, which has a chunk and is shorter than
-- 2 ^ 63 bytes, can be appended to.
abbrev pub MayLaw : Type 0
MayLaw = (is_stream : Bool) (bytes : List ℕ) (schema : Schema) (pairs : Pairs) (c : Chunk) (cs : List Chunk) (m : FileMetadata) → IsEndedFile is_stream bytes schema pairs (c ∷ cs)
    → metadata_of bytes ≡ Some m → length bytes < 2 ^ 63 → MayGoOn m

-- Theorem: the chunks of a file that a writer finished, and that can be appended to, need no
-- byte after the append position.
abbrev pub BeforeLaw : Type 0
BeforeLaw = (is_stream : Bool) (bytes : List ℕ) (schema : Schema) (pairs : Pairs) (cs : List Chunk) (m : FileMetadata) → IsEndedFile is_stream bytes schema pairs cs → metadata_of bytes ≡ Some m
    → MayGoOn m → (known : Dictionaries) × MeansBefore m bytes known cs
