-- Why a stream or a file isn't copied. An error names its cause: what is invalid in the input,
-- or what can't be written of it.
-- (Arrow columnar format, "IPC Streaming Format" and "IPC File Format".)
use Rattle.std.specs.Prelude.{◌≡◌, ◌⊎◌, ℕ, ℤ, Bool, IsTrue, List, [], ◌∷◌, ◌++◌, length, map, None, Some, Err}
use Rattle.std.specs.List.{AllByRecursion}
use Rattle.lower.specs.Normal.{norm}
use Rattle.lower.specs.TypeTrees.{FieldTrees, Pairs}
use Rattle.lower_types.specs.declared.Endianness.{Endianness}
use Rattle.lower_arrays.specs.AnyLayouts.{layout_of}
use Rattle.lower_arrays.specs.Layouts.{Layout, layouts}
use Rattle.lower_arrays.specs.declared.array.AnyArray.{AnyArray}
use Rattle.ipc_base.specs.IdTrees.{IdTrees}
use Rattle.ipc_devices.specs.Device.{Device, after}
use Rattle.ipc_devices.specs.Gives.{Follows, Gives, Stop}
use Rattle.ipc_devices.specs.declared.fault.ArgFault.TheVariants.{ColumnCount, ColumnType, FieldsDiffer, SharedDictionary, TooLarge, TooLong}
use Rattle.ipc_devices.specs.declared.fault.Fault.{Fault}
use Rattle.ipc_devices.specs.declared.fault.Fault.TheVariants.{Argument}
use Rattle.ipc_model.specs.Accepted.{AreShared, IsSayable, body_length, types_of}
use Rattle.ipc_model.specs.Batches.{Chunk, Schema}
use Rattle.ipc_model.specs.Entries.{Dictionaries, Dictionary}
use Rattle.ipc_model.specs.Files.{FileMetadata, file_dictionaries, metadata_of}
use Rattle.ipc_model.specs.Offers.{FilledPlace, offer_of, values_of}
use Rattle.ipc_model.specs.WholeStreams.{Stream, stream_of}
use Rattle.ipc_tracker.specs.Places.{AllHave}
use Rattle.ipc_read.specs.Chunks.{chunk_seen}
use Rattle.ipc_files.specs.Files.{FileReason}
use Rattle.ipc_schema_write.specs.WriterAnswers.{RefusesSchema}
use Rattle.ipc_round_trip.specs.Reading.{StreamCause, IsReadable}
use Rattle.ipc_file_write.specs.Appends.{GoesOn}
use Rattle.ipc_file_write.specs.FileWriters.{AnswersFinish, FileSeen}
use Rattle.ipc_file_write.specs.Writes.{NamesOne, WritesExactly}
use Rattle.ipc_sessions.specs.Sessions.{ResumeCause}
use Rattle.ipc_convert.specs.Chunks.{AreTooMany}
use Rattle.ipc_convert.specs.Copies.{AreSame}
use Rattle.ipc_convert.specs.Sinks.{TookBlocks}
use Rattle.ipc_convert.specs.Sources.{FirstAre, FilePartCause}
use Rattle.ipc_convert.specs.Steps.{BeginsFile, WithPairsCause}

-- ---- which chunk is refused

-- The dictionary fields of an id don't all have the same values.
abbrev pub HaveNoneInCommon : ℤ → List FilledPlace → Type 0
HaveNoneInCommon id ps = (d : Dictionary) → ¬ AllHave id d ps

-- By each error, the condition of an accepted chunk that the columns don't meet, for these fields
-- and ids. If an id is named, its fields don't have the same values.
abbrev pub TakenChunkCause : FieldTrees → IdTrees → List Layout → Fault → Type 0
TakenChunkCause fs is columns (Argument ColumnCount) = ¬ (length (offer_of columns is).columns ≡ length (types_of fs))
TakenChunkCause fs is columns (Argument ColumnType) = ¬ (map (λ c. norm c.type) (offer_of columns is).columns ≡ map norm (types_of fs))
TakenChunkCause fs is columns (Argument (SharedDictionary j)) = ¬ AreShared (offer_of columns is).dictionaries × HaveNoneInCommon j (values_of (layouts columns) is)
TakenChunkCause fs is columns (Argument TooLong) = ¬ AllByRecursion IsSayable (offer_of columns is).nodes
TakenChunkCause fs is columns (Argument TooLarge) = ¬ AllByRecursion (λ lengths. IsSayable (body_length lengths)) (offer_of columns is).bodies
TakenChunkCause fs is columns _ = ⊥

-- Of the chunks that `first` allows, one is refused after those before it, by what `misses` says.
pub record OneChunkCause (first : List Chunk → Type 0) (misses : List Chunk → List AnyArray → Type 0) : Type 0 where
  pub before : List Chunk
  pub columns : List AnyArray
  pub is_next : first (before ++ chunk_seen columns ∷ [])
  pub missed : misses before columns

-- There are more chunks than a copy can count.
pub record TooManyCame (first : List Chunk → Type 0) (e : Fault) : Type 0 where
  pub chunks : List Chunk
  pub are_first : first chunks
  pub many : AreTooMany chunks e

-- Why not all chunks are written.
abbrev pub CopiedChunksCause : (List Chunk → Type 0) → (List Chunk → List AnyArray → Type 0) → Fault → Type 0
CopiedChunksCause first misses e = OneChunkCause first misses ⊎ TooManyCame first e

-- ---- what can't be written

-- Why a stream of this schema and these chunks isn't written: the schema can't be
-- written, or a chunk isn't accepted.
abbrev pub AsStreamCause : (List Chunk → Type 0) → Schema → Fault → Type 0
AsStreamCause first s e = RefusesSchema e s.fields s.metadata s.ids ⊎ CopiedChunksCause first (λ before columns. TakenChunkCause s.fields s.ids (map layout_of columns) e) e

-- A file writer that was opened so and wrote these chunks refuses columns, by its own contract.
pub record FileTakeCause {W : Type 0} (d : Device W) (opened : FileSeen W → Type 0) (e : Fault) (before : List Chunk) (columns : List AnyArray) : Type 0 where
  pub begun : FileSeen W
  pub is : opened begun
  pub writer : FileSeen W
  pub took : TookBlocks d begun before writer
  pub refused : WritesExactly writer columns None (Err e)
  pub named : NamesOne writer columns e

-- A file writer that wrote the first chunks can't finish its file, by its own contract.
pub record FileEndCause {W : Type 0} (d : Device W) (opened : FileSeen W → Type 0) (first : List Chunk → Type 0) (e : Fault) : Type 0 where
  pub chunks : List Chunk
  pub are_first : first chunks
  pub begun : FileSeen W
  pub is : opened begun
  pub writer : FileSeen W
  pub took : TookBlocks d begun chunks writer
  pub refused : AnswersFinish writer (Err e)

-- Why the chunks aren't all written to a file: one is refused, or the file can't be finished.
abbrev pub InBlocksCause : {W : Type 0} → Device W → (FileSeen W → Type 0) → (List Chunk → Type 0) → Fault → Type 0
InBlocksCause d opened first e = CopiedChunksCause first (FileTakeCause d opened e) e ⊎ FileEndCause d opened first e

-- Why a file of this schema, these pairs and these chunks isn't written.
abbrev pub AsFileCause : {W : Type 0} → Device W → W → Endianness → Pairs → (List Chunk → Type 0) → Schema → Fault → Type 0
AsFileCause d out order pairs first s e =
    WithPairsCause s.fields s.metadata s.ids pairs e ⊎ InBlocksCause d (BeginsFile d out order s.fields s.metadata s.ids pairs) first e

-- ---- what is read

-- The chunks of `first` are the first of `all`.
abbrev pub AreFirst : (first all : List Chunk) → Type 0
AreFirst first all = (rest : List Chunk) × (all ≡ first ++ rest)

-- The bytes are a stream, whose schema or whose chunks can't be written.
pub record IsHeldBack (refuses : (List Chunk → Type 0) → Schema → Fault → Type 0) (bytes : List ℕ) (e : Fault) : Type 0 where
  pub stream : Stream
  pub is : stream_of bytes ≡ Some stream
  pub refused : refuses (λ cs. AreFirst cs stream.meant.chunks) stream.head.schema e

-- Why bytes aren't copied as a stream: they can't be read, by an error in them, or
-- what they mean can't be written.
abbrev pub CopyStreamCause : ((List Chunk → Type 0) → Schema → Fault → Type 0) → List ℕ → Fault → Type 0
CopyStreamCause refuses bytes e = ((¬ IsReadable bytes) × StreamCause bytes (stream_of bytes) None e) ⊎ IsHeldBack refuses bytes e

-- P holds of the bytes that a device gave, with any that may follow; if it
-- is memory, of all bytes ahead.
pub record HoldsOfGiven {R : Type 0} (gives : Gives R) (d : Device R) (a : R) (P : List ℕ → Type 0) : Type 0 where
  pub bytes : List ℕ
  pub stop : Stop
  pub left : R
  pub gave : gives a bytes stop left
  pub holds : (ys : List ℕ) → Follows stop ys → P (bytes ++ ys)
  pub ahead : IsTrue d.is_memory → P (after (d.memory a))

-- The chunks at the first blocks of a file are these.
pub record AreFirstBlocks (bytes : List ℕ) (m : FileMetadata) (cs : List Chunk) : Type 0 where
  pub known : Dictionaries
  pub dictionaries : (cs ≡ []) ⊎ (file_dictionaries m bytes ≡ Some known)
  pub chunks : FirstAre m known bytes (length cs) cs

-- The bytes are a file, of which a part has no meaning, or whose schema or
-- whose chunks can't be written.
pub record IsFileHeldBack (refuses : (List Chunk → Type 0) → Schema → Pairs → Fault → Type 0) (bytes : List ℕ) (e : Fault) : Type 0 where
  pub metadata : FileMetadata
  pub is : metadata_of bytes ≡ Some metadata
  pub refused : FilePartCause metadata bytes e ⊎ refuses (AreFirstBlocks bytes metadata) metadata.schema metadata.pairs e

-- Why bytes aren't copied as a file: they have no metadata, by an error in them, or
-- what they mean can't be written.
abbrev pub CopyFileCause : ((List Chunk → Type 0) → Schema → Pairs → Fault → Type 0) → List ℕ → Fault → Type 0
CopyFileCause refuses bytes e = ((metadata_of bytes ≡ None) × FileReason 0 bytes e) ⊎ IsFileHeldBack refuses bytes e

-- ---- a stream that is appended to a file

-- The schema of a stream with its ids isn't that of a file.
abbrev pub OtherSchemaCause : Schema → Schema → Fault → Type 0
OtherSchemaCause s t e = (e ≡ Argument FieldsDiffer) × ¬ AreSame (s.fields, s.metadata) s.ids (t.fields, t.metadata) t.ids

-- Why a stream isn't appended to a file with this metadata: its schema is another one, or
-- what is written of it is refused.
abbrev pub AppendedCause : {W : Type 0} → Device W → FileMetadata → W → (List Chunk → Type 0) → Schema → Fault → Type 0
AppendedCause d m file first s e = OtherSchemaCause s m.schema e ⊎ InBlocksCause d (GoesOn d m file) first e

-- Why a file can't be appended to: it has no metadata, by an error in its bytes,
-- or its metadata don't allow it.
abbrev pub AppendedFileCause : Bool → List ℕ → Fault → Type 0
AppendedFileCause known bytes e = ((metadata_of bytes ≡ None) × FileReason 0 bytes e) ⊎ ResumeCause known bytes e

-- A file was appended to, and the stream that was to be appended was refused.
pub record AppendedStreamCause {F R : Type 0} (d : Device F) (file : F) (gives : Gives R) (source : Device R) (input : R) (e : Fault) : Type 0 where
  pub metadata : FileMetadata
  pub is : metadata_of (d.memory file).whole ≡ Some metadata
  pub device : F
  pub same : (d.memory device).whole ≡ (d.memory file).whole
  pub refused : HoldsOfGiven gives source input (λ bytes. CopyStreamCause (AppendedCause d metadata device) bytes e)
