-- Streams and files that are copied.
-- (Arrow columnar format, "IPC Streaming Format" and "IPC File Format".)
use Rattle.std.specs.Prelude.{◌≡◌, ◌⊎◌, ℕ, IsTrue, List, [], ◌++◌, map, None, Some}
use Rattle.lower.specs.Normal.{norm_schema}
use Rattle.lower.specs.TypeTrees.{FieldTrees, Pairs}
use Rattle.lower_types.specs.declared.Endianness.{Endianness}
use Rattle.ipc_base.specs.IdTrees.{IdTrees}
use Rattle.ipc_devices.specs.Device.{Device, Memory, before}
use Rattle.ipc_devices.specs.Gives.{Gives, Stop, ended, going}
use Rattle.ipc_model.specs.Batches.{Chunk, Schema}
use Rattle.ipc_model.specs.Entries.{Dictionaries}
use Rattle.ipc_model.specs.Files.{FileMetadata, all_of, chunks_at, file_dictionaries, metadata_of}
use Rattle.ipc_model.specs.Frame.{frame, mark}
use Rattle.ipc_model.specs.Streams.{End, Head, faulty, marked, waits}
use Rattle.ipc_model.specs.WholeStreams.{Stream, stream_of}
use Rattle.ipc_model.specs.Writers.{IsFinished}
use Rattle.ipc_schema_write.specs.WriterAnswers.{written_head_as}
use Rattle.ipc_write.specs.Agreement.{WasStarted}
use Rattle.ipc_file_lemmas.specs.Appending.{normal_chunk}
use Rattle.ipc_file_write.specs.Calls.{IsWrittenFile}
use Rattle.ipc_sessions.specs.Sessions.{GainsChunks, KeepsOld}

-- ---- what is read

-- The chunks at the blocks of a file are these. Without blocks its dictionaries aren't read.
pub record HasBlockChunks (bytes : List ℕ) (m : FileMetadata) (cs : List Chunk) : Type 0 where
  pub known : Dictionaries
  pub dictionaries : (m.blocks ≡ []) ⊎ (file_dictionaries m bytes ≡ Some known)
  pub chunks : chunks_at m known (all_of bytes) None None m.blocks ≡ map Some cs

-- The bytes end with the end-of-stream mark, and P holds of the bytes before it.
pub record EndsWithMark (P : List ℕ → Type 0) (bytes : List ℕ) : Type 0 where
  pub front : List ℕ
  pub last : List ℕ
  pub parts : bytes ≡ front ++ last
  pub is_front : P front
  pub is_mark : frame last ≡ mark []

-- These bytes of a valid stream with this end were read from a device. If it ends
-- with the mark, they are the stream up to the mark, and no byte after it; if it
-- waits, they are all that there were.
abbrev pub TakenToEnd : End → Stream → List ℕ → Stop → Type 0
TakenToEnd marked stream bytes stop = EndsWithMark (λ front. WasStarted front stream.head stream.meant.chunks) bytes × (stop ≡ going)
TakenToEnd (waits known begun) stream bytes stop = stop ≡ ended
TakenToEnd faulty stream bytes stop = ⊥

-- ---- what is written

-- A schema in its normal form, with the same metadata and ids, in this byte order.
abbrev pub normal_head : Endianness → Schema → Head
normal_head order s = written_head_as order s.fields s.metadata s.ids

-- Some chunks, with their types in the normal form.
abbrev pub normal_chunks : List Chunk → List Chunk
normal_chunks cs = map normal_chunk cs

-- The bytes are a stream of this head and these chunks, with this end: it has the mark,
-- or waits for the next message.
abbrev pub EndsSo : End → List ℕ → Head → List Chunk → Type 0
EndsSo marked bytes head cs = IsFinished bytes head cs
EndsSo (waits known begun) bytes head cs = WasStarted bytes head cs
EndsSo faulty bytes head cs = ⊥

-- A stream was written after the bytes of a memory: of this schema in the normal form with its ids,
-- and of exactly these chunks. It has this end.
pub record WritesStream (order : Endianness) (old new : Memory) (schema : Schema) (cs : List Chunk) (end : End) : Type 0 where
  pub bytes : List ℕ
  pub written : before new ≡ before old ++ bytes
  pub same : EndsSo end bytes (normal_head order schema) (normal_chunks cs)

-- A file was written after the bytes of a memory: of this schema in the normal form with its ids,
-- these pairs, and exactly these chunks.
pub record WritesFile (order : Endianness) (old new : Memory) (schema : Schema) (pairs : Pairs) (cs : List Chunk) : Type 0 where
  pub bytes : List ℕ
  pub written : before new ≡ before old ++ bytes
  pub same : IsWrittenFile bytes order schema.fields schema.metadata schema.ids pairs (normal_chunks cs)

-- Two schemas with their ids are the same in the normal form.
abbrev pub AreSame : FieldTrees × Pairs → IdTrees → FieldTrees × Pairs → IdTrees → Type 0
AreSame s is t js = (norm_schema s ≡ norm_schema t) × (is ≡ js)

-- These chunks, in the normal form, were appended to a file with the same schema. The old
-- metadata still give the old chunks.
pub record AppendsTo (old new : List ℕ) (schema : Schema) (cs : List Chunk) : Type 0 where
  pub metadata : FileMetadata
  pub read : metadata_of old ≡ Some metadata
  pub same : AreSame (schema.fields, schema.metadata) schema.ids (metadata.schema.fields, metadata.schema.metadata) metadata.schema.ids
  pub adds : GainsChunks old new (normal_chunks cs)
  pub keeps : KeepsOld metadata old new

-- ---- copies

-- The bytes read from a device are a valid stream, and no byte more.
pub record TakesStream {R : Type 0} (gives : Gives R) (a b : R) : Type 0 where
  pub bytes : List ℕ
  pub stop : Stop
  pub gave : gives a bytes stop b
  pub stream : Stream
  pub read : stream_of bytes ≡ Some stream
  pub whole : TakenToEnd stream.meant.end stream bytes stop

-- `Writes` holds of the schema, the chunks and the end of the stream that was read.
pub record CopiesStream {R : Type 0} (gives : Gives R) (a b : R) (Writes : Schema → List Chunk → End → Type 0) : Type 0 where
  pub takes : TakesStream gives a b
  pub written : Writes takes.stream.head.schema takes.stream.meant.chunks takes.stream.meant.end

-- The bytes are a file, and `Writes` holds of its schema, its pairs and the
-- chunks at its blocks, in order.
pub record CopiesFile (bytes : List ℕ) (Writes : Schema → Pairs → List Chunk → Type 0) : Type 0 where
  pub metadata : FileMetadata
  pub read : metadata_of bytes ≡ Some metadata
  pub chunks : List Chunk
  pub has : HasBlockChunks bytes metadata chunks
  pub written : Writes metadata.schema metadata.pairs chunks

-- The file at offset 0 of a device that is memory was read, and `Writes` holds of its
-- schema, its pairs and its chunks.
abbrev pub CopiesFileOf : {F : Type 0} → Device F → F → (Schema → Pairs → List Chunk → Type 0) → Type 0
CopiesFileOf d file Writes = IsTrue d.is_memory → (d.memory file).place ≡ 0 → CopiesFile (d.memory file).whole Writes
