-- Chunks that are read from a stream or from a file.
-- (Arrow columnar format, "IPC Streaming Format" and "IPC File Format".)
use Rattle.std.specs.Prelude.{◌≡◌, ◌⊎◌, ℕ, ◌+◌, Bool, true, false, IsSome, IsTrue, List, [], ◌++◌, length, map, slice_get, take, Option, None, Some}
use Rattle.ipc_devices.specs.Gives.{Follows, Stop, ended, going, Gives}
use Rattle.ipc_devices.specs.declared.fault.Fault.{Fault}
use Rattle.ipc_stream_lemmas.specs.Agreement.{AreAlike}
use Rattle.ipc_model.specs.Batches.{Chunk, chosen, kinds}
use Rattle.ipc_model.specs.Entries.{Dictionaries}
use Rattle.ipc_model.specs.Files.{FileMetadata, all_of, chunks_at, file_chunk, file_dictionaries}
use Rattle.ipc_model.specs.Kinds.{count}
use Rattle.ipc_model.specs.Streams.{Known, Meant, faulty, waits, with_chunks}
use Rattle.ipc_readers.specs.ChosenStreams.{chosen_meaning}
use Rattle.ipc_readers.specs.Refusals.{IsStreamFault}
use Rattle.ipc_readers.specs.Streams.{Knows, begun_of, device_of, is_over, request_of}
use Rattle.ipc_readers.specs.declared.read.stream.reader.StreamReader.{StreamReader}
use Rattle.ipc_files.specs.Batches.{RecordReason}
use Rattle.ipc_files.specs.Dictionaries.{DictionariesReason}
use Rattle.ipc_file_readers.specs.Readers as files
use Rattle.ipc_file_readers.specs.declared.read.reader.state.FileReader.{FileReader}
use Rattle.ipc_round_trip.specs.Reading.{EndsNow}
use Rattle.ipc_convert.specs.Chunks.{BreaksAt, Moved}
use Rattle.ipc_convert.specs.Copies.{EndsWithMark}
use Rattle.ipc_convert.specs.declared.chunks.Ending.{Ending}
use Rattle.ipc_convert.specs.declared.chunks.Ending.TheVariants.{Over, Waits}
use Rattle.ipc_devices.specs.Device.{Device}

-- ---- a stream

-- What these bytes mean to a stream reader that knows s, after its partial prefix.
abbrev pub meant_by : {R : Type 0} → StreamReader R → Known → List ℕ → Meant
meant_by r s bytes = chosen_meaning (request_of r) s (begun_of r ++ bytes)

-- From state a to b a stream reader read these chunks from its device. Whatever bytes follow, they
-- are the first that the stream means. The messages were read whole: if there was no partial
-- prefix, there is none afterwards.
pub record GaveChunks {R : Type 0} (gives : Gives R) (a : StreamReader R) (cs : List Chunk) (b : StreamReader R) : Type 0 where
  pub unfinished : is_over b ≡ false
  pub asked : request_of b ≡ request_of a
  pub begun : begun_of a ≡ [] → begun_of b ≡ []
  pub bytes : List ℕ
  pub gave : gives (device_of a) bytes going (device_of b)
  pub rest : (s : Known) (ys : List ℕ) → Knows a s → (t : Known) × Knows b t × (meant_by a s (bytes ++ ys) ≡ with_chunks cs (meant_by b t ys))

-- These bytes mean no chunk to a stream reader, and that the stream waits for the next
-- message, without a partial prefix.
pub record WaitsForNext {R : Type 0} (a : StreamReader R) (bytes : List ℕ) : Type 0 where
  pub each : (s : Known) → Knows a s → (t : Known) × (meant_by a s bytes ≡ record { chunks = []; end = waits t [] })

-- How the device stopped after a stream that has ended (`over`) or
-- waits: no byte was left if it waits.
abbrev pub last_stop : Bool → Stop
last_stop true = going
last_stop false = ended

-- From state a to b a stream reader read no chunk. The stream has ended, and no byte after its mark
-- was read; or it waits, and all bytes were read.
pub record GaveNoMore {R : Type 0} (gives : Gives R) (a : StreamReader R) (over : Bool) (b : StreamReader R) : Type 0 where
  pub bytes : List ℕ
  pub gave : gives (device_of a) bytes (last_stop over) (device_of b)
  pub ends : (s : Known) → Knows a s → EndsNow over (meant_by a s bytes)
  pub no_more : over ≡ true → begun_of a ≡ [] → EndsWithMark (WaitsForNext a) bytes

-- From state a on the device gave bytes that mean no chunk and a fault, whatever follows them, and
-- the error is one of a stream's.
pub record GaveFault {R : Type 0} (gives : Gives R) (a : StreamReader R) (e : Fault) : Type 0 where
  pub bytes : List ℕ
  pub stop : Stop
  pub left : R
  pub gave : gives (device_of a) bytes stop left
  pub kind : IsStreamFault (request_of a) e
  pub means : (s : Known) (ys : List ℕ) → Knows a s → Follows stop ys → meant_by a s (bytes ++ ys) ≡ record { chunks = []; end = faulty }

-- The stream has ended, and doesn't wait.
abbrev pub is_end : Ending → Bool
is_end Waits = false
is_end Over = true

-- These chunks were read. From a stream that had ended there were none.
pub record CameOn {R : Type 0} (gives : Gives R) (a : StreamReader R) (cs : List Chunk) (b : StreamReader R) : Type 0 where
  pub over : is_over a ≡ true → (cs ≡ []) × (is_over b ≡ true)
  pub gave : is_over a ≡ false → GaveChunks gives a cs b

-- No chunk was read, and the stream ended so. If it had ended before, the device isn't read.
pub record EndedSo {R : Type 0} (gives : Gives R) (a : StreamReader R) (ending : Ending) (b : StreamReader R) : Type 0 where
  pub over : is_over a ≡ true → (ending ≡ Over) × (device_of b ≡ device_of a)
  pub gave : is_over a ≡ false → GaveNoMore gives a (is_end ending) b

-- A stream reader read these chunks.
abbrev pub StreamCame : {R : Type 0} → Gives R → Moved (StreamReader R)
StreamCame gives a cs b = CameOn gives a cs b

-- A stream reader read no chunk, and the stream ended so.
abbrev pub StreamStopped : {R : Type 0} → Gives R → StreamReader R → Ending → StreamReader R → Type 0
StreamStopped gives a ending b = EndedSo gives a ending b

-- An error comes from a stream that hasn't ended.
abbrev pub NextOfStreamCause : {R : Type 0} → Gives R → BreaksAt (StreamReader R)
NextOfStreamCause gives a e = (is_over a ≡ false) × GaveFault gives a e

-- ---- a file

-- The bytes of a file that is read.
abbrev pub bytes_of : {R : Type 0} → Device R → FileReader R → List ℕ
bytes_of d r = (d.memory (files.device_of r)).whole

-- No dictionaries were read, or those of the file.
abbrev pub AreOfFile : Option Dictionaries → Option Dictionaries → Type 0
AreOfFile None file = Unit {0}
AreOfFile (Some known) file = AreAlike file (Some known)

-- A file reader reads all columns and rows of each chunk.
pub record ReadsWhole {R : Type 0} (d : Device R) (r : FileReader R) : Type 0 where
  pub columns : files.asked_of r ≡ None
  pub rows : files.remaining_of r ≡ None
  pub known : AreOfFile (files.known_of r) (file_dictionaries (files.file_of r) (bytes_of d r))

-- The chunks at the first i blocks are these.
abbrev pub FirstAre : FileMetadata → Dictionaries → List ℕ → ℕ → List Chunk → Type 0
FirstAre m known bytes i cs = chunks_at m known (all_of bytes) None None (take i m.blocks) ≡ map Some cs

-- From state a to b a file reader read these chunks: they are those at the next blocks.
pub record GaveBlocks {R : Type 0} (d : Device R) (a : FileReader R) (cs : List Chunk) (b : FileReader R) : Type 0 where
  pub file : files.file_of b ≡ files.file_of a
  pub bytes : bytes_of d b ≡ bytes_of d a
  pub whole : ReadsWhole d b
  pub block : files.block_of b ≡ files.block_of a + length cs
  pub some : (cs ≡ []) ⊎ IsSome (file_dictionaries (files.file_of a) (bytes_of d a))
  pub chunks : (known : Dictionaries) (so_far : List Chunk) → file_dictionaries (files.file_of a) (bytes_of d a) ≡ Some known
      → FirstAre (files.file_of a) known (bytes_of d a) (files.block_of a) so_far
      → FirstAre (files.file_of a) known (bytes_of d a) (files.block_of b) (so_far ++ cs)

-- From state a to b a file reader read these chunks from the same device: in memory those at the
-- next blocks, if it reads all of each chunk.
pub record CameBlocks {R : Type 0} (d : Device R) (a : FileReader R) (cs : List Chunk) (b : FileReader R) : Type 0 where
  pub gave : IsTrue d.is_memory → ReadsWhole d a → GaveBlocks d a cs b
  pub names : d.names (files.device_of b) ≡ d.names (files.device_of a)

-- A file reader read these chunks.
abbrev pub FileCame : {R : Type 0} → Device R → Moved (FileReader R)
FileCame d a cs b = CameBlocks d a cs b

-- A file reader is after its last block, and no chunk comes. It has the same device.
abbrev pub FileStopped : {R : Type 0} → Device R → FileReader R → Ending → FileReader R → Type 0
FileStopped d a ending b = (ending ≡ Over) × (files.is_over a ≡ true) × (d.names (files.device_of b) ≡ d.names (files.device_of a))

-- The dictionaries of a file have no meaning, and the error is that of the
-- first faulty dictionary block.
pub record FileDictionariesCause (m : FileMetadata) (bytes : List ℕ) (e : Fault) : Type 0 where
  pub none : file_dictionaries m bytes ≡ None
  pub reason : DictionariesReason m bytes [] m.dictionaries e

-- A block of a file has no chunk, and the error is that of its message.
pub record FileChunkCause (m : FileMetadata) (bytes : List ℕ) (e : Fault) : Type 0 where
  pub block : ℕ
  pub known : Dictionaries
  pub dictionaries : file_dictionaries m bytes ≡ Some known
  pub none : file_chunk m known bytes None None block ≡ None
  pub reason : RecordReason m (chosen None (count (kinds m.schema))) bytes (slice_get m.blocks block) e

-- The dictionaries of a file, or one of its blocks, have no meaning, and the error says why.
abbrev pub FilePartCause : FileMetadata → List ℕ → Fault → Type 0
FilePartCause m bytes e = FileDictionariesCause m bytes e ⊎ FileChunkCause m bytes e

-- An error of a file reader that reads all of each chunk: the
-- dictionaries or a block have no meaning.
abbrev pub NextOfFileCause : {R : Type 0} → Device R → BreaksAt (FileReader R)
NextOfFileCause d a e = IsTrue d.is_memory → ReadsWhole d a → FilePartCause (files.file_of a) (bytes_of d a) e
