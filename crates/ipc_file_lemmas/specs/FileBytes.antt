-- The bytes that a file writer sends, and what they mean.
-- (Arrow columnar format, "IPC File Format"; File.fbs.)
use Rattle.std.specs.Prelude.{◌≡◌, ℕ, pos, ◌+◌, ◌^◌, ◌<◌, ◌≤◌, max, List, [], ◌∷◌, ◌++◌, length, Some}
use Rattle.lower.specs.TypeTrees.{Pairs, FieldTrees}
use Rattle.lower_types.specs.declared.Endianness.{Endianness}
use Rattle.lower_arrays.specs.Layouts.{Layout, layouts}
use Rattle.lower_arrays.specs.Slots.{AreArrays}
use Rattle.ipc_base.specs.IdTrees.{IdTrees}
use Rattle.ipc_table_views.specs.declared.file.Block.{Block}
use Rattle.ipc_model.specs.Batches.{Chunk, Schema}
use Rattle.ipc_model.specs.Entries.{Dictionaries}
use Rattle.ipc_model.specs.Files.{FileMetadata, MeansFile, all_of, magic}
use Rattle.ipc_model.specs.Offers.{FilledPlace, IsAcceptedChunk, offer_of}
use Rattle.ipc_model.specs.Schemas.{head_of}
use Rattle.ipc_model.specs.Streams.{Head}
use Rattle.ipc_model.specs.Writable.{IsWritable}
use Rattle.ipc_model.specs.Writers.{IsFinished}
use Rattle.ipc_model.specs.WrittenLaws.{prefix}
use Rattle.ipc_stream_lemmas.specs.Blocks.{IsOfVersion}
use Rattle.ipc_stream_lemmas.specs.Bodies.{ColumnsMessage, ValuesMessage}
use Rattle.ipc_stream_lemmas.specs.Chunks.{ListsUnwritten}
use Rattle.ipc_stream_lemmas.specs.FileChunks.{HasChunks}
use Rattle.ipc_stream_lemmas.specs.Kept.{OfferKeeps}
use Rattle.ipc_stream_lemmas.specs.Messages.{chunk_written, message_bytes}
use Rattle.ipc_stream_lemmas.specs.Places.{head_written}
use Rattle.ipc_stream_lemmas.specs.Remembered.{Remembered, filled_of, nothing_remembered}
use Rattle.ipc_stream_lemmas.specs.Runs.{IsOpen}
use Rattle.ipc_footer_write.specs.Footers.{HasFooter, MeansFooter, file_written}

-- ---- the bytes that are sent

-- The first bytes of a file: ARROW1, and two zeros.
abbrev pub file_head : List ℕ
file_head = magic ++ 0 ∷ 0 ∷ []

-- A message that is sent.
pub record Sent : Type 0 where
  pub metadata : List ℕ
  pub body : List ℕ

-- The bytes of a message that is sent.
abbrev pub sent_bytes : Sent → List ℕ
sent_bytes w = message_bytes w.metadata w.body

-- The bytes of some messages, one after the other.
abbrev pub all_bytes : List Sent → List ℕ
all_bytes [] = []
all_bytes (w ∷ ws) = sent_bytes w ++ all_bytes ws

-- The block of a message that is sent at an offset: its metadata length
-- counts the prefix and the metadata.
abbrev pub block_at : ℕ → Sent → Block
block_at place w = record { offset = pos place; meta_data_length = pos (8 + length w.metadata); body_length = pos (length w.body) }

-- The blocks of messages that are sent one after the other from an offset on.
abbrev pub blocks_at : ℕ → List Sent → List Block
blocks_at place [] = []
blocks_at place (w ∷ ws) = block_at place w ∷ blocks_at (place + length (sent_bytes w)) ws

-- The message of the values at a dictionary field, of version 5.
pub record IsValues (order : Endianness) (p : FilledPlace) (w : Sent) : Type 0 where
  pub message : ValuesMessage order p
  pub metadata_is : message.metadata ≡ w.metadata
  pub body_is : message.body ≡ w.body
  pub version : IsOfVersion message.metadata 0

-- There is a message for each of these dictionary fields, in order.
abbrev pub AreValueMessages : Endianness → List FilledPlace → List Sent → Type 0
AreValueMessages order [] [] = Unit {0}
AreValueMessages order [] (w ∷ ws) = ⊥
AreValueMessages order (p ∷ ps) [] = ⊥
AreValueMessages order (p ∷ ps) (w ∷ ws) = IsValues order p w × AreValueMessages order ps ws

-- The message of some columns, of version 5.
pub record IsColumns (order : Endianness) (columns : List Layout) (w : Sent) : Type 0 where
  pub message : ColumnsMessage order columns
  pub metadata_is : message.metadata ≡ w.metadata
  pub body_is : message.body ≡ w.body
  pub version : IsOfVersion message.metadata 0

-- What is sent for a chunk, given these remembered dictionaries: the messages of those that must be
-- sent, and that of the columns. The columns are accepted, and no dictionary is replaced.
pub record SendsChunk (order : Endianness) (fs : FieldTrees) (is : IdTrees) (before after : Remembered) (columns : List Layout) (ws : List Sent) (own : Sent) : Type 0 where
  pub arrays : AreArrays (layouts columns)
  pub accepted : IsAcceptedChunk fs is columns
  pub kept : OfferKeeps before (offer_of columns is)
  pub list : List FilledPlace
  pub lists : ListsUnwritten before (filled_of (layouts columns) is) list after
  pub values : AreValueMessages order list ws
  pub own_is : IsColumns order columns own

-- The bytes that are sent for a chunk.
abbrev pub chunk_bytes : List Sent → Sent → List ℕ
chunk_bytes ws own = all_bytes ws ++ sent_bytes own

-- ---- files

-- The metadata that a file with these blocks will have.
abbrev pub file_so_far : Schema → Pairs → List Block → List Block → ℕ → FileMetadata
file_so_far schema pairs ds bs size = record { schema = schema; pairs = pairs; dictionaries = ds; blocks = bs; size = size }

-- A file without a footer yet, which will have at least `size` bytes. Its dictionaries are those
-- that its writer remembers, and its records mean these chunks.
pub record HoldsFile (schema : Schema) (size : ℕ) (bytes : List ℕ) (ds bs : List Block) (r : Remembered) (cs : List Chunk) : Type 0 where
  pub chunks : (pairs : Pairs) → HasChunks (file_so_far schema pairs ds bs (max size (length bytes))) (all_of bytes) r cs

-- Theorem: a file has no chunk after its first bytes, whatever these are.
abbrev pub FileStartLaw : Type 0
FileStartLaw = (schema : Schema) (size : ℕ) (bytes : List ℕ) → HoldsFile schema size bytes [] [] nothing_remembered []

-- Theorem: bytes that are added after a file without a footer change nothing.
abbrev pub FileGrowLaw : Type 0
FileGrowLaw = (schema : Schema) (size : ℕ) (bytes more : List ℕ) (ds bs : List Block) (r : Remembered) (cs : List Chunk) → HoldsFile schema size bytes ds bs r cs
    → HoldsFile schema size (bytes ++ more) ds bs r cs

-- Theorem: nothing changes if the file will be longer.
abbrev pub FileSizeLaw : Type 0
FileSizeLaw = (schema : Schema) (size more : ℕ) (bytes : List ℕ) (ds bs : List Block) (r : Remembered) (cs : List Chunk) → size ≤ more
    → HoldsFile schema size bytes ds bs r cs → HoldsFile schema more bytes ds bs r cs

-- Theorem: the bytes that are sent for a chunk add just this chunk.
abbrev pub FileWriteLaw : Type 0
FileWriteLaw = (order : Endianness) (fs : FieldTrees) (metadata : Pairs) (is : IdTrees) (size : ℕ) (bytes : List ℕ) (ds bs : List Block) (before after : Remembered) (cs : List Chunk)
    (columns : List Layout) (ws : List Sent) (own : Sent) → IsWritable fs metadata is
    → HoldsFile (head_written order fs metadata is).schema size bytes ds bs before cs → SendsChunk order fs is before after columns ws own
    → HoldsFile (head_written order fs metadata is).schema size (bytes ++ chunk_bytes ws own) (ds ++ blocks_at (length bytes) ws)
    (bs ++ block_at (length bytes + length (all_bytes ws)) own ∷ []) after (cs ++ chunk_written columns ∷ [])

-- The bytes are a whole file with this metadata and these chunks.
pub record IsFile (bytes : List ℕ) (m : FileMetadata) (cs : List Chunk) : Type 0 where
  pub known : Dictionaries
  pub means : MeansFile bytes m known cs

-- Theorem: a footer makes it a whole file, whatever bytes are before it, if the
-- file is as long as it has to be.
abbrev pub FileEndLaw : Type 0
FileEndLaw = (order : Endianness) (fs : FieldTrees) (metadata : Pairs) (is : IdTrees) (pairs : Pairs) (size : ℕ) (bytes rest whole footer : List ℕ) (ds bs : List Block) (r : Remembered) (cs : List Chunk)
    → HoldsFile (head_written order fs metadata is).schema size bytes ds bs r cs
    → whole ≡ bytes ++ rest → size ≤ length whole → HasFooter whole footer → length footer < 2 ^ 31 → MeansFooter footer (file_written order fs metadata is pairs ds bs)
    → IsFile whole (file_written order fs metadata is pairs ds bs (length whole)) cs

-- ---- without the first eight bytes

-- After the first eight bytes there is a stream of these chunks, which waits for more.
pub record HasStreamBehind (bytes : List ℕ) (h : Head) (r : Remembered) (cs : List Chunk) : Type 0 where
  pub stream : List ℕ
  pub bytes_are : bytes ≡ file_head ++ stream
  pub goes_on : IsOpen stream h r cs

-- After the first eight bytes there is a finished stream of these chunks.
pub record EndsStreamBehind (bytes : List ℕ) (h : Head) (cs : List Chunk) : Type 0 where
  pub stream : List ℕ
  pub bytes_are : bytes ≡ file_head ++ stream
  pub finished : IsFinished stream h cs

-- Theorem: without its first eight bytes, a file that was started is a stream that was started.
abbrev pub StreamStartLaw : Type 0
StreamStartLaw = (metadata : List ℕ) (h : Head) → 0 < length metadata → length metadata < 2 ^ 31 → head_of metadata ≡ Some h
    → HasStreamBehind (file_head ++ message_bytes metadata []) h nothing_remembered []

-- Theorem: without its first eight bytes, a file with one more chunk
-- is a stream with one more chunk.
abbrev pub StreamWriteLaw : Type 0
StreamWriteLaw = (order : Endianness) (fs : FieldTrees) (metadata : Pairs) (is : IdTrees) (bytes : List ℕ) (before after : Remembered) (cs : List Chunk)
    (columns : List Layout) (ws : List Sent) (own : Sent) → IsWritable fs metadata is
    → HasStreamBehind bytes (head_written order fs metadata is) before cs → SendsChunk order fs is before after columns ws own
    → HasStreamBehind (bytes ++ chunk_bytes ws own) (head_written order fs metadata is) after (cs ++ chunk_written columns ∷ [])

-- Theorem: the end-of-stream mark finishes the stream in a file, whatever bytes come after it.
abbrev pub StreamEndLaw : Type 0
StreamEndLaw = (bytes rest : List ℕ) (h : Head) (r : Remembered) (cs : List Chunk) → HasStreamBehind bytes h r cs
    → EndsStreamBehind (bytes ++ (prefix 0 ++ rest)) h cs
