-- Chunks of a file, one after the other: the blocks of their dictionaries and of their records.
-- (Arrow columnar format, "IPC File Format".)
use Rattle.std.specs.Prelude.{◌≡◌, ◌⊎◌, ℕ, ℤ, List, [], ◌∷◌, ◌++◌, Some}
use Rattle.lower.specs.TypeTrees.{Pairs, FieldTrees}
use Rattle.lower_types.specs.declared.Endianness.{Endianness}
use Rattle.lower_arrays.specs.Layouts.{Layout, layouts}
use Rattle.lower_arrays.specs.Slots.{AreArrays}
use Rattle.ipc_base.specs.IdTrees.{IdTrees}
use Rattle.ipc_table_views.specs.declared.file.Block.{Block}
use Rattle.ipc_model.specs.Batches.{Chunk}
use Rattle.ipc_model.specs.Entries.{Dictionaries}
use Rattle.ipc_model.specs.FileFollowLaws.{BlocksMean}
use Rattle.ipc_model.specs.Files.{FileMetadata}
use Rattle.ipc_model.specs.Offers.{FilledPlace, offer_of, IsAcceptedChunk}
use Rattle.ipc_model.specs.Writable.{IsWritable}
use Rattle.ipc_stream_lemmas.specs.Blocks.{StandsAt, IsOfVersion}
use Rattle.ipc_stream_lemmas.specs.Bodies.{ValuesMessage, ColumnsMessage}
use Rattle.ipc_stream_lemmas.specs.Chunks.{ListsUnwritten}
use Rattle.ipc_stream_lemmas.specs.Kept.{OfferKeeps}
use Rattle.ipc_stream_lemmas.specs.Messages.{chunk_written}
use Rattle.ipc_stream_lemmas.specs.Places.{head_written}
use Rattle.ipc_stream_lemmas.specs.Remembered.{Remembered, remembering, KnowsRemembered, dictionary_of, Filled, filled_place, filled_of}

-- ---- messages at blocks. `seen b` are the bytes that are read for block b.

-- The message of some values, of version 5, is at block b.
pub record ValuesAt (m : FileMetadata) (seen : Block → List ℕ) (order : Endianness) (p : FilledPlace) (b : Block) : Type 0 where
  pub message : ValuesMessage order p
  pub stands : StandsAt m (seen b) b message.metadata message.body
  pub version : IsOfVersion message.metadata 0

-- The message of some columns, of version 5, is at block b.
pub record ColumnsAt (m : FileMetadata) (seen : Block → List ℕ) (order : Endianness) (columns : List Layout) (b : Block) : Type 0 where
  pub message : ColumnsMessage order columns
  pub stands : StandsAt m (seen b) b message.metadata message.body
  pub version : IsOfVersion message.metadata 0

-- The message of the values at each dictionary field is at a block, or there
-- is none if they are remembered.
abbrev pub StandAt : FileMetadata → (Block → List ℕ) → Endianness → Remembered → List Filled → List Block → Remembered → Type 0
StandAt m seen order r [] bs after = (bs ≡ []) × ((i : ℤ) → after i ≡ r i)
StandAt m seen order r (p ∷ ps) bs after =
    ((r p.id ≡ Some (dictionary_of p.values)) × StandAt m seen order r ps bs after)
    ⊎ ((b : Block) × (rest : List Block) × ValuesAt m seen order (filled_place p) b × (bs ≡ b ∷ rest)
    × StandAt m seen order (remembering p.id (dictionary_of p.values) r) ps rest after)

-- There is one message at each block, in order.
abbrev pub StandInOrder : FileMetadata → (Block → List ℕ) → Endianness → List FilledPlace → List Block → Type 0
StandInOrder m seen order [] bs = bs ≡ []
StandInOrder m seen order (p ∷ ps) bs =
    (b : Block) × (rest : List Block) × ValuesAt m seen order p b × (bs ≡ b ∷ rest) × StandInOrder m seen order ps rest

-- Theorem: the blocks of the values to write are those of the dictionary fields.
abbrev pub ListedBlocksLaw : Type 0
ListedBlocksLaw = (m : FileMetadata) (seen : Block → List ℕ) (order : Endianness) (r : Remembered) (ps : List Filled) (ws : List FilledPlace) (after : Remembered)
    (bs : List Block) → ListsUnwritten r ps ws after → StandInOrder m seen order ws bs → StandAt m seen order r ps bs after

-- ---- a file without a footer yet

-- The dictionaries of a file are those that its writer remembers, and
-- its records mean these chunks.
pub record HasChunks (m : FileMetadata) (seen : Block → List ℕ) (r : Remembered) (cs : List Chunk) : Type 0 where
  pub known : Dictionaries
  pub agrees : KnowsRemembered r known
  pub blocks : BlocksMean m seen known cs

-- The file with the blocks of more dictionaries, and that of a record.
abbrev pub with_blocks : FileMetadata → List Block → Block → FileMetadata
with_blocks m bs b = record { schema = m.schema; pairs = m.pairs; dictionaries = m.dictionaries ++ bs; blocks = m.blocks ++ b ∷ []; size = m.size }

-- Theorem: an accepted chunk of a writable schema that replaces no dictionary adds just itself, in
-- either byte order: all earlier chunks stay.
abbrev pub FileChunkLaw : Type 0
FileChunkLaw = (order : Endianness) (fs : FieldTrees) (metadata : Pairs) (is : IdTrees) (m : FileMetadata) (seen : Block → List ℕ)
    (before after : Remembered) (cs : List Chunk) (columns : List Layout) (bs : List Block) (b : Block)
    → m.schema ≡ (head_written order fs metadata is).schema → HasChunks m seen before cs
    → IsWritable fs metadata is → AreArrays (layouts columns) → IsAcceptedChunk fs is columns → OfferKeeps before (offer_of columns is)
    → StandAt m seen order before (filled_of (layouts columns) is) bs after → ColumnsAt m seen order columns b
    → HasChunks (with_blocks m bs b) seen after (cs ++ chunk_written columns ∷ [])
