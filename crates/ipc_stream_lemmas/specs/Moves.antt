-- What dictionary messages do to a reader, in step with what their writer remembers.
-- They are stated by what they do to any reader that knows enough, so an omitted
-- message is no case of its own.
-- (Arrow columnar format, "Dictionary messages".)
use Rattle.std.specs.Prelude.{◌≡◌, ◌⊎◌, ℕ, ℤ, ◌+◌, ◌≤◌, List, [], ◌∷◌, ◌++◌, length, Some}
use Rattle.lower_arrays.specs.Layouts.{Layout, layouts}
use Rattle.ipc_model.specs.Batches.{Chunk}
use Rattle.ipc_model.specs.Streams.{Head, Known, most_dictionaries, with_chunks, meaning}
use Rattle.ipc_stream_lemmas.specs.Messages.{message_bytes, MeansValues, MeansColumns, chunk_written}
use Rattle.ipc_stream_lemmas.specs.Order.{AreConsistent}
use Rattle.ipc_stream_lemmas.specs.Remembered.{Remembered, remembering, KnowsRemembered, dictionary_of, Filled, filled_of, Finds}

-- ---- dictionaries

-- A reader that knew s has read these bytes. It knows what is remembered now, at most n of their
-- messages were dictionaries, and the bytes after them are read next.
pub record MovedReader (h : Head) (bytes : List ℕ) (n : ℕ) (after : Remembered) (s : Known) : Type 0 where
  pub known : Known
  pub agrees : KnowsRemembered after known.dictionaries
  pub few : known.count ≤ s.count + n
  pub means : (rest : List ℕ) → meaning h s (bytes ++ rest) ≡ meaning h known rest

-- These bytes take each reader that knows what was remembered before to one that knows what is
-- remembered afterwards, by at most n dictionary messages.
pub record Moves (h : Head) (bytes : List ℕ) (n : ℕ) (before after : Remembered) : Type 0 where
  pub moves : (s : Known) → KnowsRemembered before s.dictionaries → s.count + n ≤ most_dictionaries → MovedReader h bytes n after s

-- ---- a writer's messages

-- The messages at some dictionary fields: the values at each field, or none if they are remembered.
abbrev pub SendsPlaces : Head → Remembered → List Filled → List ℕ → Remembered → Type 0
SendsPlaces h m [] bytes after = (bytes ≡ []) × ((i : ℤ) → after i ≡ m i)
SendsPlaces h m (p ∷ ps) bytes after =
    ((m p.id ≡ Some (dictionary_of p.values)) × SendsPlaces h m ps bytes after)
    ⊎ ((metadata body rest : List ℕ) × MeansValues h p metadata body × (bytes ≡ message_bytes metadata body ++ rest)
    × SendsPlaces h (remembering p.id (dictionary_of p.values) m) ps rest after)

-- After the messages at a chunk's dictionary fields, a reader knows what is
-- remembered, and the values at each field.
pub record SendsLike (h : Head) (ps : List Filled) (bytes : List ℕ) (before after : Remembered) : Type 0 where
  pub moves : Moves h bytes (length ps) before after
  pub found : Finds after ps

-- Theorem: dictionary messages, inner before outer, omitted or not where their values are
-- remembered, take each reader along with its writer.
abbrev pub MovesLaw : Type 0
MovesLaw = (h : Head) (columns : List Layout) (before after : Remembered) (bytes : List ℕ)
    → AreConsistent (filled_of (layouts columns) h.schema.ids)
    → SendsPlaces h before (filled_of (layouts columns) h.schema.ids) bytes after
    → SendsLike h (filled_of (layouts columns) h.schema.ids) bytes before after

-- ---- chunks

-- A reader that knew s reads these bytes as one chunk, and knows what is remembered afterwards.

pub record ReadsChunk (h : Head) (bytes : List ℕ) (after : Remembered) (c : Chunk) (s : Known) : Type 0 where
  pub known : Known
  pub agrees : KnowsRemembered after known.dictionaries
  pub none : known.count ≡ 0
  pub means : (rest : List ℕ) → meaning h s (bytes ++ rest) ≡ with_chunks (c ∷ []) (meaning h known rest)

-- The messages of one chunk, whatever follows them: each reader that knows what was remembered
-- before reads just this chunk, and then knows what is remembered afterwards.
pub record MeansChunk (h : Head) (bytes : List ℕ) (before after : Remembered) (c : Chunk) : Type 0 where
  pub reads : (s : Known) → KnowsRemembered before s.dictionaries → s.count ≡ 0 → ReadsChunk h bytes after c s

-- The messages of a chunk of columns: those at its dictionary fields, and that of the columns.
pub record SendsChunk (h : Head) (before : Remembered) (columns : List Layout) (bytes : List ℕ) (after : Remembered) : Type 0 where
  pub dictionaries : List ℕ
  pub metadata : List ℕ
  pub body : List ℕ
  pub sent : SendsPlaces h before (filled_of (layouts columns) h.schema.ids) dictionaries after
  pub record_means : MeansColumns h columns metadata body
  pub bytes_are : bytes ≡ dictionaries ++ message_bytes metadata body

-- Theorem: the messages at a chunk's dictionary fields and the record
-- after them are read as the chunk.
abbrev pub ChunkLaw : Type 0
ChunkLaw = (h : Head) (columns : List Layout) (before after : Remembered) (bytes : List ℕ)
    → AreConsistent (filled_of (layouts columns) h.schema.ids) → length (filled_of (layouts columns) h.schema.ids) ≤ most_dictionaries
    → SendsChunk h before columns bytes after → MeansChunk h bytes before after (chunk_written columns)
