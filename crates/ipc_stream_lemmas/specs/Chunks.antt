-- Chunks by the messages that their writer sends: tables and bodies.
-- (Arrow columnar format, "IPC Streaming Format".)
use Rattle.std.specs.Prelude.{◌≡◌, ◌⊎◌, ℕ, ℤ, List, [], ◌∷◌, ◌++◌, map, Some}
use Rattle.lower.specs.TypeTrees.{Pairs, FieldTrees}
use Rattle.lower_types.specs.declared.Endianness.{Endianness}
use Rattle.lower_arrays.specs.Layouts.{Layout, layouts}
use Rattle.lower_arrays.specs.Slots.{AreArrays}
use Rattle.ipc_base.specs.IdTrees.{IdTrees}
use Rattle.ipc_model.specs.Accepted.{fields_of, MayBeEncoded}
use Rattle.ipc_model.specs.Offers.{FilledPlace, offer_of, IsAcceptedChunk}
use Rattle.ipc_model.specs.Streams.{Head}
use Rattle.ipc_model.specs.Writable.{IsWritable}
use Rattle.ipc_stream_lemmas.specs.Bodies.{ValuesMessage, ColumnsMessage}
use Rattle.ipc_stream_lemmas.specs.Messages.{message_bytes, chunk_written}
use Rattle.ipc_stream_lemmas.specs.Moves.{MeansChunk}
use Rattle.ipc_stream_lemmas.specs.Places.{head_written}
use Rattle.ipc_stream_lemmas.specs.Remembered.{Remembered, remembering, dictionary_of, Filled, filled_place, filled_of}

-- ---- which dictionaries are sent

-- At each dictionary field the values must be written, or they are remembered;
-- `ws` are those to write, in order.
abbrev pub ListsUnwritten : Remembered → List Filled → List FilledPlace → Remembered → Type 0
ListsUnwritten m [] ws after = (ws ≡ []) × ((i : ℤ) → after i ≡ m i)
ListsUnwritten m (p ∷ ps) ws after =
    ((m p.id ≡ Some (dictionary_of p.values)) × ListsUnwritten m ps ws after)
    ⊎ ((rest : List FilledPlace) × (ws ≡ filled_place p ∷ rest) × ListsUnwritten (remembering p.id (dictionary_of p.values) m) ps rest after)

-- There is a message for each of these fields' values, in order.
abbrev pub HasMessages : Endianness → List FilledPlace → List ℕ → Type 0
HasMessages order [] bytes = bytes ≡ []
HasMessages order (p ∷ ps) bytes =
    (w : ValuesMessage order p) × (rest : List ℕ) × (bytes ≡ message_bytes w.metadata w.body ++ rest) × HasMessages order ps rest

-- The messages at some dictionary fields, by their tables and bodies: the values at each field,
-- or none if they are remembered.
abbrev pub SendsBodies : Endianness → Remembered → List Filled → List ℕ → Remembered → Type 0
SendsBodies order m [] bytes after = (bytes ≡ []) × ((i : ℤ) → after i ≡ m i)
SendsBodies order m (p ∷ ps) bytes after =
    ((m p.id ≡ Some (dictionary_of p.values)) × SendsBodies order m ps bytes after)
    ⊎ ((w : ValuesMessage order (filled_place p)) × (rest : List ℕ) × (bytes ≡ message_bytes w.metadata w.body ++ rest)
    × SendsBodies order (remembering p.id (dictionary_of p.values) m) ps rest after)

-- Theorem: the messages of the values to write are those that are sent at these fields.
abbrev pub ListedLaw : Type 0
ListedLaw = (order : Endianness) (m : Remembered) (ps : List Filled) (ws : List FilledPlace) (after : Remembered) (bytes : List ℕ)
    → ListsUnwritten m ps ws after → HasMessages order ws bytes → SendsBodies order m ps bytes after

-- ---- chunks

-- The messages of a chunk: those at its dictionary fields, and that of its columns.
pub record WritesChunk (h : Head) (before : Remembered) (columns : List Layout) (bytes : List ℕ) (after : Remembered) : Type 0 where
  pub dictionaries : List ℕ
  pub sent : SendsBodies h.schema.order before (filled_of (layouts columns) h.schema.ids) dictionaries after
  pub own : ColumnsMessage h.schema.order columns
  pub bytes_are : bytes ≡ dictionaries ++ message_bytes own.metadata own.body

-- Theorem: the messages of an accepted chunk of a writable schema mean just that chunk, in either
-- byte order and whatever follows them. A reader then knows what is remembered afterwards.
abbrev pub WrittenChunkLaw : Type 0
WrittenChunkLaw = (order : Endianness) (fs : FieldTrees) (metadata : Pairs) (is : IdTrees) (columns : List Layout) (before after : Remembered) (bytes : List ℕ)
    → IsWritable fs metadata is → AreArrays (layouts columns) → IsAcceptedChunk fs is columns
    → WritesChunk (head_written order fs metadata is) before columns bytes after
    → MeansChunk (head_written order fs metadata is) bytes before after (chunk_written columns)

-- The head of a stream of columns without a schema: their types, as fields without names.
abbrev pub head_encoded : Endianness → IdTrees → List Layout → Head
head_encoded order is columns = head_written order (fields_of (map (λ c. c.type) (offer_of columns is).columns)) [] is

-- Theorem: the same of columns that are encoded without a schema.
abbrev pub EncodedChunkLaw : Type 0
EncodedChunkLaw = (order : Endianness) (is : IdTrees) (columns : List Layout) (before after : Remembered) (bytes : List ℕ)
    → AreArrays (layouts columns) → MayBeEncoded is (offer_of columns is)
    → WritesChunk (head_encoded order is columns) before columns bytes after
    → MeansChunk (head_encoded order is columns) bytes before after (chunk_written columns)
