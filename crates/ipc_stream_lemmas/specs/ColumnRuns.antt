-- Streams of a writable schema, by the columns that their writers were given.
-- (Arrow columnar format, "IPC Streaming Format".)
use Rattle.std.specs.Prelude.{◌≡◌, ℕ, ℤ, Bool, true, false, List, [], ◌∷◌, ◌++◌, map}
use Rattle.lower.specs.TypeTrees.{Pairs, FieldTrees}
use Rattle.lower_types.specs.declared.Endianness.{Endianness}
use Rattle.lower_arrays.specs.Layouts.{Layout, layouts}
use Rattle.lower_arrays.specs.Slots.{AreArrays}
use Rattle.ipc_base.specs.IdTrees.{IdTrees}
use Rattle.ipc_model.specs.Offers.{IsAcceptedChunk}
use Rattle.ipc_model.specs.Streams.{nothing_known}
use Rattle.ipc_model.specs.Writable.{IsWritable}
use Rattle.ipc_model.specs.Writers.{Call, write_call, taken, IsStarted, IsFinished}
use Rattle.ipc_model.specs.WrittenLaws.{prefix}
use Rattle.ipc_stream_lemmas.specs.Chunks.{WritesChunk}
use Rattle.ipc_stream_lemmas.specs.Messages.{chunk_written}
use Rattle.ipc_stream_lemmas.specs.Places.{head_written}
use Rattle.ipc_stream_lemmas.specs.Remembered.{Remembered, nothing_remembered}

-- Writes of these columns, each with whether it returned Ok.
abbrev pub column_calls : List (List Layout × Bool) → List (Call × Bool)
column_calls calls = map (λ c. (write_call (chunk_written c.0), c.1)) calls

-- The bytes that such writes append: an accepted chunk appends its messages, and a refused write
-- appends nothing and leaves what is remembered.
abbrev pub WritesColumns : Endianness → FieldTrees → Pairs → IdTrees → Remembered → List (List Layout × Bool) → List ℕ → Remembered → Type 0
WritesColumns order fs metadata is m [] bytes after = (bytes ≡ []) × ((i : ℤ) → after i ≡ m i)
WritesColumns order fs metadata is m ((columns, false) ∷ calls) bytes after = WritesColumns order fs metadata is m calls bytes after
WritesColumns order fs metadata is m ((columns, true) ∷ calls) bytes after =
    (own rest : List ℕ) × (then : Remembered) × AreArrays (layouts columns) × IsAcceptedChunk fs is columns
    × WritesChunk (head_written order fs metadata is) m columns own then × (bytes ≡ own ++ rest)
    × WritesColumns order fs metadata is then calls rest after

-- Theorem: a finished stream of a writable schema has just the chunks whose `write` returned
-- Ok, in either byte order. This holds for each list of calls, also with refused ones, and
-- whichever dictionaries are omitted.
abbrev pub ColumnRunLaw : Type 0
ColumnRunLaw = (order : Endianness) (fs : FieldTrees) (metadata : Pairs) (is : IdTrees) (bytes added : List ℕ) (after : Remembered)
    (calls : List (List Layout × Bool)) → IsWritable fs metadata is → IsStarted bytes (head_written order fs metadata is) nothing_known []
    → WritesColumns order fs metadata is nothing_remembered calls added after
    → IsFinished (bytes ++ added ++ prefix 0) (head_written order fs metadata is) (taken (column_calls calls))
