-- The rows of a file, as a reader returns them.
-- (Arrow columnar format, "IPC File Format".)
use Rattle.ipc_devices.specs.Device.{Device}
use Rattle.std.specs.Prelude.{◌≡◌, ◌++◌, ℕ, ◌+◌, IsTrue, List, [], ◌∷◌, length, take, None, Some, slice_get, Ok}
use Rattle.lower_arrays.specs.Slots.{Slot}
use Rattle.ipc_model.specs.BatchLaws.{column_at}
use Rattle.ipc_model.specs.Batches.{Chunk}
use Rattle.ipc_model.specs.Entries.{Dictionaries, Limit}
use Rattle.ipc_model.specs.Files.{FileMetadata as Meaning, file_chunk, file_dictionaries}
use Rattle.ipc_read.specs.Chunks.{chunk_seen}
use Rattle.ipc_file_readers.specs.Readers.{Answer, asked_of, block_of, columns_asked, device_of, file_of, known_of, metadata_of, remaining_of}
use Rattle.ipc_file_readers.specs.Runs.{Calls, HoldsDictionaries}
use Rattle.ipc_file_readers.specs.declared.read.reader.state.FileReader.{FileReader}

-- The slots of column j of some chunks, one chunk after the other.
abbrev pub joined : List Chunk → ℕ → List Slot
joined [] j = []
joined (c ∷ cs) j = (column_at c j).slots ++ joined cs j

-- The first slots, up to a limit.
abbrev pub first_of : Limit → List Slot → List Slot
first_of None xs = xs
first_of (Some n) xs = take n xs

-- The answers are these chunks, one by one.
abbrev pub AreChunks : List Answer → List Chunk → Type 0
AreChunks [] [] = Unit {0}
AreChunks (Some (Ok xs) ∷ rs) (c ∷ cs) = (chunk_seen xs ≡ c) × AreChunks rs cs
AreChunks _ _ = ⊥

-- The blocks from block i on mean these chunks, as a whole.
pub record Mean (m : Meaning) (ds : Dictionaries) (source : List ℕ) (i : ℕ) (cs : List Chunk) : Type 0 where
  pub each : (k : ℕ) (c : Chunk) → slice_get cs k ≡ Some c → file_chunk m ds source None None (i + k) ≡ Some c

-- Theorem: if calls returned a chunk for each of some valid blocks, the joined rows of these chunks
-- are the first rows of the requested columns, up to the limit.
abbrev pub RowsLaw : {R : Type 0} → Device R → FileReader R → Type 0
RowsLaw d a = (rs : List Answer) (ds : Dictionaries) (cs gs : List Chunk) → IsTrue d.is_memory
    → HoldsDictionaries (known_of a) (file_dictionaries (file_of a) (d.memory (device_of a)).whole) ds → Calls d a rs
    → Mean (file_of a) ds (d.memory (device_of a)).whole (block_of a) cs → AreChunks rs gs → length gs ≡ length cs
    → (p j : ℕ) → slice_get (columns_asked (metadata_of a) (asked_of a)) p ≡ Some j → joined gs p ≡ first_of (remaining_of a) (joined cs j)
