-- Calls of `next`, one after the other, on a file whose bytes are known.
-- (Arrow columnar format, "IPC File Format".)
use Rattle.ipc_devices.specs.Device.{Device}
use Rattle.std.specs.Prelude.{◌≡◌, ◌⊎◌, ℕ, zero, suc, ◌+◌, true, false, IsTrue, List, [], ◌∷◌, Option, None, Some, Err}
use Rattle.ipc_devices.specs.Faults.{OwnFault}
use Rattle.ipc_model.specs.Entries.{Dictionaries, Limit}
use Rattle.ipc_model.specs.Files.{FileMetadata as Meaning, file_dictionaries, file_chunk}
use Rattle.ipc_stream_lemmas.specs.Agreement.{KnowAlike}
use Rattle.ipc_read.specs.Chunks.{chunk_seen}
use Rattle.ipc_files.specs.Footers.{GivesPart}
use Rattle.ipc_file_readers.specs.Readers.{Answer, NextStep, asked_of, block_of, blocks_left, device_of, file_of, is_over, known_of, less, remaining_of, rows_given}
use Rattle.ipc_file_readers.specs.declared.read.reader.state.FileReader.{FileReader}

-- The answers of some calls of `next`, one after the other, that begin with this reader.
abbrev pub Calls : {R : Type 0} → Device R → FileReader R → List Answer → Type 0
Calls d a [] = Unit {0}
Calls {R} d a (r ∷ rs) =
    (b : FileReader R) × NextStep d a r b × Calls d b rs

-- All answers are None.
abbrev pub AreNone : List Answer → Type 0
AreNone [] = Unit {0}
AreNone (r ∷ rs) = (r ≡ None) × AreNone rs

-- There is one answer for each of n blocks, from block i on. It is the chunk of the requested
-- columns up to what is left of the limit. It is an error if the block has no chunk, or an
-- allocation or the device failed. Then None comes.
abbrev pub AreItems : Meaning → Dictionaries → List ℕ → Option (List ℕ) → Limit → (i n : ℕ) → List Answer → Type 0
AreItems m ds source asked limit i n [] = Unit {0}
AreItems m ds source asked limit i zero (r ∷ rs) = (r ≡ None) × AreItems m ds source asked limit i zero rs
AreItems m ds source asked limit i (suc n) (None ∷ rs) = ⊥
AreItems m ds source asked limit i (suc n) (Some x ∷ rs) =
    GivesPart chunk_seen x (file_chunk m ds source asked limit i) × AreItems m ds source asked (less limit (rows_given x)) (i + 1) n rs

-- One error comes, and then None. If it isn't one of allocation or of the device, P holds.
abbrev pub IsToldOnce : Type 0 → List Answer → Type 0
IsToldOnce P [] = Unit {0}
IsToldOnce P (Some (Err e) ∷ rs) = OwnFault e P × AreNone rs
IsToldOnce P _ = ⊥

-- The dictionaries that a reader has, or those of its file if it has read none.
abbrev pub HoldsDictionaries : Option Dictionaries → Option Dictionaries → Dictionaries → Type 0
HoldsDictionaries (Some es) file ds = KnowAlike es ds
HoldsDictionaries None file ds = file ≡ Some ds

-- Theorem: a file with valid dictionaries is read block by block; or one error of allocation or of
-- the device is returned at the dictionaries.
abbrev pub ItemsLaw : {R : Type 0} → Device R → FileReader R → Type 0
ItemsLaw d a = (rs : List Answer) (ds : Dictionaries) → IsTrue d.is_memory
    → HoldsDictionaries (known_of a) (file_dictionaries (file_of a) (d.memory (device_of a)).whole) ds → Calls d a rs
    → AreItems (file_of a) ds (d.memory (device_of a)).whole (asked_of a) (remaining_of a) (block_of a) (blocks_left a) rs ⊎ IsToldOnce ⊥ rs

-- Theorem: a file with record blocks and invalid dictionaries returns one error.
abbrev pub ToldOnceLaw : {R : Type 0} → Device R → FileReader R → Type 0
ToldOnceLaw d a = (rs : List Answer) → IsTrue d.is_memory → is_over a ≡ false → known_of a ≡ None
    → file_dictionaries (file_of a) (d.memory (device_of a)).whole ≡ None → Calls d a rs
    → IsToldOnce (Unit {0}) rs

-- Theorem: after the last block, and in a file without record blocks, `next` returns None.
abbrev pub OverLaw : {R : Type 0} → Device R → FileReader R → Type 0
OverLaw d a = (rs : List Answer) → is_over a ≡ true → Calls d a rs → AreNone rs
