-- What stays of a file that is appended to, whatever the writer's calls return.
-- (Arrow columnar format, "IPC File Format".)
use Rattle.std.specs.Prelude.{◌≡◌, ℕ, ◌-◌, ◌≤◌, List, length, take}
use Rattle.ipc_devices.specs.Device.{GoesTo, Memory, after}
use Rattle.ipc_model.specs.Batches.{Chunk}
use Rattle.ipc_model.specs.Entries.{Dictionaries}
use Rattle.ipc_model.specs.FileFollowLaws.{BlocksMean}
use Rattle.ipc_model.specs.Files.{FileMetadata, all_of}
use Rattle.ipc_plan.specs.Sending.{WritesSome}
use Rattle.ipc_file_lemmas.specs.Appending.{MeansBefore, goes_on}

-- No byte before the offset changed, and none was lost. The offset, which is
-- inside the bytes, didn't decrease.
pub record Onward (m m' : Memory) : Type 0 where
  pub kept : take m.place m'.whole ≡ take m.place m.whole
  pub longer : length m.whole ≤ length m'.whole
  pub on : m.place ≤ m'.place
  pub there : m'.place ≤ length m'.whole

-- Theorem: a call that sends bytes leaves the memory as `Onward` says,
-- whether it is Ok, refused or fails.
abbrev pub OnwardLaw : Type 0
OnwardLaw = (m m' : Memory) (bytes : List ℕ) → m.place ≤ length m.whole → WritesSome m m' bytes → Onward m m'

-- Theorem: two such calls, one after the other, do so together.
abbrev pub OnwardBothLaw : Type 0
OnwardBothLaw = (m m' m'' : Memory) → Onward m m' → Onward m' m'' → Onward m m''

-- The file is no shorter than it was, and the metadata that were read before give
-- the same dictionaries and chunks.
pub record StillGives (m : FileMetadata) (bytes then : List ℕ) (known : Dictionaries) (cs : List Chunk) : Type 0 where
  pub longer : length bytes ≤ length then
  pub blocks : BlocksMean m (all_of then) known cs

-- Theorem: this holds after all calls of a writer that appends to a file.
abbrev pub StillGivesLaw : Type 0
StillGivesLaw = (m : FileMetadata) (old begun then : Memory) (known : Dictionaries) (cs : List Chunk) → MeansBefore m old.whole known cs
    → GoesTo old begun (goes_on m) → Onward begun then → StillGives m old.whole then.whole known cs

-- After the offset there are no more bytes than a file of this size has there.
abbrev pub NoMore : Memory → ℕ → Type 0
NoMore m size = length (after m) ≤ size - m.place
