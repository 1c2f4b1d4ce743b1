-- What the iterator over the chunks of a stream returns.
-- (Arrow columnar format, "IPC Streaming Format".)
use Rattle.std.specs.Prelude.{◌≡◌, ◌<◌, ℕ, List, Option, None, Some, Result, Ok, Err}
use Rattle.ipc_devices.specs.Device.{Device}
use Rattle.ipc_devices.specs.Gives.{Gives}
use Rattle.ipc_devices.specs.declared.fault.Fault.{Fault}
use Rattle.ipc_readers.specs.Streams.{NextStep}
use Rattle.ipc_readers.specs.declared.read.stream.chunks.Chunks.{Chunks}
use Rattle.ipc_readers.specs.declared.read.stream.reader.StreamReader.{StreamReader}
use Rattle.ipc_readers.specs.declared.read.stream.reader.StreamState.{StreamState}
use Rattle.ipc_readers.specs.declared.read.stream.reader.StreamState.TheVariants as states
use Rattle.lower_arrays.specs.declared.array.AnyArray.{AnyArray}

-- Which reference to a reader an iterator has, and the reader behind it.

abbrev pub lender : {R : Type 0} → Chunks R → ℕ
lender c = c.reader.ghost_name

abbrev pub lent : {R : Type 0} → Chunks R → StreamReader R
lent c = c.reader.now

-- How many chunks more an iterator gives at most.
abbrev pub chunks_left : {R : Type 0} → Chunks R → ℕ
chunks_left c = c.left

-- The result of a reader's `next` without its waits: nothing comes where a stream waits.
abbrev pub without_waits : Option (Result StreamState Fault) → Option (Result (List AnyArray) Fault)
without_waits None = None
without_waits (Some (Ok states.Waiting)) = None
without_waits (Some (Ok (states.Some chunk))) = Some (Ok chunk)
without_waits (Some (Err e)) = Some (Err e)

-- One call of a reader's `next` took it from a to b, and r is its result without waits.
pub record ReadsNextChunk {R : Type 0} (gives : Gives R) (d : Device R) (a : StreamReader R) (r : Option (Result (List AnyArray) Fault)) (b : StreamReader R) : Type 0 where
  -- What `next` returned.
  pub next : Option (Result StreamState Fault)
  -- What it read.
  pub step : NextStep gives d a next b
  -- The chunk or the error of it.
  pub item : r ≡ without_waits next

-- A call of the iterator took it from a to b, and returned r.
pub record NextChunk {R : Type 0} (gives : Gives R) (d : Device R) (a : Chunks R) (r : Option (Result (List AnyArray) Fault)) (b : Chunks R) : Type 0 where
  -- It reads the next chunk.
  pub reads : 0 < chunks_left a → ReadsNextChunk gives d (lent a) r (lent b)
  -- It has given as many chunks as it may.
  pub over : chunks_left a ≡ 0 → (r ≡ None) × (lent b ≡ lent a)
  -- It keeps its reader.
  pub same : lender b ≡ lender a
