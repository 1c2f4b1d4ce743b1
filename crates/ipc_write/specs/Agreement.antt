-- What the bytes mean that a stream writer has written.
-- (Arrow columnar format, "IPC Streaming Format".)
use Rattle.std.specs.Prelude.{◌≡◌, ℕ, ◌⊎◌, IsTrue, List, [], ◌∷◌, ◌++◌, Result, OnOk, OnErr}
use Rattle.ipc_devices.specs.Device.{Device, Memory, before}
use Rattle.ipc_devices.specs.declared.fault.Fault.{Fault}
use Rattle.ipc_stream_lemmas.specs.Remembered.{nothing_remembered}
use Rattle.ipc_stream_lemmas.specs.Runs.{IsOpen as IsOpenStream}
use Rattle.ipc_model.specs.Batches.{Chunk}
use Rattle.ipc_model.specs.Streams.{Head, Known}
use Rattle.ipc_model.specs.Writers.{IsStarted, IsFinished}
use Rattle.ipc_tracker.specs.Trackers.{IsSameMemory}
use Rattle.ipc_write.specs.Meaning.{HeadHas}
use Rattle.ipc_write.specs.Writers.{WriterSeen}
use Rattle.ipc_write.specs.declared.stream.WriterState.{WriterState}
use Rattle.ipc_write.specs.declared.stream.WriterState.TheVariants.{New, Started, Finished, Failed}

-- Nothing was written yet, and so no dictionary is remembered.
pub record IsUnwritten {W : Type 0} (w : WriterSeen W) (bytes : List ℕ) (chunks : List Chunk) : Type 0 where
  pub none : bytes ≡ []
  pub no_chunks : chunks ≡ []
  pub nothing : IsSameMemory nothing_remembered w.dictionaries

-- A started stream with these chunks. Its reader has the dictionaries that the writer remembers,
-- and its schema has the writer's types, ids and byte order.
pub record IsOpen {W : Type 0} (w : WriterSeen W) (bytes : List ℕ) (head : Head) (chunks : List Chunk) : Type 0 where
  pub stream : IsOpenStream bytes head w.dictionaries chunks
  pub has : HeadHas w.order head w.types w.ids

-- A finished stream with these chunks.
pub record HasEnded (bytes : List ℕ) (head : Head) (chunks : List Chunk) : Type 0 where
  pub stream : IsFinished bytes head chunks

-- A started stream with these chunks, whatever its reader knows.
pub record WasStarted (bytes : List ℕ) (head : Head) (chunks : List Chunk) : Type 0 where
  pub known : Known
  pub stream : IsStarted bytes head known chunks

-- A stream whose device failed: the bytes begin with what was written before the call that failed.
pub record BreaksOff (bytes : List ℕ) (head : Head) (chunks : List Chunk) : Type 0 where
  pub sent : List ℕ
  pub rest : List ℕ
  pub parts : bytes ≡ sent ++ rest
  pub stood : ((sent ≡ []) × (chunks ≡ [])) ⊎ WasStarted sent head chunks

-- What the bytes of a writer are in each state.
abbrev pub StreamIs : {W : Type 0} → WriterState → WriterSeen W → List ℕ → Head → List Chunk → Type 0
StreamIs New w bytes head chunks = IsUnwritten w bytes chunks
StreamIs Started w bytes head chunks = IsOpen w bytes head chunks
StreamIs Finished w bytes head chunks = HasEnded bytes head chunks
StreamIs Failed w bytes head chunks = BreaksOff bytes head chunks

-- The bytes before the offset of a memory: those that were there before the
-- writer, and those of its stream.
pub record HoldsStream {W : Type 0} (m : Memory) (w : WriterSeen W) (base : List ℕ) (head : Head) (chunks : List Chunk) : Type 0 where
  pub bytes : List ℕ
  pub held : before m ≡ base ++ bytes
  pub stream : StreamIs w.state w bytes head chunks

-- The device of a writer has the bytes `base`, and then a stream of this schema and these chunks.
abbrev pub Agrees : {W : Type 0} → Device W → WriterSeen W → List ℕ → Head → List Chunk → Type 0
Agrees d w base head chunks = HoldsStream (d.memory w.device) w base head chunks

-- ---- calls

-- The effect of `start` on the stream: if it returns Ok, the stream has
-- this head, else it is as it was.
pub record BeginsStream {W : Type 0} (d : Device W) (a : WriterSeen W) (r : Result Unit Fault) (b : WriterSeen W) (head : Head) : Type 0 where
  pub begun : IsTrue d.is_memory → (base : List ℕ) (chunks : List Chunk) → Agrees d a base head chunks → OnOk r (Agrees d b base head chunks)
  pub kept : IsTrue d.is_memory → (base : List ℕ) (other : Head) (chunks : List Chunk) → Agrees d a base other chunks → OnErr r (Agrees d b base other chunks)

-- The effect of `write` on the stream: if it returns Ok, the stream has one
-- chunk more, else it is as it was.
pub record Appends {W : Type 0} (d : Device W) (a : WriterSeen W) (r : Result Unit Fault) (b : WriterSeen W) (chunk : Chunk) : Type 0 where
  pub appended : IsTrue d.is_memory → (base : List ℕ) (head : Head) (chunks : List Chunk) → Agrees d a base head chunks → OnOk r (Agrees d b base head (chunks ++ chunk ∷ []))
  pub kept : IsTrue d.is_memory → (base : List ℕ) (head : Head) (chunks : List Chunk) → Agrees d a base head chunks → OnErr r (Agrees d b base head chunks)

-- The effect of `finish` on the stream: it has the chunks that it had.
pub record Remains {W : Type 0} (d : Device W) (a b : WriterSeen W) : Type 0 where
  pub kept : IsTrue d.is_memory → (base : List ℕ) (head : Head) (chunks : List Chunk) → Agrees d a base head chunks → Agrees d b base head chunks

-- From writer a to b, calls append these chunks to the stream; each
-- `start` has the schema of this head.
pub record GrowsBy {W : Type 0} (d : Device W) (a b : WriterSeen W) (head : Head) (added : List Chunk) : Type 0 where
  pub followed : IsTrue d.is_memory → (base : List ℕ) (chunks : List Chunk) → Agrees d a base head chunks → Agrees d b base head (chunks ++ added)

-- A writer that has written nothing: its stream is empty, whatever bytes precede it.
pub record IsFresh {W : Type 0} (d : Device W) (w : WriterSeen W) : Type 0 where
  pub agrees : (head : Head) → Agrees d w (before (d.memory w.device)) head []
