-- Chunks that a stream writer or a file writer writes.
-- (Arrow columnar format, "IPC Streaming Format" and "IPC File Format".)
use Rattle.std.specs.Prelude.{◌≡◌, ℕ, IsTrue, List, ◌++◌, None, Err}
use Rattle.ipc_model.specs.Batches.{Chunk}
use Rattle.ipc_model.specs.Streams.{Head}
use Rattle.ipc_write.specs.Agreement.{Agrees}
use Rattle.ipc_write.specs.Writers.{RefusesWrite, WriterSeen, WritesExactly, seen}
use Rattle.ipc_write.specs.declared.stream.writer.StreamWriter.{StreamWriter}
use Rattle.ipc_file_write.specs.FileWriters as files
use Rattle.ipc_file_write.specs.Writes as writes
use Rattle.ipc_file_write.specs.declared.file.FileWriter.{FileWriter}
use Rattle.ipc_sessions.specs.Steps.{TakesChunks}
use Rattle.ipc_convert.specs.Chunks.{Moved, RefusesAt}
use Rattle.ipc_convert.specs.Copies.{normal_chunks}
use Rattle.ipc_devices.specs.Device.{Device}

-- From state v to w a writer wrote these chunks: its stream has them in the normal form. It
-- accepts the same columns as before, and has the same device.
pub record TookChunks {W : Type 0} (d : Device W) (v : WriterSeen W) (cs : List Chunk) (w : WriterSeen W) : Type 0 where
  pub state : w.state ≡ v.state
  pub types : w.types ≡ v.types
  pub ids : w.ids ≡ v.ids
  pub stream : IsTrue d.is_memory → (base : List ℕ) (head : Head) (so_far : List Chunk) → Agrees d v base head so_far
      → Agrees d w base head (so_far ++ normal_chunks cs)
  pub names : d.names w.device ≡ d.names v.device

-- A stream writer wrote these chunks.
abbrev pub StreamTook : {W : Type 0} → Device W → Moved (StreamWriter W)
StreamTook d v cs w = TookChunks d (seen v) cs (seen w)

-- A stream writer refuses a chunk of these columns, and a dictionary that the
-- error names is one that is refused.
abbrev pub StreamTakeCause : {W : Type 0} → RefusesAt (StreamWriter W)
StreamTakeCause v columns e = WritesExactly (seen v) columns None (Err e) × RefusesWrite (seen v) columns None e

-- A file writer wrote these chunks: the file has exactly these more, in the normal form, and no
-- byte before the writer's offset changed. The writer has the same device, as `takes` says.
pub record TookBlocks {W : Type 0} (d : Device W) (v : files.FileSeen W) (cs : List Chunk) (w : files.FileSeen W) : Type 0 where
  pub state : w.state ≡ v.state
  pub takes : TakesChunks d v w (normal_chunks cs)

-- A file writer wrote exactly these chunks.
abbrev pub FileTook : {W : Type 0} → Device W → Moved (FileWriter W)
FileTook d v cs w = TookBlocks d (files.seen v) cs (files.seen w)

-- A file writer refuses a chunk of these columns, and a dictionary that the
-- error names is one that is refused.
abbrev pub FileWriterCause : {W : Type 0} → RefusesAt (FileWriter W)
FileWriterCause v columns e = writes.WritesExactly (files.seen v) columns None (Err e) × writes.NamesOne (files.seen v) columns e
