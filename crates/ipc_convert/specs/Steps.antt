-- How a copied stream is ended, and how a copied file is begun and ended.
-- (Arrow columnar format, "IPC Streaming Format" and "IPC File Format".)
use Rattle.std.specs.Prelude.{◌≡◌, ◌⊎◌, ◌≤◌, IsTrue, [], OnOk, Result, Ok, Err}
use Rattle.lower.specs.TypeTrees.{FieldTrees, Pairs}
use Rattle.lower_types.specs.declared.Endianness.{Endianness}
use Rattle.ipc_base.specs.IdTrees.{IdTrees}
use Rattle.ipc_devices.specs.Device.{Device, before}
use Rattle.ipc_devices.specs.declared.fault.ArgFault.TheVariants.{TooLarge}
use Rattle.ipc_devices.specs.declared.fault.Fault.{Fault}
use Rattle.ipc_devices.specs.declared.fault.Fault.TheVariants.{Argument}
use Rattle.ipc_model.specs.Writable.{file_weight}
use Rattle.ipc_schema_write.specs.WriterAnswers.{RefusesSchema, max_weight}
use Rattle.ipc_write.specs.Agreement as streams
use Rattle.ipc_write.specs.Writers.{WriterSeen}
use Rattle.ipc_write.specs.declared.stream.WriterState.TheVariants.{Started, Finished}
use Rattle.ipc_file_write.specs.FileWriters.{Agrees, AnswersFinish, EndsWith, FileSeen, ReachesEnd, Remains, SendsEnding}
use Rattle.ipc_convert.specs.declared.chunks.Ending.{Ending}
use Rattle.ipc_convert.specs.declared.chunks.Ending.TheVariants.{Over, Waits}

-- The copy ends with the mark if its source has ended, on the same device, which keeps nothing
-- back. If the source waits, nothing is written.
abbrev pub EndsAsSource : {W : Type 0} → Device W → Ending → (a b : WriterSeen W) → Type 0
EndsAsSource d Waits a b = b ≡ a
EndsAsSource d Over a b = (b.state ≡ Finished) × streams.Remains d a b × (d.names b.device ≡ d.names a.device) × IsTrue (d.is_flushed b.device)

-- A file writer has begun a file on this device, of this schema with its ids, this byte order and
-- these pairs, and has written no chunk.
pub record BeginsFile {W : Type 0} (d : Device W) (out : W) (order : Endianness) (fields : FieldTrees) (metadata : Pairs) (ids : IdTrees) (pairs : Pairs) (w : FileSeen W) : Type 0 where
  pub state : w.state ≡ Started
  pub order_is : w.order ≡ order
  pub fields_are : w.fields ≡ fields
  pub metadata_are : w.metadata ≡ metadata
  pub ids_are : w.ids ≡ ids
  pub pairs_are : w.pairs ≡ pairs
  pub agrees : IsTrue d.is_memory → Agrees d w (before (d.memory out)) []
  pub names : d.names w.device ≡ d.names out

-- Why a file isn't begun: the schema can't be written with its ids, or is too heavy with the pairs.
abbrev pub WithPairsCause : FieldTrees → Pairs → IdTrees → Pairs → Fault → Type 0
WithPairsCause fs es is pairs e = RefusesSchema e fs es is ⊎ ((e ≡ Argument TooLarge) × ¬ (file_weight fs es pairs ≤ max_weight))

-- All chunks were written, and the file that has them was finished.
pub record EndsCopy {W : Type 0} (d : Device W) (copied : Result Ending Fault) (ending : Ending) (a b : FileSeen W) : Type 0 where
  pub all : copied ≡ Ok ending
  pub sends : SendsEnding d a (Ok tt) b
  pub ends : EndsWith a b
  pub reaches : ReachesEnd d a b
  pub remains : Remains d a b

-- The error of the first result, or else that of the second.
abbrev pub both : Result Ending Fault → Result Unit Fault → Result Ending Fault
both (Err e) finished = Err e
both (Ok ending) (Err e) = Err e
both (Ok ending) (Ok x) = Ok ending

-- Whatever the copy returned, the file was finished if it may be, and has the chunks that it had.
pub record EndsAnyway {W : Type 0} (d : Device W) (copied result : Result Ending Fault) (a b : FileSeen W) : Type 0 where
  pub finished : Result Unit Fault
  pub answers : AnswersFinish a finished
  pub ends : OnOk finished (EndsWith a b)
  pub remains : Remains d a b
  pub is : result ≡ both copied finished
