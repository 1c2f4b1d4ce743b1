-- Whole streams and whole files in memory, by any list of calls of their writers.
-- (Arrow columnar format, "IPC Streaming Format" and "IPC File Format".)
use Rattle.std.specs.Prelude.{◌≡◌, ℕ, List, [], ◌∷◌, Result, Vec}
use Rattle.std.specs.declared.alloc.Global.{Global}
use Rattle.lower.specs.TypeTrees.{FieldTrees, Pairs}
use Rattle.lower_types.specs.declared.Endianness.{Endianness}
use Rattle.ipc_base.specs.IdTrees.{IdTrees}
use Rattle.ipc_devices.specs.declared.fault.Fault.{Fault}
use Rattle.ipc_model.specs.Streams.{Head}
use Rattle.ipc_model.specs.WriterStates.{answered}
use Rattle.ipc_model.specs.Writers.{IsFinished, taken}
use Rattle.ipc_write.specs.Agreement.{IsFresh}
use Rattle.ipc_write.specs.Writers.{WriterSeen}
use Rattle.ipc_write.specs.declared.stream.WriterState.TheVariants.{New, Finished}
use Rattle.ipc_file_write.specs.Calls.{IsWrittenFile}
use Rattle.ipc_file_write.specs.FileWriters.{FileSeen, HasNothing, IsFileOf}
use Rattle.ipc_calls.specs.StreamCalls as streams
use Rattle.ipc_calls.specs.FileCalls as files
use Rattle.ipc_calls.specs.declared.streams.WriterCall.{WriterCall}
use Rattle.ipc_calls.specs.declared.streams.WriterCall.TheVariants.{Start, Write, Finish}
use Rattle.ipc_calls.specs.declared.files.FileCall.{FileCall}
use Rattle.ipc_write.specs.Vectors.{vectors}

-- Calls of a new stream writer to empty memory, one of which finished the stream.
pub record FinishStream (a b : WriterSeen (Vec ℕ Global)) (calls : List WriterCall) (answers : List (Result Unit Fault)) : Type 0 where
  pub new : a.state ≡ New
  pub fresh : IsFresh vectors a
  pub empty : a.device.items ≡ []
  pub made : streams.AreMade vectors a calls answers b
  pub finished : b.state ≡ Finished

-- The bytes are a whole stream of the last schema and ids that were started, and of exactly the
-- chunks whose `write` returned Ok.
abbrev pub StreamOfCallsLaw : Type 0
StreamOfCallsLaw = (a b : WriterSeen (Vec ℕ Global)) (calls : List WriterCall) (answers : List (Result Unit Fault)) (h : Head) → FinishStream a b calls answers
    → IsFinished b.device.items (streams.head_left a.order calls answers h) (taken (answered (streams.ended_as calls answers)))

-- Calls of a new file writer to empty memory, one of which finished the file.
pub record FinishFile (a b : FileSeen (Vec ℕ Global)) (calls : List FileCall) (answers : List (Result Unit Fault)) : Type 0 where
  pub new : a.state ≡ New
  pub nothing : HasNothing vectors a
  pub empty : a.device.items ≡ []
  pub made : files.AreMade vectors a calls answers b
  pub finished : b.state ≡ Finished

-- The bytes are a whole file of the schema, the ids and the pairs that were last set, and of
-- exactly the chunks whose `write` returned Ok.
abbrev pub FileOfCallsLaw : Type 0
FileOfCallsLaw = (a b : FileSeen (Vec ℕ Global)) (calls : List FileCall) (answers : List (Result Unit Fault)) (fs : FieldTrees) (es : Pairs) (is : IdTrees) (order : Endianness)
    → IsFileOf a fs es is order [] → FinishFile a b calls answers
    → IsWrittenFile b.device.items order fs es is (files.last_pairs calls answers []) (taken (answered (files.ended_as calls answers)))

-- Each `start` of these calls, also a refused one, has the schema and the ids of this head.
abbrev pub AllBegin : Endianness → Head → List WriterCall → Type 0
AllBegin order h [] = Unit {0}
AllBegin order h (Start schema ids ∷ calls) = (streams.head_begun order schema ids ≡ h) × AllBegin order h calls
AllBegin order h (Write chunk ids ∷ calls) = AllBegin order h calls
AllBegin order h (Finish ∷ calls) = AllBegin order h calls

-- If each `start` has the schema and the ids of a head, the stream has
-- this head, whatever the results.
abbrev pub OneHeadLaw : Type 0
OneHeadLaw = (order : Endianness) (h : Head) (calls : List WriterCall) (answers : List (Result Unit Fault)) → AllBegin order h calls → streams.head_left order calls answers h ≡ h
