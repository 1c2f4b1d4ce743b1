-- What the calls of a stream writer do, one and many, by the definitions of `ipc_model`.
-- (Arrow columnar format, "IPC Streaming Format".)
use Rattle.std.specs.Prelude.{◌≡◌, ℕ, List, [], ◌∷◌, take, Option, None, Result, Ok, Err, Vec}
use Rattle.std.specs.declared.alloc.Global.{Global}
use Rattle.ipc_base.specs.IdTrees.{IdTrees}
use Rattle.ipc_base.specs.declared.ipc.IpcField.{IpcField}
use Rattle.ipc_devices.specs.Device.{Device}
use Rattle.ipc_devices.specs.declared.fault.Fault.{Fault}
use Rattle.ipc_devices.specs.declared.fault.Fault.TheVariants.{Io}
use Rattle.lower.specs.TypeTrees.{FieldTrees, Pairs}
use Rattle.lower_types.specs.declared.Endianness.{Endianness}
use Rattle.ipc_model.specs.WriterStates.{State, Writer, new_writer, started_writer, finished_writer, failed_writer, Outcome, is_taken, is_refused, is_broken, IsRun, answered}
use Rattle.ipc_model.specs.Writers.{Call, start_call, write_call, finish_call, taken}
use Rattle.ipc_schema_write.specs.WriterAnswers.{written_head_as}
use Rattle.ipc_write.specs.Agreement.{GrowsBy}
use Rattle.ipc_write.specs.Api.{FinishesStream, StartsStream, WritesToStream}
use Rattle.ipc_write.specs.Meaning.{chunk_written}
use Rattle.ipc_write.specs.Writers.{WriterSeen, chosen_ids}
use Rattle.ipc_write.specs.declared.calls.StreamCall.{StreamCall}
use Rattle.ipc_write.specs.declared.calls.StreamCall.TheVariants.{Start, Write, Finish}
use Rattle.ipc_write.specs.declared.stream.WriterState.{WriterState}
use Rattle.ipc_write.specs.declared.stream.WriterState.TheVariants.{New, Started, Finished, Failed}

-- ---- what theorems know of calls

-- A call as a call of `ipc_model`; a `write` has its chunk.

abbrev pub call_seen : StreamCall → Call
call_seen Start = start_call
call_seen (Write chunk) = write_call (chunk_written chunk.now)
call_seen Finish = finish_call

-- The state of a writer as a state of `ipc_model`.
abbrev pub state_seen : WriterState → State
state_seen New = new_writer
state_seen Started = started_writer
state_seen Finished = finished_writer
state_seen Failed = failed_writer

-- A stream writer in this state, with this byte order; a stream has no footer.
abbrev pub writer_in : Endianness → State → Writer
writer_in order s = record { state = s; order = order; pairs = [] }

-- How a call ended, by its result.
abbrev pub outcome : Result Unit Fault → Outcome
outcome (Ok x) = is_taken
outcome (Err (Io e)) = is_broken
outcome (Err _) = is_refused

-- The calls, each with how it ended.
abbrev pub ended_as : List StreamCall → List (Result Unit Fault) → List (Call × Outcome)
ended_as (call ∷ calls) (r ∷ rs) = (call_seen call, outcome r) ∷ ended_as calls rs
ended_as _ _ = []

-- ---- one call

-- A call returned r and left the writer b, by the call's contract. Each `start`
-- has this schema and these ids.
abbrev pub IsMade : {W : Type 0} → (d : Device W) (fields : FieldTrees) (metadata : Pairs) (ids : IdTrees) → WriterSeen W → StreamCall → Result Unit Fault → WriterSeen W → Type 0
IsMade d fs es is a Start r b = StartsStream d a fs es is r b
IsMade d fs es is a (Write chunk) r b = WritesToStream d a chunk.now None r b
IsMade d fs es is a Finish r b = FinishesStream d a r b

-- `start` is given ids that are those chosen for the fields, whatever these are.
abbrev pub HandsIds : StreamCall → (all handed : Option (Vec IpcField Global)) → Type 0
HandsIds Start all handed = (fs : FieldTrees) → chosen_ids handed fs ≡ chosen_ids all fs
HandsIds _ all handed = Unit {0}

-- ---- calls one after the other

-- Each call is made on the writer that the call before it left, with these results.
abbrev pub AreMade : {W : Type 0} → (d : Device W) (fields : FieldTrees) (metadata : Pairs) (ids : IdTrees) → WriterSeen W → List StreamCall → List (Result Unit Fault) → WriterSeen W → Type 0
AreMade d fs es is a [] [] b = b ≡ a
AreMade {W = W} d fs es is a (call ∷ calls) (r ∷ rs) b =
    (m : WriterSeen W) × (IsMade d fs es is a call r m × AreMade d fs es is m calls rs b)
AreMade d fs es is a _ _ b = ⊥

-- The first of some calls are made.
pub record FirstAreMade {W : Type 0} (d : Device W) (fields : FieldTrees) (metadata : Pairs) (ids : IdTrees) (a : WriterSeen W) (calls : List StreamCall) (b : WriterSeen W) : Type 0 where
  pub count : ℕ
  pub answers : List (Result Unit Fault)
  pub made : AreMade d fields metadata ids a (take count calls) answers b

-- `run_calls`: the calls, of which each `start` has this schema and these ids, had these
-- results, and took the writer from a to b.
pub record RunsStream {W : Type 0} (d : Device W) (fields : FieldTrees) (metadata : Pairs) (ids : IdTrees) (a : WriterSeen W) (calls : List StreamCall) (answers : List (Result Unit Fault)) (b : WriterSeen W) : Type 0 where
  -- Each call was made on the writer that the call before it left.
  pub made : AreMade d fields metadata ids a calls answers b
  -- The states that the calls go through, by their results.
  pub state : IsRun (writer_in a.order (state_seen a.state)) (ended_as calls answers) (writer_in b.order (state_seen b.state))
  -- In memory, the stream has exactly the chunks more whose `write` returned Ok.
  pub content : GrowsBy d a b (written_head_as a.order fields metadata ids) (taken (answered (ended_as calls answers)))
