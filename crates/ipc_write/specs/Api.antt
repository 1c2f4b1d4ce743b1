-- What each call of a stream writer does.
-- (Arrow columnar format, "IPC Streaming Format".)
use Rattle.std.specs.Prelude.{◌≡◌, pos, IsTrue, List, Option, Result, Err, IfErr, IfSome, OnOk}
use Rattle.ipc_base.specs.IdTrees.{IdTrees}
use Rattle.ipc_devices.specs.Device.{Device}
use Rattle.ipc_devices.specs.declared.fault.Fault.{Fault}
use Rattle.ipc_devices.specs.declared.fault.Fault.TheVariants.{State}
use Rattle.ipc_devices.specs.declared.fault.StateFault.{StateFault}
use Rattle.lower.specs.TypeTrees.{FieldTrees, Pairs}
use Rattle.lower_arrays.specs.declared.array.AnyArray.{AnyArray}
use Rattle.ipc_schema_write.specs.WriterAnswers.{written_head_as}
use Rattle.ipc_write.specs.Agreement.{Appends, BeginsStream, Remains}
use Rattle.ipc_write.specs.Framing.{prefix_bytes}
use Rattle.ipc_write.specs.Meaning.{chunk_written}
use Rattle.ipc_write.specs.Sending.{Flushes}
use Rattle.ipc_write.specs.Writers.{LeavesFlushed, RefusesFinish, RefusesFlush, RefusesStart, RefusesWrite, SendStep, SendsStep, SendsSchema, StartsWith, StateComesFirst, TakesChunk, WriterSeen, WritesExactly, fault_if_failed, fault_unless_new, fault_unless_started, flushed_from}
use Rattle.ipc_write.specs.declared.stream.WriterState.TheVariants.{Started, Finished}

-- How a call changes a writer's state. `own` is the error of a state in which the call
-- can't be made, and `taken` is what holds if the call returns Ok.
pub record StateStep {W : Type 0} (own : Option StateFault) (taken : Type 0) (a : WriterSeen W) (r : Result Unit Fault) (b : WriterSeen W) : Type 0 where
  -- The state is checked before all else.
  pub first : StateComesFirst own a r b
  -- The writer before and after a call that returned Ok.
  pub ok : OnOk r taken

-- `start`, with this schema and these dictionary ids: it took the writer from a to b.
pub record StartsStream {W : Type 0} (d : Device W) (a : WriterSeen W) (fields : FieldTrees) (metadata : Pairs) (ids : IdTrees) (r : Result Unit Fault) (b : WriterSeen W) : Type 0 where
  -- What each error means.
  pub causes : IfErr r (RefusesStart a.state fields metadata ids)
  -- The schema message was sent, and what the device says of it.
  pub device : SendsSchema d a r b (written_head_as a.order fields metadata ids)
  -- If it is Ok, the writer was new, and is started with this schema, which can be written.
  pub state : StateStep (fault_unless_new a.state) (StartsWith a b fields metadata ids) a r b
  -- In memory, a stream with this schema begins, or the stream is as it was.
  pub content : BeginsStream d a r b (written_head_as a.order fields metadata ids)

-- `write`, of these columns with these dictionary ids or none: it took the writer from a to b.
pub record WritesToStream {W : Type 0} (d : Device W) (a : WriterSeen W) (columns : List AnyArray) (ids : Option IdTrees) (r : Result Unit Fault) (b : WriterSeen W) : Type 0 where
  -- It is Ok exactly if the writer accepts the columns, unless memory or the device fails.
  pub exact : WritesExactly a columns ids r
  -- What each error means.
  pub causes : IfErr r (RefusesWrite a columns ids)
  -- The messages of the columns and of new dictionaries were sent, and what the device says.
  pub device : SendsStep d a r b columns
  -- If it is Ok, the writer was started and is, and the columns have its types.
  pub state : StateStep (fault_unless_started a.state) (TakesChunk a b columns ids) a r b
  -- In memory, the stream has this chunk more, or is as it was.
  pub content : Appends d a r b (chunk_written columns)

-- `finish`: it took the writer from a to b.
pub record FinishesStream {W : Type 0} (d : Device W) (a : WriterSeen W) (r : Result Unit Fault) (b : WriterSeen W) : Type 0 where
  -- What each error means.
  pub causes : IfErr r (RefusesFinish a.state)
  -- The end mark, of eight bytes, was sent, and what the device says of it.
  pub device : SendStep d a r b (prefix_bytes (pos 0)) 8
  -- If it is Ok, the device keeps nothing back.
  pub flushed : OnOk r (IsTrue (d.is_flushed b.device))
  -- If it is Ok, the writer was started, and is finished.
  pub state : StateStep (fault_unless_started a.state) ((a.state ≡ Started) × (b.state ≡ Finished)) a r b
  -- In memory, the stream has the chunks that it had.
  pub content : Remains d a b

-- How a flush changes a writer.
pub record FlushStep {W : Type 0} (a : WriterSeen W) (r : Result Unit Fault) (b : WriterSeen W) : Type 0 where
  -- The state is checked before all else.
  pub first : IfSome (fault_if_failed a.state) (λ e. r ≡ Err (State e))
  -- After an error of the device, the writer has failed, unless it is finished.
  pub state : LeavesFlushed r a.state b.state
  -- But for its device and its state, it is as it was.
  pub same : b ≡ flushed_from a b.device b.state

-- `flush`: it took the writer from a to b.
pub record FlushesStream {W : Type 0} (d : Device W) (a : WriterSeen W) (r : Result Unit Fault) (b : WriterSeen W) : Type 0 where
  -- What each error means.
  pub causes : IfErr r (RefusesFlush a.state)
  -- Nothing was sent, and what the device says of the flush.
  pub device : Flushes d a.device r b.device
  -- What of the writer stays.
  pub state : FlushStep a r b
  -- In memory, the stream has the chunks that it had.
  pub content : Remains d a b
