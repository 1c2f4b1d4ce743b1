-- What each call of a file writer does.
-- (Arrow columnar format, "IPC File Format".)
use Rattle.std.specs.Prelude.{◌≡◌, IsTrue, List, [], Option, Result, Err, IfErr, IfOk, IfSome, OnErr, OnOk}
use Rattle.lower.specs.TypeTrees.{FieldTrees, Pairs}
use Rattle.lower_arrays.specs.declared.array.AnyArray.{AnyArray}
use Rattle.lower_types.specs.declared.Endianness.{Endianness}
use Rattle.ipc_base.specs.IdTrees.{IdTrees}
use Rattle.ipc_devices.specs.Device.{Device, IsAnswered, before}
use Rattle.ipc_devices.specs.Faults.{IfIo, OnIo}
use Rattle.ipc_devices.specs.declared.fault.Fault.{Fault}
use Rattle.ipc_devices.specs.declared.fault.Fault.TheVariants.{State}
use Rattle.ipc_devices.specs.declared.fault.StateFault.{StateFault}
use Rattle.ipc_model.specs.Files.{FileMetadata}
use Rattle.ipc_write.specs.Meaning.{chunk_written}
use Rattle.ipc_write.specs.Sending.{Flushes}
use Rattle.ipc_write.specs.Writers.{LeavesFlushed, RefusesFlush, fault_if_failed, fault_unless_new, fault_unless_started}
use Rattle.ipc_write.specs.declared.stream.WriterState.TheVariants.{New, Started}
use Rattle.ipc_file_write.specs.Appends.{AreEmptyScratches, DeviceFails, GoesOnAgain, GoesOnWith, OpensFile, RefusesFile, RefusesNoWhole}
use Rattle.ipc_file_write.specs.Beginnings.{StartsNew}
use Rattle.ipc_file_write.specs.FileWriters.{Agrees, AnswersFinish, AnswersStart, EndsWith, FileSeen, HasNothing, IsFileOf, OrFails, ReachesEnd, RefusesFinish, RefusesStart, Remains, SendsBeginning, SendsEnding, StartsWith, StateComesFirst, TakesNoPairs, TakesPairs, fault_if_over, flushed_file, scratches_of, seen}
use Rattle.ipc_file_write.specs.Writes.{Appends, NamesOne, SendsColumns, WritesExactly}
use Rattle.ipc_file_write.specs.declared.file.FileWriter.{FileWriter}

-- ---- new writers

-- `new`: a writer to this device, for a file of this schema, with these dictionary ids and this
-- byte order.
pub record IsNewWriter {W : Type 0} (d : Device W) (given : W) (fields : FieldTrees) (metadata : Pairs) (ids : IdTrees) (order : Endianness) (w : FileSeen W) : Type 0 where
  -- It has the device that it was given.
  pub device : w.device ≡ given
  -- It isn't started.
  pub state : w.state ≡ New
  -- Its file has this schema, and its footer no pairs.
  pub file : IsFileOf w fields metadata ids order []
  -- Nothing is written yet.
  pub content : HasNothing d w

-- `try_new`: a writer to this device that was made by `new`, and started.
pub record MakesStarted {W : Type 0} (d : Device W) (given : W) (fields : FieldTrees) (metadata : Pairs) (ids : IdTrees) (order : Endianness) (r : Result (FileWriter W) Fault) : Type 0 where
  -- It is Ok exactly if `start` is; what is sent, and what each error means, is as `start` says.
  pub exact : StartsNew d given fields metadata ids order r
  -- The writer is started.
  pub state : IfOk r (λ w. (seen w).state ≡ Started)
  -- Its file has this schema, and its footer no pairs.
  pub file : IfOk r (λ w. IsFileOf (seen w) fields metadata ids order [])
  -- In memory, its file has no chunk, and comes after the bytes that were there.
  pub content : IsTrue d.is_memory → IfOk r (λ w. Agrees d (seen w) (before (d.memory given)) [])
  -- Its scratch memory is empty.
  pub scratches : IfOk r (λ w. AreEmptyScratches (scratches_of w))

-- ---- calls

-- How a call changes a writer's state. `own` is the error of a state in which the call
-- can't be made, and `taken` is what holds if the call returns Ok.
pub record StateStep {W : Type 0} (own : Option StateFault) (taken : Type 0) (a : FileSeen W) (r : Result Unit Fault) (b : FileSeen W) : Type 0 where
  -- The state is checked before all else.
  pub first : StateComesFirst own a r b
  -- The writer before and after a call that returned Ok.
  pub ok : OnOk r taken

-- How `set_custom_metadata` changes a writer.
pub record PairsStep {W : Type 0} (a : FileSeen W) (pairs : Pairs) (r : Result Unit Fault) (b : FileSeen W) : Type 0 where
  -- The state is checked before all else.
  pub first : StateComesFirst (fault_if_over a.state) a r b
  -- After Ok, the pairs are these, and all else is as it was.
  pub ok : OnOk r (TakesPairs a b pairs)
  -- After an error, the writer is as it was.
  pub kept : OnErr r (b ≡ a)

-- `set_custom_metadata`, with these pairs: it took the writer from a to b.
pub record SetsPairs {W : Type 0} (d : Device W) (a : FileSeen W) (pairs : Pairs) (r : Result Unit Fault) (b : FileSeen W) : Type 0 where
  -- What each error means.
  pub causes : IfErr r (TakesNoPairs a pairs)
  -- The writer has these pairs, or is as it was.
  pub state : PairsStep a pairs r b
  -- In memory, the file has the chunks that it had.
  pub content : Remains d a b

-- `start`: it took the writer from a to b.
pub record StartsFile {W : Type 0} (d : Device W) (a : FileSeen W) (r : Result Unit Fault) (b : FileSeen W) : Type 0 where
  -- It is Ok exactly if the file may be started, unless memory or the device fails.
  pub exact : AnswersStart a r
  -- What each error means.
  pub causes : IfErr r (OrFails (RefusesStart a))
  -- The head of the file and the schema message were sent, and what the device says of them.
  pub device : SendsBeginning d a r b
  -- If it is Ok, the writer was new, and is started.
  pub state : StateStep (fault_unless_new a.state) (StartsWith a b) a r b
  -- In memory, the file has the chunks that it had: none.
  pub content : Remains d a b

-- `write`, of these columns with these dictionary ids or none: it took the writer from a to b.
pub record WritesToFile {W : Type 0} (d : Device W) (a : FileSeen W) (columns : List AnyArray) (ids : Option IdTrees) (r : Result Unit Fault) (b : FileSeen W) : Type 0 where
  -- It is Ok exactly if the writer accepts the columns, unless memory or the device fails.
  pub exact : WritesExactly a columns ids r
  -- If an error names a dictionary, that one is refused.
  pub causes : IfErr r (NamesOne a columns)
  -- The messages of the columns and of new dictionaries were sent, and what the device says.
  pub device : SendsColumns d a r b columns
  -- The state is checked before all else.
  pub state : StateComesFirst (fault_unless_started a.state) a r b
  -- In memory, the file has this chunk more, or is as it was.
  pub content : Appends d a r b (chunk_written columns)

-- `finish`: it took the writer from a to b.
pub record FinishesFile {W : Type 0} (d : Device W) (a : FileSeen W) (r : Result Unit Fault) (b : FileSeen W) : Type 0 where
  -- It is Ok exactly if the file may be finished, unless memory or the device fails.
  pub exact : AnswersFinish a r
  -- What each error means.
  pub causes : IfErr r (OrFails (RefusesFinish a))
  -- The end mark and the footer were sent and flushed, and what the device says of them.
  pub device : SendsEnding d a r b
  -- The finished file is no shorter than one that was appended to.
  pub bounds : OnOk r (ReachesEnd d a b)
  -- If it is Ok, the writer was started, and is finished.
  pub state : StateStep (fault_unless_started a.state) (EndsWith a b) a r b
  -- In memory, the file has the chunks that it had.
  pub content : Remains d a b

-- How a flush changes a writer.
pub record FileFlushStep {W : Type 0} (a : FileSeen W) (r : Result Unit Fault) (b : FileSeen W) : Type 0 where
  -- The state is checked before all else.
  pub first : IfSome (fault_if_failed a.state) (λ e. r ≡ Err (State e))
  -- After an error of the device, the writer has failed, unless it is finished.
  pub state : LeavesFlushed r a.state b.state
  -- But for its device and its state, it is as it was.
  pub same : b ≡ flushed_file a b.device b.state

-- `flush`: it took the writer from a to b.
pub record FlushesFile {W : Type 0} (d : Device W) (a : FileSeen W) (r : Result Unit Fault) (b : FileSeen W) : Type 0 where
  -- What each error means.
  pub causes : IfErr r (RefusesFlush a.state)
  -- Nothing was sent, and what the device says of the flush.
  pub device : Flushes d a.device r b.device
  -- What of the writer stays.
  pub state : FileFlushStep a r b
  -- In memory, the file has the chunks that it had.
  pub content : Remains d a b

-- ---- appending

-- What an error of `try_from_file` means.
pub record AppendCause {W : Type 0} (d : Device W) (m : FileMetadata) (given : W) (e : Fault) : Type 0 where
  -- The metadata or the dictionaries of the file don't allow it.
  pub only : RefusesFile d.is_memory m (d.memory given).whole e
  -- A file that a writer finished isn't refused.
  pub always : RefusesNoWhole d m given e

-- Which chunks the file has that a writer appends to.
pub record AppendContent {W : Type 0} (d : Device W) (m : FileMetadata) (given : W) (w : FileSeen W) : Type 0 where
  -- It has the chunks that any file had, in the normal form of its schema.
  pub means : GoesOnWith d m given w
  -- It has the chunks that a file had which a writer finished.
  pub again : GoesOnAgain d m given w

-- `try_from_file`: a writer that appends to the file with this metadata on this device.
pub record OpensToAppend {W : Type 0} (d : Device W) (m : FileMetadata) (given : W) (r : Result (FileWriter W) Fault) : Type 0 where
  -- What each error means.
  pub causes : IfErr r (AppendCause d m given)
  -- `Io` comes only if a call of the device failed.
  pub device : OnIo r (DeviceFails d.failures given)
  -- An `Io` is an error that the device returned.
  pub answered : IfIo r (IsAnswered d)
  -- The writer is started at the append position, with all that the file has.
  pub state : IfOk r (λ w. OpensFile d m given (seen w))
  -- In memory, the chunks of the file come first.
  pub content : IfOk r (λ w. AppendContent d m given (seen w))
  -- Its scratch memory is empty.
  pub scratches : IfOk r (λ w. AreEmptyScratches (scratches_of w))
