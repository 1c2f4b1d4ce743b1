-- The result of making a started file writer.
-- (Arrow columnar format, "IPC File Format".)
use Rattle.std.specs.Prelude.{◌≡◌, ℕ, List, [], length, Result, Ok, IfErr, IfOk, OnOk}
use Rattle.lower.specs.TypeTrees.{FieldTrees, Pairs}
use Rattle.lower_types.specs.declared.Endianness.{Endianness}
use Rattle.ipc_base.specs.IdTrees.{IdTrees}
use Rattle.ipc_devices.specs.Device.{Device}
use Rattle.ipc_devices.specs.Faults.{OnIo, OwnFault}
use Rattle.ipc_devices.specs.declared.fault.Fault.{Fault}
use Rattle.ipc_write.specs.Sending.{FailsOrIsFull}
use Rattle.ipc_write.specs.declared.stream.WriterState.TheVariants.{New}
use Rattle.ipc_file_write.specs.FileWriters.{FileSeen, HasNothing, IsBeginning, IsFileOf, MayBeStarted, MissesStart, OrFails, RefusesStart, SendsBeginning, StartsWith, seen}
use Rattle.ipc_file_write.specs.declared.file.FileWriter.{FileWriter}

-- A part of the beginning of a file was sent, and then the device failed, or was
-- memory without room for all of it.
pub record BeginningFails {W : Type 0} (d : Device W) (new : FileSeen W) : Type 0 where
  pub bytes : List ℕ
  pub begins : IsBeginning new bytes
  pub after : W
  pub fails : FailsOrIsFull d.grows (d.failures new.device) (d.failures after) (d.room new.device) (length bytes)

-- The result is that of `start` of a new writer of this file. It is Ok exactly if a file of this
-- schema with these ids may be started, unless an allocation or the device fails. Then the
-- beginning of the file was sent; an error names a condition that isn't met.
pub record StartsNew {W : Type 0} (d : Device W) (device : W) (fields : FieldTrees) (metadata : Pairs) (ids : IdTrees) (order : Endianness)
    (r : Result (FileWriter W) Fault) : Type 0 where
  pub new : FileSeen W
  pub state : new.state ≡ New
  pub device_is : new.device ≡ device
  pub file : IsFileOf new fields metadata ids order []
  pub nothing : HasNothing d new
  pub sends : IfOk r (λ w. SendsBeginning d new (Ok tt) (seen w))
  pub starts : IfOk r (λ w. StartsWith new (seen w))
  pub may : OnOk r (MayBeStarted new)
  pub failed : OnIo r (BeginningFails d new)
  pub only : IfErr r (OrFails (RefusesStart new))
  pub misses : IfErr r (λ e. MissesStart new e × OwnFault e (¬ MayBeStarted new))
