-- What the calls of an output do to the device that it borrows.
use Rattle.std.specs.Prelude.{◌≡◌, ◌≤◌, ℕ, IsTrue, List, Result, IfErr, OnErr, OnOk}
use Rattle.ipc_devices.specs.Device.{Device, Rises}
use Rattle.ipc_devices.specs.Acts.{IsIoOf}
use Rattle.ipc_devices.specs.declared.fault.Fault.{Fault}
use Rattle.ipc_plan.specs.Sending.{Sends}
use Rattle.ipc_programs.specs.declared.cat.output.Output.{Output}

-- a device whose room is left out, since a flush may change it
abbrev pub without_room : {W : Type 0} → Device W → Device W
without_room d = record d { room = λ _. 0 }

-- A call of an output writes these bytes to the device that it borrows. If it returns
-- Ok, no call of the device failed.
pub record WritesOutput {W X : Type 0} (d : Device W) (a : Output W) (r : Result X Fault) (b : Output W)
    (bytes : List ℕ) : Type 0 where
  pub same : b.device.ghost_name ≡ a.device.ghost_name
  pub sends : Sends (without_room d) bytes a.device.now r b.device.now
  pub done : OnOk r (d.failures b.device.now ≡ d.failures a.device.now)

-- A call flushes an output: the bytes of its device stay. If it returns Ok, the device keeps
-- nothing back.
pub record FlushesOutput {W X : Type 0} (d : Device W) (a : Output W) (r : Result X Fault) (b : Output W) : Type 0 where
  pub same : b.device.ghost_name ≡ a.device.ghost_name
  pub monotone : d.failures a.device.now ≤ d.failures b.device.now
  pub failed : OnErr r (Rises (d.failures a.device.now) (d.failures b.device.now))
  pub only : IfErr r (IsIoOf d)
  pub done : OnOk r (d.failures b.device.now ≡ d.failures a.device.now)
  pub memory_is : IsTrue d.is_memory → d.memory b.device.now ≡ d.memory a.device.now
  pub flushed : OnOk r (IsTrue (d.is_flushed b.device.now))
  pub names : d.names b.device.now ≡ d.names a.device.now
