-- What a call that reads from a body does to the device. Which columns are read,
-- and to which arrays, is stated by the definitions of `ipc_model` alone: by
-- `IsWell` of the kind, and by `array_at`.
use Rattle.std.specs.Prelude.{ℕ, ◌+◌, ◌≡◌, ◌≤◌, Result}
use Rattle.ipc_devices.specs.Device.{Device, IsAnswered, Rises}
use Rattle.ipc_devices.specs.Faults.{IfIo, OnIo, UnlessIo}
use Rattle.ipc_devices.specs.declared.fault.Fault.{Fault}
use Rattle.ipc_read_flat.specs.Bodies.{KeepsBytes}
use Rattle.ipc_read_flat.specs.declared.read.body.Body.{Body}

-- Reading from state a to state b: the bytes stay, a failure of the device is counted exactly if
-- its error is returned, and at most n bytes were read. An `Io` is an error that the device
-- returned.
pub record Step {R X : Type 0} (d : Device R) (s : Body R) (n : ℕ) (a : R) (r : Result X Fault) (b : R) : Type 0 where
  pub stands : KeepsBytes d b s
  pub monotone : d.failures a ≤ d.failures b
  pub failed : OnIo r (Rises (d.failures a) (d.failures b))
  pub told : UnlessIo r (d.failures b ≡ d.failures a)
  pub bounded : d.given b ≤ d.given a + n
  pub names : d.names b ≡ d.names a
  pub answered : IfIo r (IsAnswered d)
