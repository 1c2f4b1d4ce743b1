-- What a call does to its device, apart from the bytes that it reads or writes.
use Rattle.std.specs.Prelude.{◌≡◌, ◌≤◌, IsTrue, Result}
use Rattle.ipc_devices.specs.Device.{Device, IsAnswered, Rises}
use Rattle.ipc_devices.specs.Faults.{IfIo, OnIo, UnlessIo}
use Rattle.ipc_devices.specs.declared.fault.Fault.{Fault}
use Rattle.ipc_devices.specs.declared.fault.Fault.TheVariants.{Io}

-- A call that reads took the device from a to b: it returns `Io` exactly if the device counted a
-- failure, and then an error that the device returned. The bytes stay if reads never change them.
pub record ReadsDevice {R X : Type 0} (d : Device R) (a : R) (r : Result X Fault) (b : R) : Type 0 where
  pub monotone : d.failures a ≤ d.failures b
  pub failed : OnIo r (Rises (d.failures a) (d.failures b))
  pub told : UnlessIo r (d.failures b ≡ d.failures a)
  pub whole : IsTrue d.is_read_only → (d.memory b).whole ≡ (d.memory a).whole
  pub names : d.names b ≡ d.names a
  pub answered : IfIo r (IsAnswered d)

-- The fault is an error that the device returned.
abbrev pub IsIoOf : {S : Type 0} → Device S → Fault → Type 0
IsIoOf d (Io e) = IsAnswered d e
IsIoOf d _ = ⊥

-- A call that returns no error took the device from a to b: no failure was counted, and the bytes
-- stay if reads never change them.
pub record LeavesDevice {R : Type 0} (d : Device R) (a b : R) : Type 0 where
  pub failures : d.failures b ≡ d.failures a
  pub whole : IsTrue d.is_read_only → (d.memory b).whole ≡ (d.memory a).whole
  pub names : d.names b ≡ d.names a
