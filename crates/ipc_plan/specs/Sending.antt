-- What a call that sends bytes does to its device.
use Rattle.std.specs.Prelude.{◌≡◌, ℕ, ◌+◌, ◌<◌, ◌≤◌, ◌⊎◌, IsTrue, List, length, take, Result, OnOk, OnErr, IfErr}
use Rattle.ipc_devices.specs.Acts.{IsIoOf}
use Rattle.ipc_devices.specs.Device.{Device, Memory, Rises, WritesOver}
use Rattle.ipc_devices.specs.declared.fault.Fault.{Fault}

-- A first part of these bytes was written at the offset of the memory, and nothing else.
pub record WritesSome (m m' : Memory) (bytes : List ℕ) : Type 0 where
  pub count : ℕ
  pub most : count ≤ length bytes
  pub over : WritesOver m m' (take count bytes)

-- A call sends these bytes to a device, whose state it takes from a to b. Its only error is one
-- that the device returned, if that counted a failure or must grow and can't; a first part of the
-- bytes was written then. If it is Ok, all were written, and no call of the device failed.
pub record Sends {X W : Type 0} (d : Device W) (bytes : List ℕ) (a : W) (r : Result X Fault) (b : W) : Type 0 where
  pub monotone : d.failures a ≤ d.failures b
  pub failed : OnErr r (Rises (d.failures a) (d.failures b) ⊎ (IsTrue d.grows × (d.room a < length bytes)))
  pub only : IfErr r (IsIoOf d)
  pub done : OnOk r (d.failures b ≡ d.failures a)
  pub memory : IsTrue d.is_memory → OnOk r (WritesOver (d.memory a) (d.memory b) bytes)
  pub part : IsTrue d.is_memory → WritesSome (d.memory a) (d.memory b) bytes
  pub room : OnOk r (d.room a ≤ d.room b + length bytes)
  pub names : d.names b ≡ d.names a
