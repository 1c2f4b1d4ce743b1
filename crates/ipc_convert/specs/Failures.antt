-- What a device's error of a copy says: a call of one of its devices failed.
use Rattle.std.specs.Prelude.{◌≡◌, ◌⊎◌, ℕ}
use Rattle.ipc_devices.specs.Device.{Device, Rises}
use Rattle.ipc_write.specs.Sending.{FailsOrIsFull}

-- `fails v w`: the call from state v to state w failed at a device.
abbrev pub FailsAt : Type 0 → Type 1
FailsAt T = T → T → Type 0

-- A call that sends some bytes failed: the device counted a failure; or it is memory without
-- room for them that couldn't grow.
pub record SendFails {W : Type 0} (d : Device W) (from to : W) : Type 0 where
  pub count : ℕ
  pub failed : FailsOrIsFull d.grows (d.failures from) (d.failures to) (d.room from) count

-- The last call of a sink failed at its device, and none before it.
pub record SinkFails {T : Type 0} (failures : T → ℕ) (fails : FailsAt T) (v w : T) : Type 0 where
  pub last : T
  pub before : failures last ≡ failures v
  pub failed : fails last w

-- The last call of a source failed at its device, or the last call of a sink did.
abbrev pub CopyFails : {S T : Type 0} → (S → ℕ) → (T → ℕ) → FailsAt T → (a : S) (v : T) (b : S) (w : T) → Type 0
CopyFails failures others fails a v b w = Rises (failures a) (failures b) ⊎ SinkFails others fails v w

-- A call of this output failed, and none before it: it began in some state of the output
-- with the same count of failures.
pub record OutputFails {W : Type 0} (d : Device W) (out : W) : Type 0 where
  pub from : W
  pub to : W
  pub before : d.failures from ≡ d.failures out
  pub failed : SendFails d from to
