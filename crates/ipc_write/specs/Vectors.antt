-- A vector as the device of a writer: how many bytes it has room for.
use Rattle.std.specs.Prelude.{ℕ, ◌-◌, ◌<◌, List, length, Vec, vec_capacity, vec_len}
use Rattle.std.specs.declared.alloc.Global.{Global}
use Rattle.ipc_devices.specs.Device.{Device, memory_device}

-- How many bytes more a vector has room for.
abbrev pub vector_room : Vec ℕ Global → ℕ
vector_room v = vec_capacity v - vec_len v

-- a vector as a device: its bytes, and the place behind the last of them
abbrev pub vectors : Device (Vec ℕ Global)
vectors = memory_device (λ v. record { whole = v.items; place = vec_len v }) (λ _. 0) vector_room

-- A vector has no room for bytes that are to be sent, of which P holds.
pub record HasNoRoom (v : Vec ℕ Global) (P : List ℕ → Type 0) : Type 0 where
  pub bytes : List ℕ
  pub are : P bytes
  pub full : vector_room v < length bytes
