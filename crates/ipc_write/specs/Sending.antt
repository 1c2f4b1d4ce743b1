-- What sending messages does to a device.
use Rattle.std.specs.Prelude.{◌≡◌, ℕ, ◌<◌, ◌≤◌, ◌⊎◌, Bool, IsTrue, List, [], ◌∷◌, ◌++◌, length, Result, Ok, Err, OnOk, OnErr, IfErr}
use Rattle.lower_types.specs.declared.Endianness.{Endianness}
use Rattle.lower_arrays.specs.Layouts.{Layout}
use Rattle.ipc_devices.specs.Acts.{IsIoOf}
use Rattle.ipc_devices.specs.Device.{Device, IsAnswered, Rises, WritesOver}
use Rattle.ipc_devices.specs.Faults.{IfIo, OnIo, OnRefused}
use Rattle.ipc_devices.specs.declared.fault.Fault.{Fault}
use Rattle.ipc_devices.specs.declared.fault.Fault.TheVariants.{Argument, Io}
use Rattle.ipc_devices.specs.declared.fault.ArgFault.TheVariants.{TooLarge}
use Rattle.ipc_model.specs.Offers.{FilledPlace}
use Rattle.ipc_plan.specs.Sending.{Sends, WritesSome}
use Rattle.ipc_write.specs.Messages.{messages_bytes}
use Rattle.ipc_chunks.specs.Messages.{AreMessages, Message}

-- The device counted a failure, or it is memory without room for `count` bytes that couldn't grow.
abbrev pub FailsOrIsFull : (grows : Bool) → (old new room count : ℕ) → Type 0
FailsOrIsFull grows old new room count = Rises old new ⊎ (IsTrue grows × (room < count))

-- A call that sends these bytes to a device, and may flush it. The only error is one that the
-- device returned, if that counted a failure or has too little room; then a first part of the bytes
-- was sent. If the call returns Ok, all were sent, and no call of the device failed.
pub record Delivers {X W : Type 0} (d : Device W) (bytes : List ℕ) (a : W) (r : Result X Fault) (b : W) : Type 0 where
  pub monotone : d.failures a ≤ d.failures b
  pub failed : OnErr r (FailsOrIsFull d.grows (d.failures a) (d.failures b) (d.room a) (length bytes))
  pub only : IfErr r (IsIoOf d)
  pub done : OnOk r (d.failures b ≡ d.failures a)
  pub memory : IsTrue d.is_memory → OnOk r (WritesOver (d.memory a) (d.memory b) bytes)
  pub part : IsTrue d.is_memory → WritesSome (d.memory a) (d.memory b) bytes
  pub names : d.names b ≡ d.names a

-- A call that sends these bytes, or refuses them as too large, for
-- this reason: then nothing is sent.
abbrev pub SendsOrRefuses : {X W : Type 0} (d : Device W) → W → Result X Fault → W → List ℕ → Type 0 → Type 0
SendsOrRefuses d w (Err (Argument TooLarge)) w' bytes reason = (w' ≡ w) × reason
SendsOrRefuses d w r w' bytes reason = Sends d bytes w r w'

-- A call that sends these bytes, or refuses before anything is sent.
abbrev pub SendsOrKeeps : {W : Type 0} (d : Device W) → W → Result Unit Fault → W → List ℕ → Type 0
SendsOrKeeps d w (Ok x) w' bytes = Sends {X = Unit} d bytes w (Ok x) w'
SendsOrKeeps d w (Err (Io e)) w' bytes = Sends {X = Unit} d bytes w (Err (Io e)) w'
SendsOrKeeps d w (Err _) w' bytes = w' ≡ w

-- P holds if bytes were sent, all or some of them.
abbrev pub OnSent : Result Unit Fault → Type 0 → Type 0
OnSent (Ok x) P = P
OnSent (Err (Io e)) P = P
OnSent (Err _) P = Unit {0}

-- A call that sends the messages of some columns and of the dictionaries on this list, or
-- refuses before anything is sent.
pub record HandsMessages {W : Type 0} (d : Device W) (order : Endianness) (columns : List Layout) (list : List FilledPlace) (w : W) (r : Result Unit Fault) (w' : W) : Type 0 where
  pub dictionaries : List Message
  pub own : Message
  pub are : OnSent r (AreMessages order columns list dictionaries own)
  pub sends : SendsOrKeeps d w r w' (messages_bytes (dictionaries ++ own ∷ []))

-- A call that sends nothing and flushes a device took it from a to b. An `Io` is an error that the
-- device returned, and counted as a failure. If the call returns Ok, the device keeps nothing back.
pub record Flushes {W : Type 0} (d : Device W) (a : W) (r : Result Unit Fault) (b : W) : Type 0 where
  pub monotone : d.failures a ≤ d.failures b
  pub failed : OnIo r (Rises (d.failures a) (d.failures b))
  pub answered : IfIo r (IsAnswered d)
  pub refused : OnRefused r (b ≡ a)
  pub done : OnOk r (d.failures b ≡ d.failures a)
  pub flushed : OnOk r (IsTrue (d.is_flushed b))
  pub memory : IsTrue d.is_memory → d.memory b ≡ d.memory a
  pub names : d.names b ≡ d.names a
