-- What calls of `next` returned, one after the other, until None or an error came.
-- (Arrow columnar format, "IPC File Format".)
use Rattle.std.specs.Prelude.{◌≡◌, ◌⊎◌, ◌≤◌, Bool, true, false, List, [], ◌∷◌, ◌++◌, map, None, Some, Result, Ok, Err}
use Rattle.lower_arrays.specs.declared.array.AnyArray.{AnyArray}
use Rattle.ipc_devices.specs.Device.{Device, Rises}
use Rattle.ipc_devices.specs.Faults.{OnIo}
use Rattle.ipc_devices.specs.declared.fault.Fault.{Fault}
use Rattle.ipc_devices.specs.declared.fault.Fault.TheVariants.{Memory}
use Rattle.ipc_file_readers.specs.Readers.{Answer, NextStep, device_of}
use Rattle.ipc_file_readers.specs.Runs.{Calls}
use Rattle.ipc_file_readers.specs.declared.read.reader.state.FileReader.{FileReader}

-- The answers that are these chunks.
abbrev pub answers_of : List (List AnyArray) → List Answer
answers_of xs = map (λ x. Some (Ok x)) xs

-- A call returned one more chunk, or None, or an error; or an allocation for the chunk failed.
abbrev pub GivesPush : {R : Type 0} → (d : Device R) → FileReader R → List (List AnyArray) → Result Bool Fault → FileReader R → List (List AnyArray) → Type 0
GivesPush d a xs (Ok true) b ys = (x : List AnyArray) × (ys ≡ xs ++ x ∷ []) × NextStep d a (Some (Ok x)) b
GivesPush d a xs (Ok false) b ys = (ys ≡ xs) × NextStep d a None b
GivesPush d a xs (Err e) b ys = (e ≡ Memory) ⊎ NextStep d a (Some (Err e)) b

-- A call of `next` returned one more chunk, None, or an error. The device's failures rise if its
-- error is returned, and never fall.
pub record PushesNext {R : Type 0} (d : Device R) (a : FileReader R) (xs : List (List AnyArray)) (r : Result Bool Fault) (b : FileReader R) (ys : List (List AnyArray)) : Type 0 where
  pub push : GivesPush d a xs r b ys
  pub failed : OnIo r (Rises (d.failures (device_of a)) (d.failures (device_of b)))
  pub monotone : d.failures (device_of a) ≤ d.failures (device_of b)

-- Calls returned these chunks, and then None.
pub record GivesAll {R : Type 0} (d : Device R) (a : FileReader R) (xs : List (List AnyArray)) : Type 0 where
  pub calls : Calls d a (answers_of xs ++ None ∷ [])

-- Calls returned some chunks, and then an error.
pub record GivesThenFails {R : Type 0} (d : Device R) (a : FileReader R) (e : Fault) : Type 0 where
  pub chunks : List (List AnyArray)
  pub calls : Calls d a (answers_of chunks ++ Some (Err e) ∷ [])

-- Why not all chunks were read: a call returned this error, or an allocation failed.
abbrev pub ReadBlocksCause : {R : Type 0} → (d : Device R) → FileReader R → Fault → Type 0
ReadBlocksCause d a e = (e ≡ Memory) ⊎ GivesThenFails d a e
