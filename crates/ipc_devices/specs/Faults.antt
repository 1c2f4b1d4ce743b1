-- What a result says of the input, of allocation and of devices.
use Rattle.std.specs.Prelude.{Result, Ok, Err}
use Rattle.std.specs.declared.io.Error.{Error}
use Rattle.ipc_devices.specs.declared.fault.Fault.{Fault}
use Rattle.ipc_devices.specs.declared.fault.Fault.TheVariants.{Io, Memory}

-- If the result is a device's error, P holds.
abbrev pub OnIo : {X : Type 0} → Result X Fault → Type 0 → Type 0
OnIo (Ok x) P = Unit {0}
OnIo (Err (Io e)) P = P
OnIo (Err _) P = Unit {0}

-- an error of a device is returned: P holds of it
abbrev pub IfIo : {X : Type 0} → Result X Fault → (Error → Type 0) → Type 0
IfIo (Err (Io e)) P = P e
IfIo _ P = Unit {0}

-- Unless the result is a device's error, P holds.
abbrev pub UnlessIo : {X : Type 0} → Result X Fault → Type 0 → Type 0
UnlessIo (Ok x) P = P
UnlessIo (Err (Io e)) P = Unit {0}
UnlessIo (Err _) P = P

-- If the result is an error, also one of allocation, but not a device's, P holds.
abbrev pub OnRefused : {X : Type 0} → Result X Fault → Type 0 → Type 0
OnRefused (Ok x) P = Unit {0}
OnRefused (Err (Io e)) P = Unit {0}
OnRefused (Err _) P = P

-- P holds, or the error is one of allocation or of a device.
abbrev pub OwnFault : Fault → Type 0 → Type 0
OwnFault Memory P = Unit {0}
OwnFault (Io e) P = Unit {0}
OwnFault _ P = P

-- The result is Ok exactly if `well` holds, and its value is then as `value` says, unless an
-- allocation or the device fails.
abbrev pub Answers : {X : Type 0} → Result X Fault → Type 0 → (X → Type 0) → Type 0
Answers (Ok x) well value = well × value x
Answers (Err e) well value = OwnFault e (well → ⊥)

-- The fault is a device's error.
abbrev pub IsIo : Fault → Type 0
IsIo (Io e) = Unit {0}
IsIo _ = ⊥
