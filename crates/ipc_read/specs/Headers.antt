-- The header of a message, which must be present.
-- (Arrow columnar format, "Encapsulated message format"; the field is that of Message.fbs.)
use Rattle.std.specs.Prelude.{ℕ, Option, Some, None, Result, Ok, Err}
use Rattle.ipc_devices.specs.declared.fault.Fault.{Fault}
use Rattle.ipc_devices.specs.declared.fault.Fault.TheVariants.{OutOfSpec}
use Rattle.ipc_devices.specs.declared.fault.OutOfSpecKind.TheVariants.{MissingMessageHeader, InvalidFlatbufferHeader}
use Rattle.ipc_devices.specs.declared.fault.TableFault.{TableFault}
use Rattle.ipc_table_views.specs.Spot.{Spot}

-- A result whose value is seen as something else.
abbrev pub answered_as : {A B : Type 0} → (A → B) → Result A Fault → Result B Fault
answered_as view (Ok x) = Ok (view x)
answered_as view (Err e) = Err e

-- The header of a message, or the error if there is none.
abbrev pub needed_header : Result (Option (ℕ × Spot)) TableFault → Result (ℕ × Spot) Fault
needed_header (Ok (Some h)) = Ok h
needed_header (Ok None) = Err (OutOfSpec MissingMessageHeader)
needed_header (Err e) = Err (OutOfSpec (InvalidFlatbufferHeader e))

-- The errors of a message's header: it is absent or invalid.
abbrev pub LacksHeader : Fault → Type 0
LacksHeader (OutOfSpec MissingMessageHeader) = Unit {0}
LacksHeader (OutOfSpec (InvalidFlatbufferHeader e)) = Unit {0}
LacksHeader _ = ⊥
