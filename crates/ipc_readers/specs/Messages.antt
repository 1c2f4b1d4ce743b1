-- What the metadata of a message after the schema say: its header, and the length of its body.
-- (Arrow columnar format, "Encapsulated message format"; the fields are those of Message.fbs.)
use Rattle.std.specs.Prelude.{◌≡◌, ℕ, ℤ, List, pos, negsuc, Option, Some, None, Result, Ok, Err}
use Rattle.ipc_devices.specs.declared.fault.Fault.{Fault}
use Rattle.ipc_devices.specs.declared.fault.Fault.TheVariants.{OutOfSpec}
use Rattle.ipc_devices.specs.declared.fault.OutOfSpecKind.TheVariants.{InvalidFlatbufferMessage, InvalidFlatbufferBodyLength, UnexpectedNegativeInteger}
use Rattle.ipc_devices.specs.declared.fault.TableFault.{TableFault}
use Rattle.ipc_table_views.specs.MessageSlots.{message_header, message_body_length}
use Rattle.ipc_table_views.specs.Spot.{Spot}
use Rattle.ipc_table_views.specs.Tables.{root_at}
use Rattle.ipc_table_views.specs.Unions.{header_parts}
use Rattle.ipc_model.specs.Streams.{Header}
use Rattle.ipc_read.specs.Headers.{needed_header}
use Rattle.ipc_readers.specs.declared.read.message.Message.{Message}

-- The header of a message and the length of its body, as the definitions have them.
abbrev pub header_seen : Message → Header
header_seen m = record { tag = (header_parts m.header).0; table = (header_parts m.header).1; body = m.body_length }

-- The length of a body, or the error in it; it isn't negative.
abbrev pub natural_length : Result ℤ TableFault → Result ℕ Fault
natural_length (Ok (pos n)) = Ok n
natural_length (Ok (negsuc n)) = Err (OutOfSpec UnexpectedNegativeInteger)
natural_length (Err e) = Err (OutOfSpec (InvalidFlatbufferBodyLength e))

-- A header with the length of the body, or the error in the length.
abbrev pub with_length : ℕ × Spot → Result ℕ Fault → Result Header Fault
with_length h (Ok n) = Ok (record { tag = h.0; table = h.1; body = n })
with_length h (Err e) = Err e

-- A header with the length of the body, or the error in one of them.
abbrev pub with_header : Result (ℕ × Spot) Fault → Result ℕ Fault → Result Header Fault
with_header (Ok h) length = with_length h length
with_header (Err e) length = Err e

-- The header and body length of a message, by its table, or the error in them.
abbrev pub opened_table : Result Spot TableFault → Result Header Fault
opened_table (Ok t) = with_header (needed_header (message_header t)) (natural_length (message_body_length t))
opened_table (Err e) = Err (OutOfSpec (InvalidFlatbufferMessage e))

-- The header and body length of the message that has this metadata, or the error in them.
unfoldable pub opened : List ℕ → Result Header Fault
opened metadata = opened_table (root_at metadata)

-- The result is the message, or there is none.
abbrev pub GivesMessage : Option Header → Result Message Fault → Type 0
GivesMessage h (Ok m) = h ≡ Some (header_seen m)
GivesMessage h (Err e) = h ≡ None
