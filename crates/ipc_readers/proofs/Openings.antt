-- An opened message is the message that the metadata means.
use Rattle.std.proofs.Common.{◌≡◌, ℕ, ℤ, pos, negsuc, List, Option, Some, None, Result, Ok, Err, refl}
use Rattle.ipc_devices.proofs.Claims.{claims_through}
use Rattle.ipc_devices.specs.Faults.{OwnFault}
use Rattle.ipc_devices.specs.declared.fault.Fault.{Fault}
use Rattle.ipc_devices.specs.declared.fault.Fault.TheVariants.{OutOfSpec}
use Rattle.ipc_devices.specs.declared.fault.OutOfSpecKind.TheVariants.{MissingMessageHeader, InvalidFlatbufferHeader}
use Rattle.ipc_devices.specs.declared.fault.TableFault.{TableFault}
use Rattle.ipc_table_views.specs.MessageSlots.{message_header, message_body_length}
use Rattle.ipc_table_views.specs.Spot.{Spot}
use Rattle.ipc_table_views.specs.Tables.{root_at}
use Rattle.ipc_model.specs.Streams.{Header, header_of, header_at, both_slots}
use Rattle.ipc_readers.specs.declared.read.message.Message.{Message}
use Rattle.ipc_read.specs.Headers.{LacksHeader, answered_as, needed_header}
use Rattle.ipc_readers.specs.Messages.{GivesMessage, header_seen, natural_length, opened, opened_table, with_header}
use Rattle.ipc_readers.specs.Refusals.{IsMessageFault}

found : Result Header Fault → Option Header
found (Ok h) = Some h
found (Err e) = None

found_slots : (h : Result (Option (ℕ × Spot)) TableFault) (n : Result ℤ TableFault) → both_slots h n ≡ found (with_header (needed_header h) (natural_length n))
unfolding found
found_slots (Ok (Some u)) (Ok (pos n)) = refl
found_slots (Ok (Some u)) (Ok (negsuc n)) = refl
found_slots (Ok (Some u)) (Err e) = refl
found_slots (Ok None) n = refl
found_slots (Err e) n = refl

found_table : (t : Result Spot TableFault) → header_at t ≡ found (opened_table t)
unfolding found
found_table (Ok t) = found_slots (message_header t) (message_body_length t)
found_table (Err e) = refl

found_header : (metadata : List ℕ) → header_of metadata ≡ found (opened metadata)
unfolding header_of opened
found_header metadata = found_table (root_at metadata)

gives : (result : Result Message Fault) (h : Option Header) (o : Result Header Fault) → answered_as header_seen result ≡ o → h ≡ found o → GivesMessage h result
unfolding found
gives (Ok m) h o e f = rw (← e) at f
gives (Err x) h o e f = rw (← e) at f

pub gives_message : (metadata : List ℕ) (result : Result Message Fault) → answered_as header_seen result ≡ opened metadata → GivesMessage (header_of metadata) result
gives_message metadata result e = gives result (header_of metadata) (opened metadata) e (found_header metadata)

-- A message without a header is refused.
lacks : (e : Fault) → LacksHeader e → IsMessageFault e
lacks (OutOfSpec MissingMessageHeader) h = tt
lacks (OutOfSpec (InvalidFlatbufferHeader x)) h = tt
lacks _ h = absurd h

pub header_faults : (e : Fault) → OwnFault e (LacksHeader e) → OwnFault e (IsMessageFault e)
header_faults e = claims_through e (LacksHeader e) (IsMessageFault e) (lacks e)
