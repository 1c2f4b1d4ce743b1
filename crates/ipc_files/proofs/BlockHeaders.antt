-- An opened message is what the metadata mean.
use Rattle.std.proofs.Common.{◌≡◌, ℕ, List, [], Option, Some, None, Result, Ok, Err, refl}
use Rattle.ipc_devices.proofs.Claims.{claimed, claims_through}
use Rattle.ipc_devices.specs.Faults.{OwnFault}
use Rattle.ipc_devices.specs.declared.fault.Fault.{Fault}
use Rattle.ipc_devices.specs.declared.fault.Fault.TheVariants.{OutOfSpec}
use Rattle.ipc_devices.specs.declared.fault.OutOfSpecKind.TheVariants.{MissingMessageHeader, InvalidFlatbufferHeader}
use Rattle.ipc_devices.specs.declared.fault.TableFault.{TableFault}
use Rattle.ipc_table_views.specs.MessageSlots.{message_header, message_version}
use Rattle.ipc_table_views.specs.Spot.{Spot}
use Rattle.ipc_table_views.specs.Tables.{number_at, root_at}
use Rattle.ipc_table_views.specs.declared.schema.MetadataVersion.{MetadataVersion}
use Rattle.ipc_model.specs.Batches.{extra_of}
use Rattle.ipc_model.specs.Files.{BlockHeader, block_header}
use Rattle.ipc_model.specs.Schemas.{made, present, given}
use Rattle.ipc_files.specs.declared.read.file.block.BlockMessage.{BlockMessage}
use Rattle.ipc_read.specs.Headers.{LacksHeader, answered_as, needed_header}
use Rattle.ipc_files.specs.Blocks.{IsHeaderFault, message_seen, opened_message, opened_table, stated_version, with_header}
use Rattle.ipc_files.specs.Footers.{GivesPart}

abbrev found : Result BlockHeader Fault → Option BlockHeader
found (Ok h) = Some h
found (Err e) = None

abbrev of-slots : Option (ℕ × Spot) → Option MetadataVersion → Option BlockHeader
of-slots u v = given u (λ h. given v (λ version. Some (record { tag = h.0; table = h.1; extra = extra_of version })))

found-slots : (h : Result (Option (ℕ × Spot)) TableFault) (v : Result MetadataVersion TableFault)
    → of-slots (present h) (made v) ≡ found (with_header (needed_header h) (stated_version v))
found-slots (Ok (Some u)) (Ok v) = refl
found-slots (Ok (Some u)) (Err e) = refl
found-slots (Ok None) v = refl
found-slots (Err e) v = refl

found-table : (t : Result Spot TableFault) → given (made t) (λ s. of-slots (present (message_header s)) (made (message_version s))) ≡ found (opened_table t)
found-table (Ok t) = found-slots (message_header t) (message_version t)
found-table (Err e) = refl

found-header : (metadata : List ℕ) → block_header metadata ≡ found (opened_message metadata)
unfolding block_header opened_message
found-header metadata = found-table (root_at metadata)

gives : (result : Result BlockMessage Fault) (h : Option BlockHeader) (o : Result BlockHeader Fault) → answered_as message_seen result ≡ o → h ≡ found o → GivesPart message_seen result h
gives (Ok m) h o e f = rw (← e) at f
gives (Err x) h o e f = claimed x _ (rw (← e) at f)

pub gives-message : (metadata : List ℕ) (result : Result BlockMessage Fault) → answered_as message_seen result ≡ opened_message metadata → GivesPart message_seen result (block_header metadata)
gives-message metadata result e = gives result (block_header metadata) (opened_message metadata) e (found-header metadata)

-- a message without bytes has no header
pub no-header : block_header [] ≡ None
unfolding block_header number_at
no-header = refl

-- A message without a header is refused.
lacks : (e : Fault) → LacksHeader e → IsHeaderFault e
lacks (OutOfSpec MissingMessageHeader) h = tt
lacks (OutOfSpec (InvalidFlatbufferHeader x)) h = tt
lacks _ h = absurd h

pub header_faults : (e : Fault) → OwnFault e (LacksHeader e) → OwnFault e (IsHeaderFault e)
header_faults e = claims_through e (LacksHeader e) (IsHeaderFault e) (lacks e)
