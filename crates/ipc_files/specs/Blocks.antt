-- What reading a block of a file returns: its message, or why it is refused.
-- (Arrow columnar format, "IPC File Format" and "Encapsulated message format"; Message.fbs.)
use Rattle.std.specs.Prelude.{◌≡◌, ◌⊎◌, ◌==◌, ℕ, ◌+◌, ◌^◌, ◌<◌, ◌≤◌, nat_eq, nat_lt, if◌then◌else◌, Bool, IsTrue, List, [], length, drop, Option, Some, None, ok_or, Result, Ok, Err}
use Rattle.ipc_devices.specs.Faults.{OwnFault}
use Rattle.ipc_devices.specs.declared.fault.Fault.{Fault}
use Rattle.ipc_devices.specs.declared.fault.Fault.TheVariants.{Ended, OutOfSpec}
use Rattle.ipc_devices.specs.declared.fault.OutOfSpecKind.{OutOfSpecKind}
use Rattle.ipc_devices.specs.declared.fault.OutOfSpecKind.TheVariants.{InvalidFlatbufferMessage, MissingMessageHeader, InvalidFlatbufferHeader, InvalidFlatbufferVersion, UnexpectedMessageType}
use Rattle.ipc_devices.specs.declared.fault.TableFault.{TableFault}
use Rattle.ipc_table_views.specs.MessageSlots.{message_header, message_version}
use Rattle.ipc_table_views.specs.Spot.{Spot}
use Rattle.ipc_table_views.specs.Tables.{root_at}
use Rattle.ipc_table_views.specs.Unions.{header_parts}
use Rattle.ipc_table_views.specs.declared.file.Block.{Block}
use Rattle.ipc_table_views.specs.declared.schema.MetadataVersion.{MetadataVersion}
use Rattle.ipc_model.specs.Batches.{extra_of}
use Rattle.ipc_model.specs.Files.{BlockHeader, Placed, placed}
use Rattle.ipc_model.specs.Frame.{Frame, message, mark, waiting, broken, frame, sized, word}
use Rattle.ipc_read.specs.Headers.{needed_header}
use Rattle.ipc_files.specs.declared.read.file.block.BlockMessage.{BlockMessage}
use Rattle.ipc_files.specs.declared.read.file.block.BlockPlace.{BlockPlace}

-- The offsets of a block's message and of its body.
abbrev pub place_seen : BlockPlace → Placed
place_seen p = record { message = p.message; body = p.body }

-- ---- the metadata

-- The metadata of the first message, of any length: at a block, length 0
-- means a message without bytes.
abbrev pub stated_metadata : Frame → Option (List ℕ)
stated_metadata (message m rest) = Some m
stated_metadata (mark rest) = Some []
stated_metadata (waiting begun) = None
stated_metadata broken = None

-- The prefix states n bytes, which follow it; or there is no such prefix.
abbrev pub GivesPrefix : Frame → Result ℕ Fault → (rest : List ℕ) → Type 0
GivesPrefix f (Ok n) rest = f ≡ sized n rest
GivesPrefix f (Err e) rest = OwnFault e (stated_metadata f ≡ None)

-- The number that a prefix states, in the newer form or in the older one;
-- none if there are too few bytes.
unfoldable pub prefix_of : List ℕ → Option ℕ
prefix_of bytes =
    if nat_lt (length bytes) 4 then None
    else if word bytes == 0xFFFF_FFFF then (if nat_lt (length (drop 4 bytes)) 4 then None else Some (word (drop 4 bytes)))
    else Some (word bytes)

-- ---- how many bytes are read

-- At most so many bytes were read of a message that wasn't read: its prefix, and metadata of the
-- length that the prefix states.
abbrev pub PrefixGiven : Bool → (bytes : List ℕ) → (old new : ℕ) → Type 0
PrefixGiven known bytes old new =
    (new ≤ old + 8) ⊎ ((n : ℕ) × (n < 2 ^ 31) × (IsTrue known → prefix_of bytes ≡ Some n) × (new ≤ old + (8 + n)))

-- At most so many bytes were read: the prefix of a message and its
-- metadata, which were read or weren't.
abbrev pub MetadataGiven : Bool → (bytes : List ℕ) → Result Unit Fault → (metadata : List ℕ) → (old new : ℕ) → Type 0
MetadataGiven known bytes (Ok _) metadata old new = new ≤ old + (8 + length metadata)
MetadataGiven known bytes (Err e) metadata old new = PrefixGiven known bytes old new

-- At most so many bytes were read of a message: what its prefix states, or, if its
-- metadata were read, what these need.
abbrev pub MessageGiven : Bool → (needed : List ℕ → ℕ) → (bytes metadata : List ℕ) → (old new : ℕ) → Type 0
MessageGiven known needed bytes metadata old new =
    PrefixGiven known bytes old new ⊎ ((IsTrue known → stated_metadata (frame bytes) ≡ Some metadata) × (new ≤ old + needed metadata))

-- ---- why there is no message

-- The errors of a frame: fewer bytes than stated, or a negative length,
-- which is reported as `negative`.
abbrev pub IsFrameFault : OutOfSpecKind → Fault → Type 0
IsFrameFault negative e = (e ≡ Ended) ⊎ (e ≡ OutOfSpec negative)

-- The error of a frame that isn't there: its length is negative, or fewer bytes follow than it
-- states, or there is no prefix.
abbrev pub frame_fault : OutOfSpecKind → Option ℕ → Fault
frame_fault negative (Some n) = if nat_lt n (2 ^ 31) then Ended else OutOfSpec negative
frame_fault negative None = Ended

-- ---- the header

-- The header of a block's message, as the definitions have it.

abbrev pub message_seen : BlockMessage → BlockHeader
message_seen m = record { tag = (header_parts m.header).0; table = (header_parts m.header).1; extra = extra_of m.version }

-- The version of a message, or the error in it.
abbrev pub stated_version : Result MetadataVersion TableFault → Result MetadataVersion Fault
stated_version (Ok v) = Ok v
stated_version (Err e) = Err (OutOfSpec (InvalidFlatbufferVersion e))

-- A header with the version of its message, or the error in the version.
abbrev pub with_version : ℕ × Spot → Result MetadataVersion Fault → Result BlockHeader Fault
with_version h (Ok v) = Ok (record { tag = h.0; table = h.1; extra = extra_of v })
with_version h (Err e) = Err e

-- A header with the version of its message, or the error in one of them.
abbrev pub with_header : Result (ℕ × Spot) Fault → Result MetadataVersion Fault → Result BlockHeader Fault
with_header (Ok h) version = with_version h version
with_header (Err e) version = Err e

-- The header and the version of a message, by its table, or the error in them.
abbrev pub opened_table : Result Spot TableFault → Result BlockHeader Fault
opened_table (Ok t) = with_header (needed_header (message_header t)) (stated_version (message_version t))
opened_table (Err e) = Err (OutOfSpec (InvalidFlatbufferMessage e))

-- The header of the message that has this metadata, or the error in it.
unfoldable pub opened_message : List ℕ → Result BlockHeader Fault
opened_message metadata = opened_table (root_at metadata)

-- The errors of a message: its root, its header or its version is absent or invalid.
abbrev pub IsHeaderFault : Fault → Type 0
IsHeaderFault (OutOfSpec (InvalidFlatbufferMessage e)) = Unit {0}
IsHeaderFault (OutOfSpec MissingMessageHeader) = Unit {0}
IsHeaderFault (OutOfSpec (InvalidFlatbufferHeader e)) = Unit {0}
IsHeaderFault (OutOfSpec (InvalidFlatbufferVersion e)) = Unit {0}
IsHeaderFault _ = ⊥

-- ---- the message at a block, or why it is refused

-- What a function gives for a value, or the error in its place.
abbrev pub result_and_then : {A B : Type 0} → (A → Result B Fault) → Result A Fault → Result B Fault
result_and_then f (Ok x) = f x
result_and_then f (Err e) = Err e

-- A header that must have this tag in the union MessageHeader.
abbrev pub needed_kind : ℕ → BlockHeader → Result BlockHeader Fault
needed_kind tag h = if nat_eq h.tag tag then Ok h else Err (OutOfSpec UnexpectedMessageType)

-- The message of this tag at an offset, or the error in it.
abbrev pub placed_message : ℕ → OutOfSpecKind → List ℕ → Placed → Result BlockHeader Fault
placed_message tag negative source p =
    let bytes = drop p.message source in
    result_and_then (λ metadata. result_and_then (needed_kind tag) (opened_message metadata))
    (ok_or (stated_metadata (frame bytes)) (frame_fault negative (prefix_of bytes)))

-- The message of this tag at a block, or the error in it. `numbers` is the error of negative
-- numbers in the block, `negative` that of a negative length.
unfoldable pub block_message : ℕ → (numbers negative : OutOfSpecKind) → List ℕ → Block → Result BlockHeader Fault
block_message tag numbers negative source b = result_and_then (placed_message tag negative source) (ok_or (placed b) (OutOfSpec numbers))

-- The error is the one in the message, or P holds of it and of the message's header.
abbrev pub MessageReason : Result BlockHeader Fault → (BlockHeader → Fault → Type 0) → Fault → Type 0
MessageReason (Ok h) P e = P h e
MessageReason (Err f) P e = e ≡ f
