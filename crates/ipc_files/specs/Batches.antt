-- What reading the record batch at a block returns.
-- (Arrow columnar format, "IPC File Format" and "RecordBatch message".)
use Rattle.std.specs.Prelude.{◌≡◌, ◌⊎◌, ℕ, ◌+◌, ◌≤◌, nat_eq, if◌then◌else◌, Bool, List, length, drop, Option, None, Some, MatchOption, IsSomeAnd, Result, Ok, Err}
use Rattle.std.specs.Option.{option_and_then}
use Rattle.lower_arrays.specs.declared.array.AnyArray.{AnyArray}
use Rattle.ipc_devices.specs.declared.fault.Fault.{Fault}
use Rattle.ipc_devices.specs.declared.fault.Fault.TheVariants.{OutOfSpec}
use Rattle.ipc_devices.specs.declared.fault.OutOfSpecKind.TheVariants.{NegativeFooterLength, UnexpectedNegativeInteger, UnexpectedMessageType}
use Rattle.ipc_table_views.specs.Spot.{Spot}
use Rattle.ipc_table_views.specs.declared.file.Block.{Block}
use Rattle.ipc_table_views.specs.declared.message.MessageHeaderRef.{MessageHeaderRef}
use Rattle.ipc_table_views.specs.declared.message.MessageHeaderRef.TheVariants.{RecordBatch}
use Rattle.ipc_model.specs.Batches.{kinds, lists_of}
use Rattle.ipc_model.specs.Files.{BlockHeader, FileMetadata, block_header, metadata_at, placed}
use Rattle.ipc_model.specs.Kinds.{Kinds}
use Rattle.ipc_model.specs.Schemas.{given}
use Rattle.ipc_files.specs.Blocks.{IsFrameFault, IsHeaderFault, MessageGiven, MessageReason, block_message}
use Rattle.ipc_read.specs.HeldChunks.{HoldChosen}
use Rattle.ipc_read.specs.Refusals.{IsFaultOfBatch, TellsBatch}
use Rattle.ipc_read.specs.Sizes.{chosen_listed}

-- The record batch in the header of a message; an error if the header is another one.
abbrev pub needed_record : MessageHeaderRef → Result Spot Fault
needed_record (RecordBatch t) = Ok t
needed_record _ = Err (OutOfSpec UnexpectedMessageType)

-- The metadata of the message at a block of a file.
abbrev pub block_metadata : List ℕ → Option Block → Option (List ℕ)
block_metadata source b = option_and_then (λ x. given (placed x) (metadata_at source)) b

-- ---- how many bytes are needed

-- The encoded length of some columns' buffers, by the header of their
-- message; 0 if it is no record batch.
abbrev pub header_lists : Kinds → List ℕ → Option BlockHeader → ℕ
header_lists ts js None = 0
header_lists ts js (Some h) = if nat_eq h.tag 3 then chosen_listed (lists_of h.table) h.extra ts js else 0

-- How many bytes are read of a block: the message's prefix and metadata, and the encoded length
-- of the chosen columns' buffers.
abbrev pub needed_bytes : Kinds → List ℕ → List ℕ → ℕ
needed_bytes ts js metadata = 8 + length metadata + header_lists ts js (block_header metadata)

-- ---- how many bytes are read

-- The bytes read of a block that was refused: no more than its message's prefix states, or, if its
-- metadata were read, than these need. No byte is read if a number of the block is negative.
abbrev pub RefusedGiven : Bool → (needed : List ℕ → ℕ) → List ℕ → Option Block → (metadata : List ℕ) → (old new : ℕ) → Type 0
RefusedGiven known needed source b metadata old new =
    MatchOption (option_and_then placed b) (new ≤ old) (λ p. MessageGiven known needed (drop p.message source) metadata old new)

-- At most so many bytes were read of a block: what the metadata of its message need; or, if it was
-- refused, at most what its message states.
abbrev pub BlockGiven : {X : Type 0} → Bool → (needed : List ℕ → ℕ) → List ℕ → Option Block → (metadata : List ℕ) → Result X Fault → (old new : ℕ) → Type 0
BlockGiven known needed source b metadata (Ok x) old new = new ≤ old + needed metadata
BlockGiven known needed source b metadata (Err e) old new = RefusedGiven known needed source b metadata old new

-- ---- how many bytes are retained

-- The arrays of some columns retain at most the encoded length of their buffers by this header, and
-- at most that of all buffers. One offset for each empty buffer of offsets comes on top.
abbrev pub HeaderHolds : ℕ → Kinds → List ℕ → Option BlockHeader → List AnyArray → Type 0
HeaderHolds most ts js None xs = ⊥
HeaderHolds most ts js (Some h) xs = HoldChosen most (lists_of h.table) h.extra ts js xs

-- The arrays of some columns retain at most the encoded length of their buffers, and
-- of all buffers, by the message with this metadata. One offset for each empty
-- buffer of offsets comes on top.
abbrev pub HoldBatch : ℕ → Kinds → List ℕ → List ℕ → List AnyArray → Type 0
HoldBatch most ts js metadata xs = HeaderHolds most ts js (block_header metadata) xs

-- ---- errors

-- The errors of a record block: a negative number in the block, or an error of its batch. Or its
-- message isn't there, has a negative length, is invalid, or is of another kind.
abbrev pub IsRecordFault : Kinds → List ℕ → Fault → Type 0
IsRecordFault ts js e =
    (e ≡ OutOfSpec NegativeFooterLength) ⊎ (IsFrameFault UnexpectedNegativeInteger e ⊎ (IsHeaderFault e
    ⊎ ((e ≡ OutOfSpec UnexpectedMessageType) ⊎ IsFaultOfBatch ts js e)))

-- The errors that the record batch in this header can have, in a file. What an error says of the
-- batch's lists is true of its table.
abbrev pub BlamesRecord : FileMetadata → List ℕ → BlockHeader → Fault → Type 0
BlamesRecord m js h e = IsFaultOfBatch (kinds m.schema) js e × TellsBatch m.schema h.extra h.table m.size e

-- Why a record block is refused: its message, which must have the tag 3, or its batch.
abbrev pub RecordReason : FileMetadata → List ℕ → List ℕ → Option Block → Fault → Type 0
RecordReason m js source b e =
    IsSomeAnd b (λ x. MessageReason (block_message 3 NegativeFooterLength UnexpectedNegativeInteger source x) (BlamesRecord m js) e)
