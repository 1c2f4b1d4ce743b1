-- What reading the dictionaries of a file returns.
-- (Arrow columnar format, "IPC File Format" and "Dictionary messages".)
use Rattle.std.specs.Prelude.{◌≡◌, ◌⊎◌, ℕ, ℤ, ◌+◌, ◌≤◌, nat_eq, if◌then◌else◌, Bool, IsTrue, List, [], ◌∷◌, length, Option, None, Some, MatchOption, Result, Ok, Err}
use Rattle.lower_arrays.specs.Held.{held}
use Rattle.lower_arrays.specs.Layouts.{Layout}
use Rattle.ipc_devices.specs.Faults.{OwnFault}
use Rattle.ipc_devices.specs.declared.fault.Fault.{Fault}
use Rattle.ipc_devices.specs.declared.fault.Fault.TheVariants.{OutOfSpec}
use Rattle.ipc_devices.specs.declared.fault.OutOfSpecKind.TheVariants.{NegativeFooterLength, UnexpectedNegativeInteger, UnexpectedMessageType}
use Rattle.ipc_table_views.specs.Spot.{Spot}
use Rattle.ipc_table_views.specs.declared.file.Block.{Block}
use Rattle.ipc_table_views.specs.declared.message.MessageHeaderRef.{MessageHeaderRef}
use Rattle.ipc_table_views.specs.declared.message.MessageHeaderRef.TheVariants.{DictionaryBatch}
use Rattle.ipc_model.specs.Batches.{Schema}
use Rattle.ipc_model.specs.Entries.{Dictionaries}
use Rattle.ipc_model.specs.Files.{BlockHeader, FileMetadata, block_header, dictionaries_at}
use Rattle.ipc_stream_lemmas.specs.Agreement.{AreAlike}
use Rattle.ipc_files.specs.Batches.{RefusedGiven, block_metadata}
use Rattle.ipc_files.specs.Blocks.{IsFrameFault, IsHeaderFault, MessageReason, block_message}
use Rattle.ipc_read.specs.DictionaryBatches.{BlamesDictionary, IsDictionaryFault, dictionary_head, values_listed, TellsValues}
use Rattle.ipc_read.specs.HeldChunks.{values_empty, HoldsValues}

-- The dictionary batch in the header of a message; an error if the header is another one.
abbrev pub needed_dictionary : MessageHeaderRef → Result Spot Fault
needed_dictionary (DictionaryBatch t) = Ok t
needed_dictionary _ = Err (OutOfSpec UnexpectedMessageType)

-- The result is Ok exactly if there is a meaning, unless an allocation or the device fails; the
-- same values are then known under each id.
abbrev pub GivesKnown : {X : Type 0} → (X → Dictionaries) → Result X Fault → Option Dictionaries → Type 0
GivesKnown view (Ok x) meaning = AreAlike meaning (Some (view x))
GivesKnown view (Err e) meaning = OwnFault e (meaning ≡ None)

-- The errors of a dictionary block: a negative number in the block, or an error of its batch. Or
-- its message isn't there, has a negative length, is invalid, or is of another kind.
abbrev pub IsDictionaryBlockFault : Fault → Type 0
IsDictionaryBlockFault e =
    (e ≡ OutOfSpec UnexpectedNegativeInteger) ⊎ (IsFrameFault NegativeFooterLength e ⊎ (IsHeaderFault e
    ⊎ ((e ≡ OutOfSpec UnexpectedMessageType) ⊎ IsDictionaryFault e)))

-- The errors that the dictionary batch in this header can have, in a file. An unknown id is one
-- that no field has, and what an error says of the values' lists is true of their table.
abbrev pub BlamesValues : FileMetadata → BlockHeader → Fault → Type 0
BlamesValues m h e = BlamesDictionary m.schema h.table e × TellsValues m.schema h.extra h.table m.size e

-- Why a dictionary block is refused: its message, which must have the tag 2, or its batch.
abbrev pub DictionaryReason : FileMetadata → List ℕ → Block → Fault → Type 0
DictionaryReason m source b e = MessageReason (block_message 2 UnexpectedNegativeInteger NegativeFooterLength source b) (BlamesValues m) e

-- Why the dictionary blocks are refused: the first one whose dictionary has no meaning.
abbrev pub DictionariesReason : FileMetadata → List ℕ → Dictionaries → List Block → Fault → Type 0
DictionariesReason m source known [] e = ⊥
DictionariesReason m source known (b ∷ bs) e =
    MatchOption (dictionaries_at m known source b) (DictionaryReason m source b e) (λ after. DictionariesReason m source after bs e)

-- ---- how many bytes are needed

-- The encoded length of a dictionary's buffers, by the header of its message;
-- 0 if it is no dictionary batch.
abbrev pub header_values : Schema → Option BlockHeader → ℕ
header_values schema None = 0
header_values schema (Some h) = if nat_eq h.tag 2 then values_listed schema h.extra h.table else 0

-- The bytes of a dictionary's buffers, of the message that lists them, and of its prefix.
abbrev pub needed_values : Schema → List ℕ → ℕ
needed_values schema metadata = 8 + length metadata + header_values schema (block_header metadata)

-- Some dictionary blocks need n bytes, by the metadata of their messages.
abbrev pub NeedValues : Bool → Schema → List ℕ → List Block → ℕ → Type 0
NeedValues known schema source [] n = n ≡ 0
NeedValues known schema source (b ∷ bs) n =
    (metadata : List ℕ) × (rest : ℕ) × (IsTrue known → block_metadata source (Some b) ≡ Some metadata)
    × NeedValues known schema source bs rest × (n ≡ needed_values schema metadata + rest)

-- At most as many bytes were read as the dictionaries of a file need.
pub record ValuesGiven (known : Bool) (m : FileMetadata) (source : List ℕ) (old new : ℕ) : Type 0 where
  pub bytes : ℕ
  pub needed : NeedValues known m.schema source m.dictionaries bytes
  pub most : new ≤ old + bytes

-- One of some blocks was refused. At most so many bytes were read: what the blocks before it need,
-- and what was read of the refused one.
abbrev pub RefusedValues : Bool → Schema → List ℕ → List Block → (old new : ℕ) → Type 0
RefusedValues known schema source [] old new = ⊥
RefusedValues known schema source (b ∷ bs) old new =
    (metadata : List ℕ) × (RefusedGiven known (needed_values schema) source (Some b) metadata old new
    ⊎ ((IsTrue known → block_metadata source (Some b) ≡ Some metadata) × RefusedValues known schema source bs (old + needed_values schema metadata) new))

-- At most as many bytes were read as the dictionaries of a file need,
-- or those before the refused one.
abbrev pub ValuesTaken : {X : Type 0} → Bool → FileMetadata → List ℕ → Result X Fault → (old new : ℕ) → Type 0
ValuesTaken known m source (Ok x) old new = ValuesGiven known m source old new
ValuesTaken known m source (Err e) old new = RefusedValues known m.schema source m.dictionaries old new

-- ---- how many bytes are retained

-- The dictionary batch of this message set the array under its id. It retains at most the encoded
-- length of its buffers, and of all of them, plus one offset for each empty buffer of offsets.
-- The other arrays are as before.
abbrev pub HoldsHeader : ℕ → Schema → Option BlockHeader → (before after : Option ℤ → Layout) → Type 0
HoldsHeader most schema None before after = ⊥
HoldsHeader most schema (Some h) before after = HoldsValues most schema h.extra h.table before after

-- n bytes are at most what this header of an id's dictionary batch says: the encoded length of the
-- values' buffers, plus one offset for each empty buffer of offsets.
abbrev pub ListsValues : ℕ → Schema → Option BlockHeader → ℤ → ℕ → Type 0
ListsValues most schema None id n = ⊥
ListsValues most schema (Some h) id n =
    (values : Spot) × (dictionary_head h.table ≡ Some (id, values)) × (n ≤ values_listed schema h.extra h.table + values_empty schema h.extra h.table)
    × (n ≤ most + values_empty schema h.extra h.table)

-- n bytes are at most what the message of a block says of this id's values.
pub record IsListedBy (known : Bool) (most : ℕ) (schema : Schema) (source : List ℕ) (b : Block) (id : ℤ) (n : ℕ) : Type 0 where
  pub metadata : List ℕ
  pub stands : IsTrue known → block_metadata source (Some b) ≡ Some metadata
  pub lists : ListsValues most schema (block_header metadata) id n

-- n bytes are at most what the message of one of these blocks says of this id's
-- values; 0 without such a block.
abbrev pub IsListedByOne : Bool → ℕ → Schema → List ℕ → List Block → ℤ → ℕ → Type 0
IsListedByOne known most schema source [] id n = n ≡ 0
IsListedByOne known most schema source (b ∷ bs) id n = IsListedBy known most schema source b id n ⊎ IsListedByOne known most schema source bs id n

-- The array under each id retains at most the encoded length of the buffers in one of the id's
-- blocks, and at most the size of the file. One offset for each empty buffer of offsets comes on
-- top. Without such a block it retains nothing.
pub record HoldListed (known : Bool) (m : FileMetadata) (source : List ℕ) (values : Option ℤ → Layout) : Type 0 where
  pub each : (id : ℤ) → IsListedByOne known m.size m.schema source m.dictionaries id (held (values (Some id)))
