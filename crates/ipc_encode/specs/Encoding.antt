-- The message of a batch: its metadata, and its body.
-- (Arrow columnar format, "Encapsulated message format", "RecordBatch
-- message" and "Dictionary messages".)
use Rattle.std.specs.Prelude.{◌≡◌, ℕ, ℤ, pos, ◌+◌, ◌*◌, ◌^◌, ◌<◌, ◌≤◌, ◌⊎◌, false, List, length, None, Some, Ok, Result, MatchResult}
use Rattle.std.specs.List.{flat_map}
use Rattle.lower_types.specs.declared.Endianness.{Endianness}
use Rattle.lower_arrays.specs.Layouts.{Layout, Level, layouts}
use Rattle.lower_arrays.specs.Slots.{AreArrays}
use Rattle.ipc_devices.specs.declared.fault.ArgFault.TheVariants.{TooLarge, TooLong}
use Rattle.ipc_devices.specs.declared.fault.Fault.{Fault}
use Rattle.ipc_devices.specs.declared.fault.Fault.TheVariants.{Argument, Memory}
use Rattle.ipc_tables.specs.Slots.{kept64}
use Rattle.ipc_tables.specs.Written.{IsWritten}
use Rattle.ipc_tables.specs.declared.message.Message.{Message}
use Rattle.ipc_tables.specs.declared.message.MessageHeader.{MessageHeader}
use Rattle.ipc_tables.specs.declared.message.MessageHeader.TheVariants.{DictionaryBatch as a_dictionary_batch, RecordBatch as a_record_batch}
use Rattle.ipc_tables.specs.declared.message.RecordBatch.{RecordBatch}
use Rattle.ipc_table_views.specs.declared.schema.MetadataVersion.TheVariants.{V5}
use Rattle.ipc_table_views.specs.MessageSlots.{dictionary_batch_data, dictionary_batch_id, dictionary_batch_is_delta, message_custom_metadata, message_version, record_batch_length}
use Rattle.ipc_table_views.specs.Spot.{Spot}
use Rattle.ipc_table_views.specs.Tables.{root_at}
use Rattle.ipc_model.specs.Accepted.{IsSayable, body_length}
use Rattle.ipc_model.specs.Batches.{Lists, lists_of}
use Rattle.ipc_model.specs.Offers.{body_lengths, whole_levels}
use Rattle.ipc_model.specs.Streams.{Header, header_of}
use Rattle.ipc_plan.specs.Batches.{body_of_plan, lists_of_plan}
use Rattle.ipc_plan.specs.Bodies.{PlansColumns}
use Rattle.ipc_plan.specs.Taking.{AreShort}
use Rattle.ipc_plan.specs.declared.plan.Plan.{Plan}
use Rattle.ipc_encode.specs.declared.batches.BatchKind.{BatchKind}
use Rattle.ipc_encode.specs.declared.batches.BatchKind.TheVariants.{Record, Dictionary}

-- ---- what the metadata mean to a reader

-- The table of a record batch has so many rows and these lists, and is uncompressed.
pub record SaysBatch (t : Spot) (rows : ℕ) (listed : Lists) : Type 0 where
  pub rows_are : record_batch_length t ≡ Ok (pos rows)
  pub lists_are : lists_of t ≡ Some listed

-- The table of a dictionary batch has the values of this id, and is no delta.
pub record SaysValues (t : Spot) (id : ℤ) (rows : ℕ) (listed : Lists) : Type 0 where
  pub id_is : dictionary_batch_id t ≡ Ok id
  pub no_delta : dictionary_batch_is_delta t ≡ Ok false
  pub values : Spot
  pub values_are : dictionary_batch_data t ≡ Ok (Some values)
  pub says : SaysBatch values rows listed

-- The header of a message: tag 3 and a record batch, or tag 2 and a dictionary batch.
abbrev pub SaysKind : BatchKind → Header → ℕ → Lists → Type 0
SaysKind Record h rows listed = (h.tag ≡ 3) × SaysBatch h.table rows listed
SaysKind (Dictionary id) h rows listed = (h.tag ≡ 2) × SaysValues h.table id rows listed

-- How many bytes the metadata of a batch with so many nodes and buffers have: 16 for
-- each, and those of the tables.
abbrev pub metadata_length : BatchKind → ℕ → ℕ → ℕ
metadata_length Record nodes buffers = 144 + 16 * (nodes + buffers)
metadata_length (Dictionary id) nodes buffers = 192 + 16 * (nodes + buffers)

-- The metadata of a batch of so many rows with these lists, whose body has `size` bytes: of version
-- V5, without pairs, and laid out strictly.
pub record IsBatchMetadata (kind : BatchKind) (rows : ℕ) (listed : Lists) (size : ℕ) (metadata : List ℕ) : Type 0 where
  pub root : Spot
  pub opened : root_at metadata ≡ Ok root
  pub version : message_version root ≡ Ok V5
  pub bare : message_custom_metadata root ≡ Ok None
  pub header : Header
  pub headed : header_of metadata ≡ Some header
  pub says : SaysKind kind header rows listed
  pub body_is : header.body ≡ size
  pub written : IsWritten metadata
  pub long : length metadata ≡ metadata_length kind (length listed.nodes) (length listed.buffers)
  pub small : length metadata < 2 ^ 31

-- ---- the message

-- The levels of columns, one column after the other.
abbrev pub levels_of : List Layout → List Level
levels_of columns = flat_map whole_levels columns

-- The message is that of some columns, which are arrays. There is a plan of the columns: the
-- metadata have its nodes and its buffers, and the body is its pieces. So the body is the buffers
-- of the columns' levels, one after the other, each padded, and as long as these.
pub record IsEncoded (kind : BatchKind) (order : Endianness) (columns : List Layout) (rows : ℕ) (metadata sent : List ℕ) : Type 0 where
  pub plan : Plan
  pub arrays : AreArrays (layouts columns)
  pub plans : PlansColumns order columns plan
  pub metadata_are : IsBatchMetadata kind rows (lists_of_plan plan) (length sent) metadata
  pub body_is : sent ≡ body_of_plan plan
  pub long : length sent ≡ body_length (body_lengths (levels_of columns))

-- The lengths of a batch of these levels fit in the signed numbers of
-- 64 and 32 bits that encode them.
pub record IsEncodable (kind : BatchKind) (rows : ℕ) (hs : List Level) : Type 0 where
  pub few_rows : IsSayable rows
  pub short : AreShort hs
  pub body : IsSayable (body_length (body_lengths hs))
  pub metadata : metadata_length kind (length hs) (length (body_lengths hs)) < 2 ^ 31

-- Why a batch isn't encoded.
abbrev pub RefusesBatch : BatchKind → ℕ → List Level → Fault → Type 0
RefusesBatch kind rows hs (Argument TooLong) = IsSayable rows → AreShort hs → ⊥
RefusesBatch kind rows hs (Argument TooLarge) =
    (2 ^ 63 ≤ body_length (body_lengths hs)) ⊎ (2 ^ 31 ≤ metadata_length kind (length hs) (length (body_lengths hs)))
RefusesBatch kind rows hs Memory = Unit {0}
RefusesBatch kind rows hs _ = ⊥

-- The result is Ok exactly if all these lengths fit, unless an allocation fails.
abbrev pub AnswersBatch : {X : Type 0} → Result X Fault → BatchKind → ℕ → List Level → Type 0
AnswersBatch r kind rows hs = MatchResult r (λ _. IsEncodable kind rows hs) (RefusesBatch kind rows hs)

-- ---- the tables

-- A record batch as the header of a message: alone, or as the values of a dictionary.
abbrev pub header_in : BatchKind → RecordBatch → MessageHeader
header_in Record b = a_record_batch b
header_in (Dictionary id) b = a_dictionary_batch (record { id = id; data_ = Some b; is_delta = false })

-- The id of a dictionary fits in 64 bits.
abbrev pub IdFits : BatchKind → Type 0
IdFits Record = Unit {0}
IdFits (Dictionary id) = kept64 id ≡ id

-- The message of a batch of so many rows with the nodes and buffers of a plan.
pub record IsMessageOfPlan (m : Message) (kind : BatchKind) (rows : ℤ) (p : Plan) : Type 0 where
  pub batch : RecordBatch
  pub end : ℤ
  pub value : m ≡ record { version = V5; header = header_in kind batch; body_length = end; custom_metadata = None }
  pub uncompressed : batch.compression ≡ None
  pub rows_are : batch.length ≡ rows
  pub nodes_are : batch.nodes.items ≡ p.nodes.items
  pub buffers_are : batch.buffers.items ≡ p.buffers.items
  pub end_is : end ≡ pos p.end
