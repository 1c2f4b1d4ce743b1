-- The messages that are written for a chunk.
-- (Arrow columnar format, "RecordBatch message" and "Dictionary messages".)
use Rattle.std.specs.Prelude.{◌≡◌, ◌⊎◌, ℕ, ◌%◌, ◌^◌, ◌<◌, Bool, List, [], ◌∷◌, length, map, All}
use Rattle.std.specs.Int.{next_multiple_of}
use Rattle.lower_types.specs.declared.Endianness.{Endianness}
use Rattle.lower_arrays.specs.Layouts.{Layout, layouts, len_of}
use Rattle.ipc_base.specs.Chunks.{row_count}
use Rattle.ipc_base.specs.IdTrees.{IdTrees}
use Rattle.ipc_devices.specs.declared.fault.Fault.{Fault}
use Rattle.ipc_devices.specs.declared.fault.Fault.TheVariants.{Memory}
use Rattle.ipc_encode.specs.Encoding.{IsEncoded, RefusesBatch, levels_of}
use Rattle.ipc_encode.specs.declared.batches.BatchKind.TheVariants.{Record, Dictionary}
use Rattle.ipc_encode.specs.declared.batches.Encoded.{Encoded}
use Rattle.ipc_encode.specs.declared.common.EncodedData.{EncodedData}
use Rattle.ipc_model.specs.Offers.{FilledPlace, values_of}
use Rattle.ipc_plan.specs.Batches.{HaveRows}
use Rattle.ipc_plan.specs.Pieces.{pieces_bytes}
use Rattle.ipc_tracker.specs.Listings.{RefusesAll}
use Rattle.ipc_tracker.specs.Trackers.{Remembered}
use Rattle.ipc_chunks.specs.declared.messages.Messages.{Messages}

-- ---- messages

-- A message: its metadata, and its body.
pub record Message : Type 0 where
  pub metadata : List ℕ
  pub body : List ℕ

-- A message whose body is in pieces.
abbrev pub message_seen : Encoded → Message
message_seen e = record { metadata = e.metadata.items; body = pieces_bytes e.body.order e.body.pieces.items }

-- A message whose body is in one piece.
abbrev pub data_seen : EncodedData → Message
data_seen e = record { metadata = e.ipc_message.items; body = e.arrow_data.items }

-- The dictionary messages of a chunk.
abbrev pub dictionaries_seen : Messages → List Message
dictionaries_seen ms = map message_seen ms.dictionaries.items

-- A message can be sent: the length of its metadata fits, and its body
-- ends at a multiple of 64 bytes.
pub record IsSendable (e : Encoded) : Type 0 where
  pub short : next_multiple_of (length e.metadata.items) 8 < 2 ^ 31
  pub whole : length (pieces_bytes e.body.order e.body.pieces.items) % 64 ≡ 0

-- All messages of a chunk can be sent.
pub record AreSendable (ms : Messages) : Type 0 where
  pub dictionaries : All IsSendable ms.dictionaries.items
  pub record_batch : IsSendable ms.record_batch

-- The body of a message is as long as its plan says.
pub record HasWholeBody (e : Encoded) : Type 0 where
  pub end : e.body.end ≡ length (pieces_bytes e.body.order e.body.pieces.items)

-- The bodies of all messages of a chunk are as long as their plans say.
pub record HaveWholeBodies (ms : Messages) : Type 0 where
  pub dictionaries : All HasWholeBody ms.dictionaries.items
  pub record_batch : HasWholeBody ms.record_batch

-- ---- a chunk

-- The message of a dictionary's values.
abbrev pub AreValueMessages : Endianness → FilledPlace → Message → Type 0
AreValueMessages order p m = IsEncoded (Dictionary p.id) order (p.values ∷ []) (len_of p.values) m.metadata m.body

-- There is a message for each of these dictionaries, in order.
abbrev pub AreAllValues : Endianness → List FilledPlace → List Message → Type 0
AreAllValues order [] [] = Unit {0}
AreAllValues order (p ∷ ps) (m ∷ ms) = AreValueMessages order p m × AreAllValues order ps ms
AreAllValues order _ _ = ⊥

-- The messages of some columns: those of the dictionaries on this list, in its order, and that of
-- the columns, which have equal lengths.
pub record AreMessages (order : Endianness) (columns : List Layout) (list : List FilledPlace) (dictionaries : List Message) (own : Message) : Type 0 where
  pub values : AreAllValues order list dictionaries
  pub rows : HaveRows (row_count len_of columns) columns
  pub record_is : IsEncoded Record order columns (row_count len_of columns) own.metadata own.body

-- ---- refusals

-- Why the message of a dictionary's values isn't encoded.
abbrev pub RefusesValues : FilledPlace → Fault → Type 0
RefusesValues p e = RefusesBatch (Dictionary p.id) (len_of p.values) (levels_of (p.values ∷ [])) e

-- Why the messages of some dictionaries aren't encoded: that of one can't be.
abbrev pub RefusesSome : List FilledPlace → Fault → Type 0
RefusesSome [] e = ⊥
RefusesSome (p ∷ ps) e = RefusesValues p e ⊎ RefusesSome ps e

-- Why the messages of some dictionaries aren't encoded: that of one
-- can't be, or an allocation failed.
abbrev pub RefusesAllValues : List FilledPlace → Fault → Type 0
RefusesAllValues ps e = RefusesSome ps e ⊎ (e ≡ Memory)

-- Why the messages of a chunk aren't encoded.
abbrev pub RefusesMessages : List FilledPlace → List Layout → Fault → Type 0
RefusesMessages list columns e = RefusesAllValues list e ⊎ RefusesBatch Record (row_count len_of columns) (levels_of columns) e

-- Why the dictionaries of some columns are refused: the tracker refuses them, or the lengths
-- of one don't fit in a message.
abbrev pub RefusesPlaces : Remembered → Bool → List Layout → IdTrees → Fault → Type 0
RefusesPlaces m fixed columns is e = RefusesAll m fixed columns is e ⊎ RefusesSome (values_of (layouts columns) is) e
