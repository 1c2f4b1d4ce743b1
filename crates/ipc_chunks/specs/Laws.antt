-- Theorems: what the messages of a chunk mean to a reader.
-- (Arrow columnar format, "IPC Streaming Format".)
use Rattle.std.specs.Prelude.{◌≢◌, Bool, ℕ, IsTrue, List, [], ◌∷◌, ◌++◌, length}
use Rattle.std.specs.List.{AllByRecursion}
use Rattle.lower_types.specs.declared.Endianness.{Endianness}
use Rattle.lower_arrays.specs.Layouts.{Layout, layouts}
use Rattle.lower_arrays.specs.Slots.{AreArrays}
use Rattle.ipc_base.specs.Fitting.{AllFit}
use Rattle.ipc_base.specs.IdTrees.{IdTrees}
use Rattle.ipc_devices.specs.Faults.{OwnFault}
use Rattle.ipc_devices.specs.declared.fault.ArgFault.TheVariants.{ColumnCount, DictionaryReplaced, FieldsShape, NotWritable, SharedDictionary, TooLarge, TooLong}
use Rattle.ipc_devices.specs.declared.fault.Fault.{Fault}
use Rattle.ipc_devices.specs.declared.fault.Fault.TheVariants.{Argument, Memory}
use Rattle.ipc_encode.specs.declared.common.EncodedData.{EncodedData}
use Rattle.ipc_stream_lemmas.specs.Chunks.{head_encoded}
use Rattle.ipc_stream_lemmas.specs.Messages.{chunk_written, message_bytes}
use Rattle.ipc_stream_lemmas.specs.Moves.{MeansChunk}
use Rattle.ipc_model.specs.Accepted.{AreKept, AreShared, MayBeEncoded, IsSayable, body_length}
use Rattle.ipc_model.specs.Offers.{offer_of}
use Rattle.ipc_model.specs.Writable.{IsWritable}
use Rattle.ipc_tracker.specs.Trackers.{Remembered}
use Rattle.ipc_chunks.specs.Chunks.{EncodesChunk, RefusesChunk, encoded_fields, id_number}

-- Messages as they are in a stream, one after the other.
abbrev pub encoded_bytes : List EncodedData → List ℕ
encoded_bytes [] = []
encoded_bytes (encoded ∷ rest) = message_bytes encoded.ipc_message.items encoded.arrow_data.items ++ encoded_bytes rest

-- The bytes of the dictionary messages, and then of the record.
abbrev pub chunk_bytes : List EncodedData → EncodedData → List ℕ
chunk_bytes dictionaries encoded = encoded_bytes dictionaries ++ message_bytes encoded.ipc_message.items encoded.arrow_data.items

-- The messages that columns are encoded to mean just these columns, in a stream of
-- their types, whatever follows. A reader that had the remembered dictionaries has
-- those that are remembered afterwards.
abbrev pub MeaningLaw : Type 0
MeaningLaw = (order : Endianness) (m after : Remembered) (fixed : Bool) (columns : List Layout) (is : IdTrees) (dictionaries : List EncodedData) (encoded : EncodedData)
    → EncodesChunk order m fixed columns is dictionaries encoded after → MeansChunk (head_encoded order is columns) (chunk_bytes dictionaries encoded) m after (chunk_written columns)

-- ---- which columns are encoded

-- Columns can be encoded with these ids: they are accepted, and their types are a schema that can
-- be written. If no dictionary may be replaced, those that are remembered stay.
pub record IsTaken (m : Remembered) (fixed : Bool) (columns : List Layout) (is : IdTrees) : Type 0 where
  pub accepted : MayBeEncoded is (offer_of columns is)
  pub kept : IsTrue fixed → AllByRecursion (λ p. AreKept (m p.id) p.values) (offer_of columns is).dictionaries

-- Columns that are encoded satisfy `IsTaken`.
abbrev pub TakenLaw : Type 0
TakenLaw = (order : Endianness) (m after : Remembered) (fixed : Bool) (columns : List Layout) (is : IdTrees) (dictionaries : List EncodedData) (encoded : EncodedData)
    → EncodesChunk order m fixed columns is dictionaries encoded after → IsTaken m fixed columns is

-- ---- refusals

-- By each error, the condition of encoding that the columns don't meet.
abbrev pub Misses : Remembered → Bool → List Layout → IdTrees → Fault → Type 0
Misses m fixed columns is Memory = Unit {0}
Misses m fixed columns is (Argument ColumnCount) = length columns ≢ id_number is
Misses m fixed columns is (Argument FieldsShape) = AllFit (encoded_fields columns) is → ⊥
Misses m fixed columns is (Argument NotWritable) = IsWritable (encoded_fields columns) [] is → ⊥
Misses m fixed columns is (Argument (SharedDictionary j)) = AreShared (offer_of columns is).dictionaries → ⊥
Misses m fixed columns is (Argument (DictionaryReplaced j)) =
    IsTrue fixed × (AllByRecursion (λ p. AreKept (m p.id) p.values) (offer_of columns is).dictionaries → ⊥)
Misses m fixed columns is (Argument TooLong) = AllByRecursion IsSayable (offer_of columns is).nodes → ⊥
Misses m fixed columns is (Argument TooLarge) = AllByRecursion (λ lengths. IsSayable (body_length lengths)) (offer_of columns is).bodies → ⊥
Misses m fixed columns is _ = ⊥

-- If a chunk of arrays is refused, each error but that of allocation names a condition that the
-- columns don't meet; so they don't satisfy `IsTaken`.
abbrev pub MissesLaw : Type 0
MissesLaw = (m : Remembered) (fixed : Bool) (columns : List Layout) (is : IdTrees) (e : Fault) → AreArrays (layouts columns) → RefusesChunk m fixed columns is e
    → Misses m fixed columns is e × OwnFault e (IsTaken m fixed columns is → ⊥)
