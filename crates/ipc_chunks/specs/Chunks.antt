-- A chunk as the messages that a writer sends for it.
-- (Arrow columnar format, "RecordBatch message" and "Dictionary messages".)
use Rattle.std.specs.Prelude.{◌≡◌, ◌≢◌, ◌⊎◌, ℕ, ◌+◌, Bool, List, [], length, map}
use Rattle.lower.specs.TypeTrees.{FieldTrees}
use Rattle.lower_types.specs.declared.Endianness.{Endianness}
use Rattle.lower_arrays.specs.Layouts.{Layout, layouts, len_of, type_of}
use Rattle.ipc_base.specs.Chunks.{row_count}
use Rattle.ipc_base.specs.Fitting.{AllFit}
use Rattle.ipc_base.specs.IdTrees.{IdTrees, no_ids, more_ids}
use Rattle.ipc_devices.specs.declared.fault.ArgFault.TheVariants.{ColumnCount, FieldsShape}
use Rattle.ipc_devices.specs.declared.fault.Fault.{Fault}
use Rattle.ipc_devices.specs.declared.fault.Fault.TheVariants.{Argument, Memory}
use Rattle.ipc_encode.specs.Encoding.{IsEncodable, levels_of}
use Rattle.ipc_encode.specs.declared.batches.BatchKind.TheVariants.{Record}
use Rattle.ipc_encode.specs.declared.common.EncodedData.{EncodedData}
use Rattle.ipc_model.specs.Accepted.{fields_of}
use Rattle.ipc_model.specs.Offers.{FilledPlace, values_of}
use Rattle.ipc_model.specs.Writable.{IsWritable}
use Rattle.ipc_schema_write.specs.WriterAnswers.{RefusesSchema}
use Rattle.ipc_tracker.specs.Listings.{ListsAll, remembering_all}
use Rattle.ipc_tracker.specs.Trackers.{IsSameMemory, Remembered}
use Rattle.ipc_chunks.specs.Lengths.{HaveLengths}
use Rattle.ipc_chunks.specs.Messages.{AreMessages, RefusesMessages, RefusesPlaces, data_seen}

-- ---- columns without a schema

-- The fields of columns that have no schema: their types, without names and metadata.
abbrev pub encoded_fields : List Layout → FieldTrees
encoded_fields columns = fields_of (map type_of columns)

-- For how many fields there are ids.
abbrev pub id_number : IdTrees → ℕ
id_number no_ids = 0
id_number (more_ids i is) = 1 + id_number is

-- Why columns can't be written with these ids: there are more or fewer ids than columns; they have
-- another shape; or the fields can't be written.
abbrev pub RefusesColumns : List Layout → IdTrees → Fault → Type 0
RefusesColumns columns is (Argument ColumnCount) = length columns ≢ id_number is
RefusesColumns columns is (Argument FieldsShape) = (length columns ≡ id_number is) × (AllFit (encoded_fields columns) is → ⊥)
RefusesColumns columns is e = RefusesSchema e (encoded_fields columns) [] is

-- ---- chunks

-- The messages that some columns are encoded to, given the dictionaries that are remembered: those
-- of new or changed dictionaries, inner before outer, and that of the columns. Those are remembered
-- afterwards. All lengths fit, also of dictionaries that are remembered and not sent.
pub record EncodesChunk (order : Endianness) (m : Remembered) (fixed : Bool) (columns : List Layout) (is : IdTrees) (dictionaries : List EncodedData) (encoded : EncodedData) (after : Remembered) : Type 0 where
  pub writable : IsWritable (encoded_fields columns) [] is
  pub list : List FilledPlace
  pub lists : ListsAll m fixed columns is list
  pub lengths : HaveLengths (values_of (layouts columns) is)
  pub said : IsEncodable Record (row_count len_of columns) (levels_of columns)
  pub are : AreMessages order columns list (map data_seen dictionaries) (data_seen encoded)
  pub remembers : IsSameMemory (remembering_all list m) after

-- The dictionaries to send are found, and one of the messages can't be encoded.
pub record RefusesListed (m : Remembered) (fixed : Bool) (columns : List Layout) (is : IdTrees) (e : Fault) : Type 0 where
  pub list : List FilledPlace
  pub lists : ListsAll m fixed columns is list
  pub refused : RefusesMessages list columns e

-- Why a chunk isn't encoded.
abbrev pub RefusesChunk : Remembered → Bool → List Layout → IdTrees → Fault → Type 0
RefusesChunk m fixed columns is e =
    RefusesColumns columns is e
    ⊎ (IsWritable (encoded_fields columns) [] is × (RefusesPlaces m fixed columns is e ⊎ RefusesListed m fixed columns is e ⊎ (e ≡ Memory)))
