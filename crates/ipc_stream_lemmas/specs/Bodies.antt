-- Messages by their tables and their bodies.
-- (Arrow columnar format, "RecordBatch message" and "Dictionary messages".)
use Rattle.std.specs.Prelude.{◌≡◌, ℕ, ℤ, ◌^◌, ◌<◌, false, List, [], ◌∷◌, length, None, Some, Ok}
use Rattle.lower_types.specs.declared.Endianness.{Endianness}
use Rattle.lower_arrays.specs.Layouts.{Layout, layouts}
use Rattle.lower_arrays.specs.Slots.{AreArrays}
use Rattle.ipc_table_views.specs.MessageSlots.{dictionary_batch_id, dictionary_batch_is_delta, dictionary_batch_data}
use Rattle.ipc_table_views.specs.Spot.{Spot}
use Rattle.ipc_model.specs.Batches.{Schema, Lists, lists_of, entries_of, batch, extra_of}
use Rattle.ipc_model.specs.Entries.{Dictionaries}
use Rattle.ipc_model.specs.Offers.{FilledPlace}
use Rattle.ipc_model.specs.Streams.{Head, Header, header_of, whole}
use Rattle.ipc_plan.specs.Batches.{AreLike, HaveRows, chunk_named, lists_of_plan, body_of_plan}
use Rattle.ipc_plan.specs.Bodies.{PlansColumns}
use Rattle.ipc_plan.specs.Meaning.{KnowsAll}
use Rattle.ipc_plan.specs.declared.plan.Plan.{Plan}
use Rattle.ipc_stream_lemmas.specs.Messages.{MeansValues, MeansColumns, chunk_written}
use Rattle.ipc_stream_lemmas.specs.Places.{AllHaveIds, HasPlace}
use Rattle.ipc_stream_lemmas.specs.Remembered.{Filled, filled_place}

-- ---- bodies

-- The lists and the body of a batch are these columns: by each schema of their types the batch
-- means them, if the values of their dictionaries are known.
pub record HoldColumns (order : Endianness) (lists : Lists) (body : List ℕ) (ls : List Layout) : Type 0 where
  pub means : (schema : Schema) (k : ℕ) (known : Dictionaries)
      → schema.order ≡ order → AreLike schema.fields (layouts ls) → HaveRows k ls
      → KnowsAll (entries_of lists (whole body) order 0 known) (layouts ls) schema.ids
      → batch (entries_of lists (whole body) order 0 known) (length body) schema None None ≡ Some (chunk_named schema.fields ls)

-- Theorem: the lists and the body of a plan for some columns are these columns.
abbrev pub PlanLaw : Type 0
PlanLaw = (order : Endianness) (p : Plan) (ls : List Layout) → PlansColumns order ls p → AreArrays (layouts ls)
    → HoldColumns order (lists_of_plan p) (body_of_plan p) ls

-- ---- messages

-- The metadata of a record message, whose batch has these lists.
pub record IsRecordMessage (metadata : List ℕ) (lists : Lists) (body : List ℕ) : Type 0 where
  pub some : 0 < length metadata
  pub short : length metadata < 2 ^ 31
  pub header : Header
  pub headed : header_of metadata ≡ Some header
  pub tag : header.tag ≡ 3
  pub long : header.body ≡ length body
  pub lists_are : lists_of header.table ≡ Some lists

-- The metadata of a dictionary message of this id, which is no delta,
-- and whose batch has these lists.
pub record IsDictionaryMessage (metadata : List ℕ) (id : ℤ) (lists : Lists) (body : List ℕ) : Type 0 where
  pub some : 0 < length metadata
  pub short : length metadata < 2 ^ 31
  pub header : Header
  pub headed : header_of metadata ≡ Some header
  pub tag : header.tag ≡ 2
  pub long : header.body ≡ length body
  pub id_is : dictionary_batch_id header.table ≡ Ok id
  pub whole_values : dictionary_batch_is_delta header.table ≡ Ok false
  pub values : Spot
  pub values_are : dictionary_batch_data header.table ≡ Ok (Some values)
  pub lists_are : lists_of values ≡ Some lists

-- A message of the values at a dictionary field.
pub record ValuesMessage (order : Endianness) (p : FilledPlace) : Type 0 where
  pub metadata : List ℕ
  pub body : List ℕ
  pub lists : Lists
  pub message : IsDictionaryMessage metadata p.id lists body
  pub holds : HoldColumns order lists body (p.values ∷ [])

-- A message of some columns, which have equal numbers of slots.
pub record ColumnsMessage (order : Endianness) (columns : List Layout) : Type 0 where
  pub metadata : List ℕ
  pub body : List ℕ
  pub lists : Lists
  pub rows : ℕ
  pub have_rows : HaveRows rows columns
  pub message : IsRecordMessage metadata lists body
  pub holds : HoldColumns order lists body columns

-- Theorem: a dictionary message of the values at a field of the schema means them.
abbrev pub ValuesLaw : Type 0
ValuesLaw = (h : Head) (p : Filled) → extra_of h.version ≡ 0 → HasPlace h.schema p → (w : ValuesMessage h.schema.order (filled_place p))
    → MeansValues h p w.metadata w.body

-- Theorem: a record message of columns of the schema's types, whose keys have ids, means them.
abbrev pub ColumnsLaw : Type 0
ColumnsLaw = (h : Head) (columns : List Layout) → extra_of h.version ≡ 0 → AllHaveIds (layouts columns) h.schema.ids
    → AreLike h.schema.fields (layouts columns) → chunk_named h.schema.fields columns ≡ chunk_written columns
    → (w : ColumnsMessage h.schema.order columns) → MeansColumns h columns w.metadata w.body
