-- Theorems: what encoded messages of batches mean.
-- (Arrow columnar format, "RecordBatch message" and "Dictionary messages".)
use Rattle.std.specs.Prelude.{◌≡◌, ℕ, ℤ, ◌^◌, ◌<◌, List, [], ◌∷◌, length, None, Some}
use Rattle.lower.specs.Normal.{norm}
use Rattle.lower_types.specs.declared.Endianness.{Endianness}
use Rattle.lower_arrays.specs.Layouts.{Layout, layouts, type_of}
use Rattle.lower_arrays.specs.Slots.{slots}
use Rattle.ipc_model.specs.Batches.{Place, Schema, dictionary_meaning, place_of, places, extra_of}
use Rattle.ipc_model.specs.Entries.{Dictionaries, Entries}
use Rattle.ipc_model.specs.Streams.{Head, Header, Known, header_of, whole}
use Rattle.ipc_model.specs.WrittenLaws.{BeginsWithRecord}
use Rattle.ipc_plan.specs.Batches.{AreLike, HaveRows, chunk_named}
use Rattle.ipc_plan.specs.Meaning.{Knows, KnowsAll}
use Rattle.ipc_encode.specs.Encoding.{IsEncoded}
use Rattle.ipc_encode.specs.declared.batches.BatchKind.TheVariants.{Record, Dictionary}

-- Entries with these dictionaries, and nothing else.
abbrev pub knowing : Dictionaries → Endianness → Entries
knowing known order = record { nodes = []; parts = []; order = order; extra = 0; dictionaries = known }

-- A record batch that was encoded means its columns, in each stream whose fields have their types,
-- if the values of their dictionaries are known.
abbrev pub EncodedRecordLaw : Type 0
EncodedRecordLaw = (head : Head) (s : Known) (columns : List Layout) (rows : ℕ) (metadata sent : List ℕ)
    → IsEncoded Record head.schema.order columns rows metadata sent → extra_of head.version ≡ 0
    → AreLike head.schema.fields (layouts columns) → HaveRows rows columns
    → KnowsAll (knowing s.dictionaries head.schema.order) (layouts columns) head.schema.ids
    → BeginsWithRecord head s metadata sent (chunk_named head.schema.fields columns)

-- After the message the values are known under the id, before those that were known earlier.
pub record AreWrittenValues (schema : Schema) (known : Dictionaries) (id : ℤ) (p : Place) (values : Layout) (metadata sent : List ℕ) : Type 0 where
  pub some : 0 < length metadata
  pub short : length metadata < 2 ^ 31
  pub header : Header
  pub headed : header_of metadata ≡ Some header
  pub tag : header.tag ≡ 2
  pub long : header.body ≡ length sent
  pub means : dictionary_meaning schema 0 known (whole sent) header.table
      ≡ Some ((id, record { type = norm p.type; slots = slots values }) ∷ known)

-- A dictionary batch that was encoded gives its id these values, if they have its field's type and
-- the values of the dictionaries inside them are known.
abbrev pub EncodedValuesLaw : Type 0
EncodedValuesLaw = (schema : Schema) (known : Dictionaries) (id : ℤ) (p : Place) (values : Layout) (rows : ℕ) (metadata sent : List ℕ)
    → IsEncoded (Dictionary id) schema.order (values ∷ []) rows metadata sent → place_of (places schema.fields schema.ids) id ≡ Some p
    → norm (type_of values) ≡ norm p.type → Knows (knowing known schema.order) values None p.ids
    → AreWrittenValues schema known id p values metadata sent
