-- Theorems: columns, batches, streams and files mean the same by dictionaries that
-- agree under each id that they name.
-- (Arrow columnar format, "Dictionary messages": a field's values are those
-- of the dictionary with its id.)
use Rattle.std.specs.Prelude.{◌≡◌, ℕ, ℤ, ◌↔◌, List, ◌∷◌, Option, Some, None}
use Rattle.std.specs.List.{AllByRecursion}
use Rattle.std.specs.Option.{option_map}
use Rattle.ipc_table_views.specs.Spot.{Spot}
use Rattle.ipc_table_views.specs.declared.file.Block.{Block}
use Rattle.ipc_model.specs.Kinds.{Kind, list_kind, map_kind, fixed_list_kind, struct_kind, union_kind, dictionary_kind, extension_kind, Kinds, no_kinds, more_kinds, count}
use Rattle.ipc_model.specs.Entries.{Entries, Dictionary, Dictionaries, dictionary_at, Limit}
use Rattle.ipc_model.specs.Columns.{IsWell, column}
use Rattle.ipc_model.specs.Batches.{Schema, kinds, Body, kind_at, chosen, batch, record_meaning, Place, places, dictionary_meaning}
use Rattle.ipc_model.specs.Streams.{Head, Known, End, marked, waits, faulty, Item, more, done, item, Meant, meaning}
use Rattle.ipc_model.specs.Files.{FileMetadata, chunk_at, dictionaries_at}

-- ---- where dictionaries agree

-- Under this id both dictionaries have the same values, or neither has any.
abbrev pub AgreeUnder : Dictionaries → Dictionaries → Option ℤ → Type 0
AgreeUnder ds es None = Unit {0}
AgreeUnder ds es (Some id) = dictionary_at ds id ≡ dictionary_at es id

abbrev mutual
  -- Both agree under each id that the kind of a column names, at all levels.
  pub AgreeFor : Dictionaries → Dictionaries → Kind → Type 0
  AgreeFor ds es (list_kind w t) = AgreeFor ds es t
  AgreeFor ds es (map_kind t) = AgreeFor ds es t
  AgreeFor ds es (fixed_list_kind n t) = AgreeFor ds es t
  AgreeFor ds es (struct_kind ts) = AgreeForAll ds es ts
  AgreeFor ds es (union_kind mode type_ids ts) = AgreeForAll ds es ts
  AgreeFor ds es (dictionary_kind f id t) = AgreeUnder ds es id
  AgreeFor ds es (extension_kind t) = AgreeFor ds es t
  AgreeFor ds es _ = Unit {0}

  -- Both agree under each id that the kinds of some columns name.
  pub AgreeForAll : Dictionaries → Dictionaries → Kinds → Type 0
  AgreeForAll ds es no_kinds = Unit {0}
  AgreeForAll ds es (more_kinds t ts) = AgreeFor ds es t × AgreeForAll ds es ts

-- Both agree under each id that the columns with these indices name.
abbrev pub AgreeForChosen : Dictionaries → Dictionaries → Kinds → List ℕ → Type 0
AgreeForChosen ds es ts js = AllByRecursion (λ j. AgreeFor ds es (kind_at ts j)) js

-- Both agree under the id of each of these dictionary fields.
abbrev pub AgreeAt : Dictionaries → Dictionaries → List Place → Type 0
AgreeAt ds es ps = AllByRecursion (λ (p : Place). AgreeUnder ds es p.id) ps

-- Both agree under each id that a schema's fields name, also inside
-- the values of other dictionaries.
abbrev pub AgreeIn : Schema → Dictionaries → Dictionaries → Type 0
AgreeIn schema ds es = AgreeAt ds es (places schema.fields schema.ids)

-- Dictionaries that agree for a schema agree for each of its columns.
abbrev pub FieldsAgreeLaw : Type 0
FieldsAgreeLaw = (schema : Schema) (ds es : Dictionaries) → AgreeIn schema ds es
    → AgreeForAll ds es (kinds schema) × ((js : List ℕ) → AgreeForChosen ds es (kinds schema) js)

-- ---- columns

-- The same entries with other dictionaries.
abbrev pub by_dictionaries : Entries → Dictionaries → Entries
by_dictionaries s ds = record { nodes = s.nodes; parts = s.parts; order = s.order; extra = s.extra; dictionaries = ds }

-- A column is well formed in both entries or in neither, and has the same slots in both.
pub record SameColumn (s t : Entries) (k : Kind) (a b : ℕ) (limit : Limit) : Type 0 where
  pub well : IsWell s k a b limit ↔ IsWell t k a b limit
  pub slots : column s k a b limit ≡ column t k a b limit

-- A column means the same by dictionaries that agree for its kind.
abbrev pub ColumnAgreeLaw : Type 0
ColumnAgreeLaw = (s : Entries) (ds es : Dictionaries) (t : Kind) (a b : ℕ) (limit : Limit) → AgreeFor ds es t
    → SameColumn (by_dictionaries s ds) (by_dictionaries s es) t a b limit

-- ---- batches

-- The entries of a batch have one meaning by dictionaries that agree for the chosen columns.
abbrev pub BatchAgreeLaw : Type 0
BatchAgreeLaw = (s : Entries) (ds es : Dictionaries) (most : ℕ) (schema : Schema) (projection : Option (List ℕ)) (limit : Limit)
    → AgreeForChosen ds es (kinds schema) (chosen projection (count (kinds schema)))
    → batch (by_dictionaries s ds) most schema projection limit ≡ batch (by_dictionaries s es) most schema projection limit

-- A record batch has one meaning by dictionaries that agree for the chosen columns.
abbrev pub RecordAgreeLaw : Type 0
RecordAgreeLaw = (schema : Schema) (extra : ℕ) (ds es : Dictionaries) (body : Body) (t : Spot) (projection : Option (List ℕ)) (limit : Limit)
    → AgreeForChosen ds es (kinds schema) (chosen projection (count (kinds schema)))
    → record_meaning schema extra ds body t projection limit ≡ record_meaning schema extra es body t projection limit

-- Both lists of dictionaries gain the same values under the same id,
-- or neither result has a meaning.
pub record GainSame (ds es : Dictionaries) (after after' : Option Dictionaries) : Type 0 where
  pub gained : Option (ℤ × Dictionary)
  pub of_first : after ≡ option_map (λ d. d ∷ ds) gained
  pub of_second : after' ≡ option_map (λ d. d ∷ es) gained

-- A dictionary batch adds the same values to dictionaries that agree for the schema.
abbrev pub DictionaryAgreeLaw : Type 0
DictionaryAgreeLaw = (schema : Schema) (extra : ℕ) (ds es : Dictionaries) (body : Body) (t : Spot) → AgreeIn schema ds es
    → GainSame ds es (dictionary_meaning schema extra ds body t) (dictionary_meaning schema extra es body t)

-- ---- streams

-- What is known before a message agrees: the dictionaries, and how many dictionary
-- messages came since the last record.
pub record KnowSame (schema : Schema) (s t : Known) : Type 0 where
  pub dictionaries : AgreeIn schema s.dictionaries t.dictionaries
  pub count : s.count ≡ t.count

-- Both streams end in the same way, and if they wait, with the same partial prefix
-- and with dictionaries that agree.
abbrev pub EndSame : Schema → End → End → Type 0
EndSame schema marked marked = Unit {0}
EndSame schema (waits s begun) (waits t begun') = KnowSame schema s t × (begun ≡ begun')
EndSame schema faulty faulty = Unit {0}
EndSame schema _ _ = ⊥

-- Both have the same chunk and the same bytes after it, and dictionaries
-- that agree then; or the same end.
abbrev pub ItemSame : Schema → Item → Item → Type 0
ItemSame schema (more c s rest) (more c' t rest') = (c ≡ c') × KnowSame schema s t × (rest ≡ rest')
ItemSame schema (done e) (done e') = EndSame schema e e'
ItemSame schema _ _ = ⊥

-- The first message of a stream means the same by dictionaries that agree for its schema.
abbrev pub ItemAgreeLaw : Type 0
ItemAgreeLaw = (h : Head) (s t : Known) (bytes : List ℕ) → KnowSame h.schema s t → ItemSame h.schema (item h s bytes) (item h t bytes)

-- Two streams have the same chunks and the same end.
pub record MeanSame (schema : Schema) (m n : Meant) : Type 0 where
  pub chunks : m.chunks ≡ n.chunks
  pub end : EndSame schema m.end n.end

-- A whole stream means the same by dictionaries that agree for its schema, and ends alike.
abbrev pub StreamAgreeLaw : Type 0
StreamAgreeLaw = (h : Head) (s t : Known) (bytes : List ℕ) → KnowSame h.schema s t → MeanSame h.schema (meaning h s bytes) (meaning h t bytes)

-- ---- files

-- A block of a record has the same chunk by dictionaries that agree for the chosen columns.
abbrev pub BlockAgreeLaw : Type 0
BlockAgreeLaw = (m : FileMetadata) (ds es : Dictionaries) (source : List ℕ) (b : Block) (projection : Option (List ℕ)) (limit : Limit)
    → AgreeForChosen ds es (kinds m.schema) (chosen projection (count (kinds m.schema)))
    → chunk_at m ds source b projection limit ≡ chunk_at m es source b projection limit

-- A dictionary block of a file adds the same values to dictionaries that agree for its schema.
abbrev pub DictionaryBlockAgreeLaw : Type 0
DictionaryBlockAgreeLaw = (m : FileMetadata) (ds es : Dictionaries) (source : List ℕ) (b : Block) → AgreeIn m.schema ds es
    → GainSame ds es (dictionaries_at m ds source b) (dictionaries_at m es source b)
