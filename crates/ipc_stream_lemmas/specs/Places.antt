-- The dictionary fields of a chunk, and those of its schema.
-- (Arrow columnar format, "Dictionary messages".)
use Rattle.std.specs.Prelude.{◌≡◌, ◌⊎◌, ℕ, ℤ, ◌≤◌, List, [], ◌∷◌, length, map, Option, Some, None}
use Rattle.lower.specs.Normal.{norm, norm_fields}
use Rattle.lower.specs.TypeTrees.{Pairs, FieldTrees}
use Rattle.lower_types.specs.declared.Endianness.{Endianness}
use Rattle.lower_arrays.specs.Layouts.{Layout, layout, Layouts, no_layouts, more_layouts, layouts, type_of}
use Rattle.lower_arrays.specs.Slots.{IsArray, AreArrays}
use Rattle.ipc_base.specs.IdTrees.{IdTrees}
use Rattle.ipc_model.specs.Batches.{Schema, Place, places, place_of}
use Rattle.ipc_model.specs.Entries.{Entries, dictionary_at}
use Rattle.ipc_model.specs.Offers.{own_id, inner_ids, values_of, IsAcceptedChunk}
use Rattle.ipc_model.specs.Streams.{Head, most_dictionaries}
use Rattle.ipc_model.specs.TypeKinds.{first_ids, other_ids}
use Rattle.ipc_model.specs.Writable.{IsWritable}
use Rattle.ipc_plan.specs.Batches.{AreLike, chunk_named}
use Rattle.ipc_plan.specs.Meaning.{WhereKeyed, KnowsAll}
use Rattle.ipc_stream_lemmas.specs.Moves.{SendsChunk, MeansChunk}
use Rattle.ipc_stream_lemmas.specs.Order.{AreConsistent}
use Rattle.ipc_stream_lemmas.specs.Messages.{chunk_written}
use Rattle.ipc_stream_lemmas.specs.Remembered.{Remembered, Filled, filled_place, filled_of, Finds}
use Rattle.ipc_table_views.specs.declared.schema.MetadataVersion.TheVariants.{V5}

-- ---- ids

-- An array of keys has an id.
abbrev pub KeysHaveId : Layouts → Option ℤ → Type 0
KeysHaveId no_layouts id = ⊥
KeysHaveId (more_layouts c cs) None = ⊥
KeysHaveId (more_layouts c cs) (Some id) = Unit {0}

abbrev mutual
  -- Each array of keys that isn't inside other values has an id.
  pub HasIds : Layout → Option ℤ → IdTrees → Type 0
  HasIds (layout h cs) id is = WhereKeyed h.parts (KeysHaveId cs id) (AllHaveIds cs is)

  -- Each array of keys in some arrays has an id, if it isn't inside other values.
  pub AllHaveIds : Layouts → IdTrees → Type 0
  AllHaveIds no_layouts is = Unit {0}
  AllHaveIds (more_layouts c cs) is = HasIds c (own_id (first_ids is)) (inner_ids (first_ids is)) × AllHaveIds cs (other_ids is)

-- ---- dictionary fields

-- A dictionary field of a schema is that of a chunk: it has the same id, type and inner ids.
pub record IsPlaceOf (p : Place) (q : Filled) : Type 0 where
  pub id : p.id ≡ Some q.id
  pub type : norm p.type ≡ norm (type_of q.values)
  pub ids : p.ids ≡ q.ids

-- One of these dictionary fields of a schema is that of a chunk.
abbrev pub IsAmong : List Place → Filled → Type 0
IsAmong [] q = ⊥
IsAmong (p ∷ ps) q = IsPlaceOf p q ⊎ IsAmong ps q

-- A chunk's dictionary field is among these, and its values are an array whose keys have ids.
pub record IsPlaced (ps : List Place) (q : Filled) : Type 0 where
  pub among : IsAmong ps q
  pub array : IsArray q.values
  pub inner : HasIds q.values None q.ids

-- Each dictionary field of a chunk is among these.
abbrev pub ArePlaced : List Place → List Filled → Type 0
ArePlaced ps [] = Unit {0}
ArePlaced ps (q ∷ qs) = IsPlaced ps q × ArePlaced ps qs

-- The first field of the id in a schema is that of a chunk, whose values
-- are an array whose keys have ids.
pub record HasPlace (schema : Schema) (q : Filled) : Type 0 where
  pub place : Place
  pub first : place_of (places schema.fields schema.ids) q.id ≡ Some place
  pub is : IsPlaceOf place q
  pub array : IsArray q.values
  pub inner : HasIds q.values None q.ids

-- For each dictionary field of a chunk, the first field of its id in a schema is that field.
abbrev pub HavePlaces : Schema → List Filled → Type 0
HavePlaces schema [] = Unit {0}
HavePlaces schema (q ∷ qs) = HasPlace schema q × HavePlaces schema qs

-- Theorem: the dictionary fields of a chunk are those whose values it brings
-- to a writer, in the same order.
abbrev pub FilledLaw : Type 0
FilledLaw = (cs : Layouts) (is : IdTrees) → map filled_place (filled_of cs is) ≡ values_of cs is

-- ---- chunks of a schema

-- The head of a stream of this schema: its fields in the normal form, version 5.
abbrev pub head_written : Endianness → FieldTrees → Pairs → IdTrees → Head
head_written order fs metadata is = record { schema = record { fields = norm_fields fs; metadata = metadata; ids = is; order = order }; version = V5 }

-- The dictionary fields of an accepted chunk: each is one of the schema's, there are no more than a
-- reader counts, and fields of one id have the same values.
pub record FitsSchema (h : Head) (columns : List Layout) : Type 0 where
  pub ids : AllHaveIds (layouts columns) h.schema.ids
  pub placed : HavePlaces h.schema (filled_of (layouts columns) h.schema.ids)
  pub few : length (filled_of (layouts columns) h.schema.ids) ≤ most_dictionaries
  pub like : AreLike h.schema.fields (layouts columns)
  pub named : chunk_named h.schema.fields columns ≡ chunk_written columns
  pub consistent : AreConsistent (filled_of (layouts columns) h.schema.ids)

-- Theorem: the dictionary fields of an accepted chunk are its schema's, no more than a reader
-- counts, and those of one id have the same values.
abbrev pub FitLaw : Type 0
FitLaw = (order : Endianness) (fs : FieldTrees) (metadata : Pairs) (is : IdTrees) (columns : List Layout)
    → IsWritable fs metadata is → AreArrays (layouts columns) → IsAcceptedChunk fs is columns → FitsSchema (head_written order fs metadata is) columns

-- Theorem: the messages of an accepted chunk of a writable schema mean just that chunk.
abbrev pub AcceptedChunkLaw : Type 0
AcceptedChunkLaw = (order : Endianness) (fs : FieldTrees) (metadata : Pairs) (is : IdTrees) (columns : List Layout) (before after : Remembered) (bytes : List ℕ)
    → IsWritable fs metadata is → AreArrays (layouts columns) → IsAcceptedChunk fs is columns
    → SendsChunk (head_written order fs metadata is) before columns bytes after
    → MeansChunk (head_written order fs metadata is) bytes before after (chunk_written columns)

-- ---- what is known

-- Theorem: if the values at the dictionary fields of arrays are found, the
-- arrays' dictionaries are known.
abbrev pub KnownLaw : Type 0
KnownLaw = (s : Entries) (cs : Layouts) (is : IdTrees) → AllHaveIds cs is → Finds (λ id. dictionary_at s.dictionaries id) (filled_of cs is) → KnowsAll s cs is
