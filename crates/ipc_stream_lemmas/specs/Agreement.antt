-- Theorems: two readers with the same dictionary values read the same.
-- (Arrow columnar format, "Dictionary messages".)
use Rattle.std.specs.Prelude.{◌≡◌, ℕ, ℤ, List, [], ◌∷◌, Option, None, Some}
use Rattle.ipc_table_views.specs.Spot.{Spot}
use Rattle.ipc_model.specs.Batches.{Schema, kinds, Body, kind_at, chosen, record_meaning, dictionary_meaning}
use Rattle.ipc_model.specs.Entries.{Dictionary, Dictionaries, dictionary_at, Limit}
use Rattle.ipc_model.specs.Kinds.{Kind, list_kind, map_kind, fixed_list_kind, struct_kind, union_kind, dictionary_kind, extension_kind, Kinds, no_kinds, more_kinds, count}
use Rattle.ipc_model.specs.Streams.{Head, Known, End, marked, waits, faulty, Meant, meaning}
use Rattle.ipc_stream_lemmas.specs.Messages.{IsWrittenDictionary, after_dictionary}

-- ---- which values both have

-- Both have the same values under this id, or none.
abbrev pub AgreeUnder : Option ℤ → Dictionaries → Dictionaries → Type 0
AgreeUnder None ds es = Unit {0}
AgreeUnder (Some id) ds es = dictionary_at ds id ≡ dictionary_at es id

abbrev mutual
  -- Both have the same values under each id that the kind of a column names, at all levels.
  pub AgreeOn : Kind → Dictionaries → Dictionaries → Type 0
  AgreeOn (list_kind w t) ds es = AgreeOn t ds es
  AgreeOn (map_kind t) ds es = AgreeOn t ds es
  AgreeOn (fixed_list_kind n t) ds es = AgreeOn t ds es
  AgreeOn (struct_kind ts) ds es = AgreeOnAll ts ds es
  AgreeOn (union_kind mode ids ts) ds es = AgreeOnAll ts ds es
  AgreeOn (dictionary_kind f id t) ds es = AgreeUnder id ds es
  AgreeOn (extension_kind t) ds es = AgreeOn t ds es
  AgreeOn _ ds es = Unit {0}

  -- Both have the same values under each id that the kinds of some columns name.
  pub AgreeOnAll : Kinds → Dictionaries → Dictionaries → Type 0
  AgreeOnAll no_kinds ds es = Unit {0}
  AgreeOnAll (more_kinds t ts) ds es = AgreeOn t ds es × AgreeOnAll ts ds es

-- Both have the same values under each id that the columns with these indices name.
abbrev pub AgreeOnChosen : Kinds → List ℕ → Dictionaries → Dictionaries → Type 0
AgreeOnChosen ts [] ds es = Unit {0}
AgreeOnChosen ts (j ∷ js) ds es = AgreeOn (kind_at ts j) ds es × AgreeOnChosen ts js ds es

-- Both have the same values under each id.
pub record KnowAlike (ds es : Dictionaries) : Type 0 where
  pub each : (id : ℤ) → dictionary_at ds id ≡ dictionary_at es id

-- ---- what both read

-- A record means the same to two readers that have the same values under each
-- id that its chosen columns name.
abbrev pub AlikeRecordLaw : Type 0
AlikeRecordLaw = (schema : Schema) (extra : ℕ) (ds es : Dictionaries) (body : Body) (t : Spot) (projection : Option (List ℕ)) (limit : Limit)
    → AgreeOnChosen (kinds schema) (chosen projection (count (kinds schema))) ds es
    → record_meaning schema extra ds body t projection limit ≡ record_meaning schema extra es body t projection limit

-- After a dictionary batch both readers have the same values under each id, or the
-- batch has no meaning to either.
abbrev pub AreAlike : Option Dictionaries → Option Dictionaries → Type 0
AreAlike None None = Unit {0}
AreAlike (Some ds) (Some es) = KnowAlike ds es
AreAlike _ _ = ⊥

-- Readers with the same dictionaries read a dictionary message alike.
abbrev pub AlikeDictionaryLaw : Type 0
AlikeDictionaryLaw = (schema : Schema) (extra : ℕ) (ds es : Dictionaries) (body : Body) (t : Spot) → KnowAlike ds es
    → AreAlike (dictionary_meaning schema extra ds body t) (dictionary_meaning schema extra es body t)

-- ---- streams

-- Both know the same values under each id, and as many dictionary messages since the last record.
pub record AreAt (s t : Known) : Type 0 where
  pub alike : KnowAlike s.dictionaries t.dictionaries
  pub count : s.count ≡ t.count

-- Both streams end in the same way, and if they wait, with the same partial prefix
-- and the same dictionary values.
abbrev pub EndAlike : End → End → Type 0
EndAlike marked marked = Unit {0}
EndAlike (waits s xs) (waits t ys) = AreAt s t × (xs ≡ ys)
EndAlike faulty faulty = Unit {0}
EndAlike _ _ = ⊥

-- Both streams have the same chunks and the same end.
pub record MeanAlike (x y : Meant) : Type 0 where
  pub chunks : x.chunks ≡ y.chunks
  pub end : EndAlike x.end y.end

-- Readers with the same dictionaries read the same stream alike.
abbrev pub AlikeStreamLaw : Type 0
AlikeStreamLaw = (h : Head) (s t : Known) (bytes : List ℕ) → AreAt s t → MeanAlike (meaning h s bytes) (meaning h t bytes)

-- ---- omitted messages

-- A dictionary message may be omitted if values of the same type and slots are known under its id.
-- A reader that has read it and one that hasn't then have the same dictionaries.
abbrev pub OmittedLaw : Type 0
OmittedLaw = (h : Head) (s : Known) (metadata body : List ℕ) (id : ℤ) (d : Dictionary) → IsWrittenDictionary h s metadata body id d
    → dictionary_at s.dictionaries id ≡ Some d → KnowAlike (after_dictionary s id d).dictionaries s.dictionaries
