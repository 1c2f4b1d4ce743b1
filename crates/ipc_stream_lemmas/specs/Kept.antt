-- Dictionaries that a file keeps: earlier chunks are read as before.
-- (Arrow columnar format, "Dictionary messages" and "IPC File Format".)
use Rattle.std.specs.Prelude.{◌≡◌, ℕ, ℤ, List, Option, Some}
use Rattle.std.specs.List.{AllByRecursion}
use Rattle.lower_arrays.specs.Layouts.{Layout, layouts, type_of}
use Rattle.lower_arrays.specs.Slots.{slots}
use Rattle.ipc_table_views.specs.Spot.{Spot}
use Rattle.ipc_table_views.specs.declared.file.Block.{Block}
use Rattle.ipc_base.specs.IdTrees.{IdTrees}
use Rattle.ipc_model.specs.Accepted.{Offer, AreKept}
use Rattle.ipc_model.specs.Batches.{Schema, Body, Chunk, record_meaning}
use Rattle.ipc_model.specs.Entries.{Dictionary, Dictionaries, dictionary_at, Limit}
use Rattle.ipc_model.specs.Offers.{offer_of}
use Rattle.ipc_model.specs.Files.{FileMetadata, chunk_at}
use Rattle.ipc_stream_lemmas.specs.Order.{Chooses, AreConsistent}
use Rattle.ipc_stream_lemmas.specs.Remembered.{Remembered, Filled, filled_of, Finds}

-- ---- what a writer keeps

-- The values at a dictionary field, as a chunk brings them to a writer.
abbrev pub values_brought : Filled → Dictionary
values_brought p = record { type = type_of p.values; slots = slots p.values }

-- The values at each of these dictionary fields are those that are remembered, if any are.
abbrev pub AreAllKept : Remembered → List Filled → Type 0
AreAllKept m ps = AllByRecursion (λ p. AreKept (m p.id) (values_brought p)) ps

-- A chunk replaces no dictionary, as a file requires.
abbrev pub OfferKeeps : Remembered → Offer → Type 0
OfferKeeps m o = AllByRecursion (λ p. AreKept (m p.id) p.values) o.dictionaries

-- Theorem: a chunk that replaces no dictionary has at each of its dictionary fields
-- the values that are remembered.
abbrev pub OfferKeptLaw : Type 0
OfferKeptLaw = (m : Remembered) (columns : List Layout) (is : IdTrees) → OfferKeeps m (offer_of columns is)
    → AreAllKept m (filled_of (layouts columns) is)

-- All dictionaries that were remembered still are.
pub record StillRemembers (before after : Remembered) : Type 0 where
  pub still : (id : ℤ) (d : Dictionary) → before id ≡ Some d → after id ≡ Some d

-- Theorem: if no dictionary is replaced, all that were remembered still are.
abbrev pub KeptLaw : Type 0
KeptLaw = (ps : List Filled) (before after : Remembered) (ws : List Filled) → AreConsistent ps → AreAllKept before ps
    → Chooses before ps ws after → StillRemembers before after

-- Theorem: then the values of an earlier chunk are still found among the later dictionaries.
abbrev pub StillFoundLaw : Type 0
StillFoundLaw = (before after : Remembered) (ps : List Filled) → StillRemembers before after → Finds before ps → Finds after ps

-- ---- what a reader knows

-- Values are added, and none is replaced.
abbrev pub KnowsMore : Dictionaries → Dictionaries → Type 0
KnowsMore ds es = StillRemembers (λ id. dictionary_at ds id) (λ id. dictionary_at es id)

-- Theorem: a record with a meaning keeps it if dictionaries are added and none is replaced.
abbrev pub KeptRecordLaw : Type 0
KeptRecordLaw = (schema : Schema) (extra : ℕ) (ds es : Dictionaries) (body : Body) (t : Spot) (projection : Option (List ℕ)) (limit : Limit) (c : Chunk)
    → KnowsMore ds es → record_meaning schema extra ds body t projection limit ≡ Some c → record_meaning schema extra es body t projection limit ≡ Some c

-- Theorem: so does the record at a block of a file.
abbrev pub KeptChunkLaw : Type 0
KeptChunkLaw = (m : FileMetadata) (ds es : Dictionaries) (source : List ℕ) (b : Block) (projection : Option (List ℕ)) (limit : Limit) (c : Chunk)
    → KnowsMore ds es → chunk_at m ds source b projection limit ≡ Some c → chunk_at m es source b projection limit ≡ Some c
