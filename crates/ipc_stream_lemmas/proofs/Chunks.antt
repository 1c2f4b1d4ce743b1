-- What is sent of an accepted chunk means it.
use Rattle.std.proofs.Common.{◌≡◌, ℕ, List, [], ◌∷◌, map, refl, subst, inl, inr}
use Rattle.lower_arrays.specs.Layouts.{layouts}
use Rattle.ipc_model.specs.Accepted.{fields_of}
use Rattle.ipc_model.specs.Batches.{Column, extra_of}
use Rattle.ipc_model.specs.Offers.{FilledPlace, offer_of}
use Rattle.ipc_model.specs.Streams.{Head}
use Rattle.ipc_stream_lemmas.specs.Chunks.{HasMessages, SendsBodies, ListedLaw, WrittenChunkLaw, EncodedChunkLaw}
use Rattle.ipc_stream_lemmas.specs.Moves.{SendsPlaces}
use Rattle.ipc_stream_lemmas.specs.Places.{head_written, HavePlaces}
use Rattle.ipc_stream_lemmas.specs.Remembered.{Remembered, remembering, dictionary_of, Filled, filled_of}
use Rattle.ipc_stream_lemmas.proofs.Bodies.{values_law, columns_law}
use Rattle.ipc_stream_lemmas.proofs.Fitting.{fit_law}
use Rattle.ipc_stream_lemmas.proofs.Sending.{chunk_law}

-- ---- the values to write

pub listed_law : ListedLaw
listed_law order m [] ws after bytes s e = (subst (λ (xs : List FilledPlace). HasMessages order xs bytes) s.0 e, s.1)
listed_law order m (p ∷ ps) ws after bytes (inl s) e = inl (s.0, listed_law order m ps ws after bytes s.1 e)
listed_law order m (p ∷ ps) ws after bytes (inr s) e =
    let x = subst (λ (xs : List FilledPlace). HasMessages order xs bytes) s.1 e in
    inr (x.0, x.1, x.2, listed_law order (remembering p.id (dictionary_of p.values) m) ps s.0 after x.1 s.2 x.3)

-- ---- chunks

sends_bodies : (h : Head) (m : Remembered) (ps : List Filled) (bytes : List ℕ) (after : Remembered) → extra_of h.version ≡ 0 → HavePlaces h.schema ps → SendsBodies h.schema.order m ps bytes after → SendsPlaces h m ps bytes after
sends_bodies h m [] bytes after extra placed s = s
sends_bodies h m (p ∷ ps) bytes after extra placed (inl s) = inl (s.0, sends_bodies h m ps bytes after extra placed.1 s.1)
sends_bodies h m (p ∷ ps) bytes after extra placed (inr s) = inr (
  s.0.metadata,
  s.0.body,
  s.1,
  values_law h p extra placed.0 s.0,
  s.2,
  sends_bodies h (remembering p.id (dictionary_of p.values) m) ps s.1 after extra placed.1 s.3,
)

pub written_chunk_law : WrittenChunkLaw
written_chunk_law order fs metadata is columns before after bytes w arrays accepted s =
    let h = head_written order fs metadata is in
    let f = fit_law order fs metadata is columns w arrays accepted in
    chunk_law h columns before after bytes f.consistent f.few (record {
      dictionaries = s.dictionaries;
      metadata = s.own.metadata;
      body = s.own.body;
      sent = sends_bodies h before (filled_of (layouts columns) is) s.dictionaries after refl f.placed s.sent;
      record_means = columns_law h columns refl f.ids f.like f.named s.own;
      bytes_are = s.bytes_are;
    })

pub encoded_chunk_law : EncodedChunkLaw
encoded_chunk_law order is columns before after bytes arrays e s =
    written_chunk_law order (fields_of (map (λ (c : Column). c.type) (offer_of columns is).columns)) [] is columns before after bytes e.writable arrays e.accepted s
