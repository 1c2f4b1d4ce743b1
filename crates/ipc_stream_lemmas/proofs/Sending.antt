-- The messages at the dictionary fields of a chunk, and that of its columns.
use Rattle.std.proofs.Common.{◌≡◌, ℕ, ◌+◌, ◌≤◌, List, [], ◌∷◌, ◌++◌, length, Some, refl, sym, ap, ◌∙◌, subst, arith, append_assoc, inl, inr}
use Rattle.lower_arrays.specs.Layouts.{layouts}
use Rattle.ipc_model.proofs.Meanings.{meaning_more}
use Rattle.ipc_model.proofs.Written.{written_record}
use Rattle.ipc_model.specs.Streams.{Head, meaning}
use Rattle.ipc_stream_lemmas.specs.Messages.{message_bytes, MeansValues, chunk_written}
use Rattle.ipc_stream_lemmas.specs.Moves.{Moves, SendsPlaces, MovesLaw, ChunkLaw}
use Rattle.ipc_stream_lemmas.specs.Order.{Chooses, InOrder}
use Rattle.ipc_stream_lemmas.specs.Remembered.{Remembered, remembering, dictionary_of, Filled, filled_of}
use Rattle.ipc_stream_lemmas.proofs.Moving.{finds_known, moves_none, moves_then, moves_fewer, message_then, moves_one}
use Rattle.ipc_stream_lemmas.proofs.Ordering.{order_law}

-- ---- those that are sent

-- a message for each, in order
SendsEach : Head → List Filled → List ℕ → Type 0
SendsEach h [] bytes = bytes ≡ []
SendsEach h (p ∷ ps) bytes = (metadata body rest : List ℕ) × MeansValues h p metadata body × (bytes ≡ message_bytes metadata body ++ rest) × SendsEach h ps rest

record Chosen (h : Head) (m : Remembered) (ps : List Filled) (bytes : List ℕ) (after : Remembered) : Type 0 where
  pub places : List Filled
  pub chooses : Chooses m ps places after
  pub sends : SendsEach h places bytes
  pub few : length places ≤ length ps

chosen_of : (h : Head) (m : Remembered) (ps : List Filled) (bytes : List ℕ) (after : Remembered) → SendsPlaces h m ps bytes after → Chosen h m ps bytes after
unfolding SendsEach
chosen_of h m [] bytes after s = record { places = []; chooses = (refl, s.1); sends = s.0; few = omega arith }
chosen_of h m (p ∷ ps) bytes after (inl s) =
    let r = chosen_of h m ps bytes after s.1 in
    record { places = r.places; chooses = inl (s.0, r.chooses); sends = r.sends; few = omega (arith, r.few) }
chosen_of h m (p ∷ ps) bytes after (inr s) =
    let r = chosen_of h (remembering p.id (dictionary_of p.values) m) ps s.2 after s.5 in
    record { places = p ∷ r.places; chooses = inr (r.places, refl, r.chooses); sends = (s.0, s.1, s.2, s.3, s.4, r.sends); few = omega (arith, r.few) }

moves_each : (h : Head) (m : Remembered) (ps : List Filled) (bytes : List ℕ) (after : Remembered) → InOrder m ps after → SendsEach h ps bytes → Moves h bytes (length ps) m after
unfolding SendsEach
moves_each h m [] bytes after o s = subst (λ (xs : List ℕ). Moves h xs 0 m after) (sym s) (moves_none h m after o)
moves_each h m (p ∷ ps) bytes after o s =
    let then = remembering p.id (dictionary_of p.values) m in
    let count : 1 + length ps ≡ length (p ∷ ps) = omega arith in
    subst (λ (xs : List ℕ). Moves h xs (length (p ∷ ps)) m after) (sym s.4)
    (subst (λ (n : ℕ). Moves h (message_bytes s.0 s.1 ++ s.2) n m after) count
    (moves_then h (message_bytes s.0 s.1) s.2 1 (length ps) m then after (moves_one h p s.0 s.1 m s.3 o.0) (moves_each h then ps s.2 after o.1 s.5)))

pub moves_law : MovesLaw
moves_law h columns before after bytes v s =
    let ps = filled_of (layouts columns) h.schema.ids in
    let r = chosen_of h before ps bytes after s in
    let o = order_law columns h.schema.ids before after r.places v r.chooses in
    record { moves = moves_fewer h bytes (length r.places) (length ps) before after r.few (moves_each h before r.places bytes after o.ordered r.sends); found = o.found }

-- ---- the chunk

pub chunk_law : ChunkLaw
chunk_law h columns before after bytes v few s = record {
  reads = λ known agrees none.
      let like = moves_law h columns before after s.dictionaries v s.sent in
      let x = like.moves.moves known agrees (omega (arith, few, none)) in
      let ps = filled_of (layouts columns) h.schema.ids in
      let w = s.record_means.written x.known (finds_known after x.known.dictionaries ps x.agrees like.found) in
      record {
        known = record { dictionaries = x.known.dictionaries; count = 0 };
        agrees = x.agrees;
        none = refl;
        means = λ rest.
            ap (λ (xs : List ℕ). meaning h known (xs ++ rest)) s.bytes_are
            ∙ ap (meaning h known) (append_assoc s.dictionaries (message_bytes s.metadata s.body) rest)
            ∙ x.means (message_bytes s.metadata s.body ++ rest)
            ∙ ap (meaning h x.known) (message_then s.metadata s.body rest)
            ∙ meaning_more h x.known _ (Some (chunk_written columns)) (record { dictionaries = x.known.dictionaries; count = 0 }) rest
            (written_record h x.known s.metadata s.body rest (chunk_written columns) w);
      };
}
