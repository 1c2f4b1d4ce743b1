-- Chunks of a file, one after the other.
use Rattle.std.proofs.Common.{◌≡◌, ℕ, cond, List, [], ◌∷◌, ◌++◌, map, Option, Some, None, refl, sym, ap, ◌∙◌, subst, inl, inr}
use Rattle.std.specs.Ordering.{int_eq}
use Rattle.lower_types.specs.declared.Endianness.{Endianness}
use Rattle.lower_arrays.specs.Layouts.{layouts}
use Rattle.ipc_table_views.specs.declared.file.Block.{Block}
use Rattle.ipc_model.specs.Batches.{Chunk, extra_of}
use Rattle.ipc_model.specs.Entries.{Dictionary, Dictionaries}
use Rattle.ipc_model.specs.Files.{FileMetadata, chunk_at, dictionaries_at, dictionaries_after, chunks_at}
use Rattle.ipc_model.specs.Offers.{FilledPlace}
use Rattle.ipc_model.specs.Schemas.{given}
use Rattle.ipc_model.specs.Streams.{Head, Known}
use Rattle.ipc_stream_lemmas.specs.Blocks.{IsOfVersion}
use Rattle.ipc_stream_lemmas.specs.FileChunks.{ValuesAt, StandAt, StandInOrder, ListedBlocksLaw, with_blocks, FileChunkLaw}
use Rattle.ipc_stream_lemmas.specs.Kept.{StillRemembers, KnowsMore}
use Rattle.ipc_stream_lemmas.specs.Messages.{chunk_written}
use Rattle.ipc_stream_lemmas.specs.Order.{Chooses, InOrder}
use Rattle.ipc_stream_lemmas.specs.Places.{HavePlaces, head_written}
use Rattle.ipc_stream_lemmas.specs.Remembered.{Remembered, remembering, KnowsRemembered, dictionary_of, Filled, filled_place, filled_below, filled_of}
use Rattle.ipc_stream_lemmas.proofs.Blocks.{block_record_law, block_dictionary_law}
use Rattle.ipc_stream_lemmas.proofs.Bodies.{values_law, columns_law}
use Rattle.ipc_stream_lemmas.proofs.Fitting.{fit_law}
use Rattle.ipc_stream_lemmas.proofs.Kept.{kept_law, offer_kept_law, kept_chunk_law}
use Rattle.ipc_model.proofs.Given.{given-some, some-same}
use Rattle.ipc_stream_lemmas.proofs.Moving.{finds_known}
use Rattle.ipc_stream_lemmas.proofs.Ordering.{order_law}

-- ---- the values to write

pub listed_blocks_law : ListedBlocksLaw
listed_blocks_law m seen order r [] ws after bs s e = (subst (λ (xs : List FilledPlace). StandInOrder m seen order xs bs) s.0 e, s.1)
listed_blocks_law m seen order r (p ∷ ps) ws after bs (inl s) e = inl (s.0, listed_blocks_law m seen order r ps ws after bs s.1 e)
listed_blocks_law m seen order r (p ∷ ps) ws after bs (inr s) e =
    let x = subst (λ (xs : List FilledPlace). StandInOrder m seen order xs bs) s.1 e in
    inr (x.0, x.1, x.2, x.3, listed_blocks_law m seen order (remembering p.id (dictionary_of p.values) r) ps s.0 after x.1 s.2 x.4)

-- ---- the dictionaries that are added

-- one at each block, in order
StandEach : FileMetadata → (Block → List ℕ) → Endianness → List Filled → List Block → Type 0
StandEach m seen order [] bs = bs ≡ []
StandEach m seen order (p ∷ ps) bs = (b : Block) × (rest : List Block) × ValuesAt m seen order (filled_place p) b × (bs ≡ b ∷ rest) × StandEach m seen order ps rest

record Chosen (h : Head) (m : FileMetadata) (seen : Block → List ℕ) (order : Endianness) (r : Remembered) (ps : List Filled) (bs : List Block) (after : Remembered) : Type 0 where
  pub places : List Filled
  pub chooses : Chooses r ps places after
  pub stand : StandEach m seen order places bs
  pub have : HavePlaces h.schema ps → HavePlaces h.schema places

chosen_of : (h : Head) (m : FileMetadata) (seen : Block → List ℕ) (order : Endianness) (r : Remembered) (ps : List Filled) (bs : List Block) (after : Remembered) → StandAt m seen order r ps bs after
    → Chosen h m seen order r ps bs after
unfolding StandEach
chosen_of h m seen order r [] bs after s = record { places = []; chooses = (refl, s.1); stand = s.0; have = λ x. tt }
chosen_of h m seen order r (p ∷ ps) bs after (inl s) =
    let c = chosen_of h m seen order r ps bs after s.1 in
    record { places = c.places; chooses = inl (s.0, c.chooses); stand = c.stand; have = λ x. c.have x.1 }
chosen_of h m seen order r (p ∷ ps) bs after (inr s) =
    let c = chosen_of h m seen order (remembering p.id (dictionary_of p.values) r) ps s.1 after s.4 in
    record { places = p ∷ c.places; chooses = inr (c.places, refl, c.chooses); stand = (s.0, s.1, s.2, s.3, c.stand); have = λ x. (x.0, c.have x.1) }

-- what is known after some blocks
record Sets (m : FileMetadata) (seen : Block → List ℕ) (known : Dictionaries) (bs : List Block) (after : Remembered) : Type 0 where
  pub then_known : Dictionaries
  pub agrees : KnowsRemembered after then_known
  pub means : dictionaries_after m seen known bs ≡ Some then_known

sets_at : (m : FileMetadata) (seen : Block → List ℕ) (known : Dictionaries) (bs cs : List Block) (after : Remembered) → bs ≡ cs → Sets m seen known cs after → Sets m seen known bs after
sets_at m seen known bs cs after e x = subst (λ (ds : List Block). Sets m seen known ds after) (sym e) x

version_same : (h : Head) (metadata : List ℕ) → extra_of h.version ≡ 0 → IsOfVersion metadata 0 → IsOfVersion metadata (extra_of h.version)
version_same h metadata e v = subst (λ (n : ℕ). IsOfVersion metadata n) (sym e) v

sets_each : (h : Head) (m : FileMetadata) (seen : Block → List ℕ) (r after : Remembered) (known : Dictionaries) (ps : List Filled) (bs : List Block) → m.schema ≡ h.schema → extra_of h.version ≡ 0
    → HavePlaces h.schema ps → InOrder r ps after → StandEach m seen h.schema.order ps bs → KnowsRemembered r known → Sets m seen known bs after
unfolding StandEach
sets_each h m seen r after known [] bs same extra have o s a =
    sets_at m seen known bs [] after s (record { then_known = known; agrees = record { each = λ i. a.each i ∙ sym (o i) }; means = refl })
sets_each h m seen r after known (p ∷ ps) bs same extra have o s a =
    let b = s.0 in
    let v = s.2 in
    let d = dictionary_of p.values in
    let state : Known = record { dictionaries = known; count = 0 } in
    let w = (values_law h p extra have.0 v.message).written state (finds_known r known (filled_below p.values p.ids) a o.0) in
    let one : dictionaries_at m known (seen b) b ≡ Some ((p.id, d) ∷ known) =
    block_dictionary_law m h state (seen b) b v.message.metadata v.message.body p.id d same v.stands w (version_same h v.message.metadata extra v.version) in
    let agrees : KnowsRemembered (remembering p.id d r) ((p.id, d) ∷ known) = record { each = λ i. ap (λ (x : Option Dictionary). cond (int_eq p.id i) (Some d) x) (a.each i) } in
    let rest = sets_each h m seen (remembering p.id d r) after ((p.id, d) ∷ known) ps s.1 same extra have.1 o.1 s.4 agrees in
    sets_at m seen known bs (b ∷ s.1) after s.3 (record {
      then_known = rest.then_known;
      agrees = rest.agrees;
      means = ap (λ (x : Option Dictionaries). given x (λ (ds : Dictionaries). dictionaries_after m seen ds s.1)) one ∙ rest.means;
    })

after_both : (m : FileMetadata) (seen : Block → List ℕ) (known middle after : Dictionaries) (bs cs : List Block) → dictionaries_after m seen known bs ≡ Some middle → dictionaries_after m seen middle cs ≡ Some after
    → dictionaries_after m seen known (bs ++ cs) ≡ Some after
after_both m seen known middle after [] cs e f = ap (λ (ds : Dictionaries). dictionaries_after m seen ds cs) (some-same known middle e) ∙ f
after_both m seen known middle after (b ∷ bs) cs e f =
    let found = given-some (dictionaries_at m known (seen b) b) (λ (ds : Dictionaries). dictionaries_after m seen ds bs) middle e in
    ap (λ (x : Option Dictionaries). given x (λ (ds : Dictionaries). dictionaries_after m seen ds (bs ++ cs))) found.1 ∙ after_both m seen found.0 middle after bs cs found.2 f

-- ---- the records before it, and its own

first_some : (x : Option Chunk) (c : Chunk) (xs ys : List (Option Chunk)) → x ∷ xs ≡ Some c ∷ ys → x ≡ Some c
first_some x c xs ys e = cc

others_some : (x : Option Chunk) (c : Chunk) (xs ys : List (Option Chunk)) → x ∷ xs ≡ Some c ∷ ys → xs ≡ ys
others_some x c xs ys e = cc

chunks_then : (m : FileMetadata) (seen : Block → List ℕ) (ds es : Dictionaries) (bs : List Block) (b : Block) (cs : List Chunk) (c : Chunk) → KnowsMore ds es → chunks_at m ds seen None None bs ≡ map Some cs
    → chunk_at m es (seen b) b None None ≡ Some c → chunks_at m es seen None None (bs ++ b ∷ []) ≡ map Some (cs ++ c ∷ [])
chunks_then m seen ds es [] b [] c k e f = ap (λ (x : Option Chunk). x ∷ []) f
chunks_then m seen ds es [] b (d ∷ cs) c k e f = absurd cc
chunks_then m seen ds es (a ∷ bs) b [] c k e f = absurd cc
chunks_then m seen ds es (a ∷ bs) b (d ∷ cs) c k e f =
    let here = kept_chunk_law m ds es (seen a) a None None d k (first_some _ d _ _ e) in
    let rest = chunks_then m seen ds es bs b cs c k (others_some _ d _ _ e) f in
    ap (λ (x : Option Chunk). x ∷ chunks_at m es seen None None (bs ++ b ∷ [])) here ∙ ap (λ (xs : List (Option Chunk)). Some d ∷ xs) rest

-- what is remembered is known
knows_more : (before after : Remembered) (ds es : Dictionaries) → StillRemembers before after → KnowsRemembered before ds → KnowsRemembered after es → KnowsMore ds es
knows_more before after ds es k a b = record { still = λ id d e. b.each id ∙ k.still id d (sym (a.each id) ∙ e) }

-- The lists of blocks don't matter to one block.
given_alike : {A B : Type 0} (o : Option A) (f g : A → Option B) → ((x : A) → f x ≡ g x) → given o f ≡ given o g
given_alike None f g e = refl
given_alike (Some x) f g e = e x

same_at : (m : FileMetadata) (seen : Block → List ℕ) (known : Dictionaries) (bs : List Block) (b d : Block) → dictionaries_at (with_blocks m bs b) known (seen d) d ≡ dictionaries_at m known (seen d) d
unfolding dictionaries_at
same_at m seen known bs b d = refl

same_chunk : (m : FileMetadata) (seen : Block → List ℕ) (known : Dictionaries) (bs : List Block) (b d : Block) → chunk_at (with_blocks m bs b) known (seen d) d None None ≡ chunk_at m known (seen d) d None None
unfolding chunk_at
same_chunk m seen known bs b d = refl

same_after : (m : FileMetadata) (seen : Block → List ℕ) (known : Dictionaries) (bs : List Block) (b : Block) (ds : List Block) → dictionaries_after (with_blocks m bs b) seen known ds ≡ dictionaries_after m seen known ds
same_after m seen known bs b [] = refl
same_after m seen known bs b (d ∷ ds) =
    ap (λ (x : Option Dictionaries). given x (λ (es : Dictionaries). dictionaries_after (with_blocks m bs b) seen es ds)) (same_at m seen known bs b d)
    ∙ given_alike (dictionaries_at m known (seen d) d) (λ (es : Dictionaries). dictionaries_after (with_blocks m bs b) seen es ds) (λ (es : Dictionaries). dictionaries_after m seen es ds) (λ es. same_after m seen es bs b ds)

same_chunks : (m : FileMetadata) (seen : Block → List ℕ) (known : Dictionaries) (bs : List Block) (b : Block) (ds : List Block) → chunks_at (with_blocks m bs b) known seen None None ds ≡ chunks_at m known seen None None ds
same_chunks m seen known bs b [] = refl
same_chunks m seen known bs b (d ∷ ds) =
    ap (λ (x : Option Chunk). x ∷ chunks_at (with_blocks m bs b) known seen None None ds) (same_chunk m seen known bs b d)
    ∙ ap (λ (xs : List (Option Chunk)). chunk_at m known (seen d) d None None ∷ xs) (same_chunks m seen known bs b ds)

pub file_chunk_law : FileChunkLaw
file_chunk_law order fs metadata is m seen before after cs columns bs b same file w arrays accepted kept stand own =
    let h = head_written order fs metadata is in
    let f = fit_law order fs metadata is columns w arrays accepted in
    let ps = filled_of (layouts columns) is in
    let c = chosen_of h m seen order before ps bs after stand in
    let o = order_law columns is before after c.places f.consistent c.chooses in
    let x = sets_each h m seen before after file.known c.places bs same refl (c.have f.placed) o.ordered c.stand file.agrees in
    let state : Known = record { dictionaries = x.then_known; count = 0 } in
    let written = (columns_law h columns refl f.ids f.like f.named own.message).written state (finds_known after x.then_known ps x.agrees o.found) in
    let record_is = block_record_law m h state (seen b) b own.message.metadata own.message.body (chunk_written columns) same own.stands written own.version in
    let more_known = knows_more before after file.known x.then_known (kept_law ps before after c.places f.consistent (offer_kept_law before columns is kept) c.chooses) file.agrees x.agrees in
    record {
      known = x.then_known;
      agrees = x.agrees;
      blocks = record {
        dictionaries =
            same_after m seen [] bs b (m.dictionaries ++ bs)
            ∙ after_both m seen [] file.known x.then_known m.dictionaries bs file.blocks.dictionaries x.means;
        chunks =
            same_chunks m seen x.then_known bs b (m.blocks ++ b ∷ [])
            ∙ chunks_then m seen file.known x.then_known m.blocks b cs (chunk_written columns) more_known file.blocks.chunks record_is;
      };
    }
