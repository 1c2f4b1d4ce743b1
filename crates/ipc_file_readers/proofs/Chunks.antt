-- The chunk of a block, by the requested columns, and by dictionaries that agree.
use Rattle.std.proofs.Common.{◌≡◌, ℕ, List, length, Bool, true, false, cond, nat_eq, Option, None, Some, Ok, refl, sym, ap, ◌∙◌}
use Rattle.std.specs.Option.{option_and_then}
use Rattle.std.specs.Prelude.{slice_get}
use Rattle.std.specs.List.Sorted.{IsPermutation}
use Rattle.std.proofs.lemmas.List.{length-map}
use Rattle.lower_arrays.specs.declared.array.AnyArray.{AnyArray}
use Rattle.ipc_devices.proofs.Claims.{claims_through}
use Rattle.ipc_devices.specs.Faults.{OwnFault}
use Rattle.ipc_devices.specs.declared.fault.Fault.{Fault}
use Rattle.ipc_table_views.specs.declared.file.Block.{Block}
use Rattle.ipc_model.specs.Batches.{Body, Chunk, kinds, chosen}
use Rattle.ipc_model.specs.Entries.{Dictionaries, Limit}
use Rattle.ipc_model.specs.Files.{FileMetadata, BlockHeader, placed, metadata_at, block_header, body_at, record_with, chunk_at, file_chunk}
use Rattle.ipc_model.specs.Kinds.{count}
use Rattle.ipc_model.specs.Schemas.{given}
use Rattle.ipc_stream_lemmas.specs.Agreement.{KnowAlike}
use Rattle.ipc_stream_lemmas.proofs.Agreeing.{agree_chosen, alike_record_law}
use Rattle.ipc_projection.specs.AskedOrder.{Asked, AreInAskedOrder}
use Rattle.ipc_projection.specs.ChosenColumns.{AreAsMany, AreOrdered, AreShuffled, asked_by, rising_by}
use Rattle.ipc_projection.specs.declared.read.chosen.ChosenColumns.{ChosenColumns}
use Rattle.ipc_projection.proofs.AskedOrder.{asked_images, asked_record_law, given_as_asked, then_asked}
use Rattle.ipc_read.specs.Chunks.{chunk_seen, column_seen}
use Rattle.ipc_files.specs.Footers.{GivesPart}

given_same : {X : Type 0} (o : Option X) (f g : X → Option Chunk) → ((x : X) → f x ≡ g x) → given o f ≡ given o g
given_same None f g h = refl
given_same (Some x) f g h = h x

then_same : {X : Type 0} (o : Option X) (f g : X → Option Chunk) → ((x : X) → f x ≡ g x) → option_and_then f o ≡ option_and_then g o
then_same None f g h = refl
then_same (Some x) f g h = h x

-- ---- dictionaries that are known alike

module _ (m : FileMetadata) (ds es : Dictionaries) (alike : KnowAlike ds es) (asked : Option (List ℕ)) (limit : Limit) where
  record_alike : (body : Body) (h : BlockHeader) → record_with m ds body asked limit h ≡ record_with m es body asked limit h
  record_alike body h =
      ap (λ (o : Option Chunk). cond (nat_eq h.tag 3) o None)
      (alike_record_law m.schema h.extra ds es body h.table asked limit (agree_chosen (kinds m.schema) (chosen asked (count (kinds m.schema))) ds es alike))

  block_alike : (source : List ℕ) (b : Block) → chunk_at m ds source b asked limit ≡ chunk_at m es source b asked limit
  unfolding chunk_at
  block_alike source b =
      given_same (placed b) _ _ (λ p. given_same (metadata_at source p) _ _ (λ metadata. given_same (block_header metadata) _ _
      (record_alike (body_at m source p))))

  pub chunk_alike : (source : List ℕ) (i : ℕ) → file_chunk m ds source asked limit i ≡ file_chunk m es source asked limit i
  chunk_alike source i = then_same (slice_get m.blocks i) _ _ (λ b. block_alike source b)

-- ---- requested columns

given_asked : {X : Type 0} (a : Asked) (o : Option X) (f g : X → Option Chunk) → ((x : X) → AreInAskedOrder a (f x) (g x)) → AreInAskedOrder a (given o f) (given o g)
given_asked a None f g h = tt
given_asked a (Some x) f g h = h x

where_asked : (a : Asked) (b : Bool) (o p : Option Chunk) → AreInAskedOrder a o p → AreInAskedOrder a (cond b o None) (cond b p None)
where_asked a true o p h = h
where_asked a false o p h = tt

module _ (a : Asked) (same : IsPermutation a.columns a.rising) (m : FileMetadata) (ds : Dictionaries) (limit : Limit) where
  block_asked : (source : List ℕ) (b : Block) → AreInAskedOrder a (chunk_at m ds source b (Some a.rising) limit) (chunk_at m ds source b (Some a.columns) limit)
  unfolding chunk_at
  block_asked source b =
      given_asked a (placed b) _ _ (λ p. given_asked a (metadata_at source p) _ _ (λ metadata. given_asked a (block_header metadata) _ _
      (λ h. where_asked a (nat_eq h.tag 3) _ _ (asked_record_law a m.schema h.extra ds (body_at m source p) h.table limit same))))

  chunk_asked : (source : List ℕ) (i : ℕ) → AreInAskedOrder a (file_chunk m ds source (Some a.rising) limit i) (file_chunk m ds source (Some a.columns) limit i)
  chunk_asked source i = then_asked a (slice_get m.blocks i) _ _ (λ b. block_asked source b)

none_asked : (a : Asked) (o p : Option Chunk) → AreInAskedOrder a o p → o ≡ None → p ≡ None
none_asked a None None h e = refl
none_asked a None (Some d) h e = absurd h
none_asked a (Some x) p h e = absurd cc

-- What was read in ascending order, and is returned in the requested order.
pub given_in_order : (q : Option ChosenColumns) (m : FileMetadata) (ds : Dictionaries) (source : List ℕ) (limit : Limit) (i : ℕ) (read given : List AnyArray) → AreShuffled q → AreAsMany q (length read)
    → AreOrdered q read given → GivesPart chunk_seen (Ok read) (file_chunk m ds source (rising_by q) limit i) → GivesPart chunk_seen (Ok given) (file_chunk m ds source (asked_by q) limit i)
given_in_order None m ds source limit i read given same long order e = e ∙ ap (λ (xs : List AnyArray). Some (chunk_seen xs)) (sym order)
given_in_order (Some q) m ds source limit i read given same long order e =
    let a = q.columns in
    given_as_asked a _ _ (chunk_seen read) (chunk_seen given) same.0 (chunk_asked a same.0 m ds limit source i) e (length-map read column_seen ∙ long) (asked_images a column_seen read given order)

-- and what was refused
pub refused_in_order : (q : Option ChosenColumns) (m : FileMetadata) (ds : Dictionaries) (source : List ℕ) (limit : Limit) (i : ℕ) (e : Fault) → AreShuffled q
    → OwnFault e (file_chunk m ds source (rising_by q) limit i ≡ None) → OwnFault e (file_chunk m ds source (asked_by q) limit i ≡ None)
refused_in_order None m ds source limit i e same h = h
refused_in_order (Some q) m ds source limit i e same h = claims_through e _ _ (none_asked q.columns _ _ (chunk_asked q.columns same.0 m ds limit source i)) h
