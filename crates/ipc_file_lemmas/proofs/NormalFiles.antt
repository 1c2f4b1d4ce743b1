-- What a file means if its schema is brought into the normal form.
use Rattle.std.proofs.Common.{◌≡◌, ℕ, zero, suc, nat_eq, ℤ, cond, Bool, true, false, List, [], ◌∷◌, map, Option, None, Some, Result, Ok, Err, refl, ap, ap₂, ◌∙◌}
use Rattle.std.specs.Option.{option_map, option_and_then}
use Rattle.lower.proofs.Laws.{norm-norm}
use Rattle.lower.specs.Normal.{norm, norm_field, norm_fields}
use Rattle.lower_arrays.specs.Slots.{Slot}
use Rattle.lower.specs.TypeTrees.{Pairs, TypeTree, FieldTree, field, FieldTrees, no_fields, more_fields}
use Rattle.ipc_devices.specs.declared.fault.TableFault.{TableFault}
use Rattle.ipc_table_views.specs.MessageSlots.{dictionary_batch_id, dictionary_batch_data, dictionary_batch_is_delta}
use Rattle.ipc_table_views.specs.Spot.{Spot}
use Rattle.ipc_table_views.specs.declared.file.Block.{Block}
use Rattle.ipc_base.specs.IdTrees.{ids, no_ids, more_ids}
use Rattle.lower_types.specs.declared.Endianness.{Endianness}
use Rattle.ipc_model.specs.Batches.{Body, Chunk, Column, Lists, Place, Schema, batch, batch_meaning, chosen, chunk_of, dictionary_meaning, entries_of, field_type, is_batch, is_projection, kinds, lists_of, place_of, places, record_meaning, slots_of_column, type_at, values_meaning, values_schema, with_values}
use Rattle.ipc_model.specs.Entries.{Dictionaries, Entries, Limit}
use Rattle.ipc_model.specs.FileFollowLaws.{BlocksMean}
use Rattle.ipc_model.specs.Files.{BlockHeader, FileMetadata, block_header, body_at, chunk_at, chunks_at, dictionaries_after, dictionaries_at, dictionaries_with, metadata_at, placed, record_with}
use Rattle.ipc_model.specs.Kinds.{Kinds, count}
use Rattle.ipc_model.specs.Schemas.{given}
use Rattle.ipc_stream_lemmas.proofs.NormalForms.{normal_place, places_normal, place_normal}
use Rattle.ipc_plan.proofs.NormalKinds.{kinds_normal}
use Rattle.ipc_file_lemmas.specs.Appending.{normal_chunk, normal_schema}

-- ---- options

cond-map : {A B : Type 0} (f : A → B) (b : Bool) (x : Option A) → cond b (option_map f x) None ≡ option_map f (cond b x None)
cond-map f true x = refl
cond-map f false x = refl

given-map : {A B C : Type 0} (f : B → C) (o : Option A) (g : A → Option B) (h : A → Option C) → ((x : A) → h x ≡ option_map f (g x)) → given o h ≡ option_map f (given o g)
given-map f None g h same = refl
given-map f (Some x) g h same = same x

pub given-same : {A B : Type 0} (o : Option A) (g h : A → Option B) → ((x : A) → h x ≡ g x) → given o h ≡ given o g
given-same None g h same = refl
given-same (Some x) g h same = same x

-- ---- records

type-normal : (f : FieldTree) → field_type (norm_field f) ≡ norm (field_type f)
type-normal (field name t nullable metadata) = refl

types-normal : (fs : FieldTrees) (j : ℕ) → type_at (norm_fields fs) j ≡ norm (type_at fs j)
types-normal no_fields j = refl
types-normal (more_fields f fs) zero = type-normal f
types-normal (more_fields f fs) (suc j) = types-normal fs j

-- both schemas are the same but for their normal form
record IsLike (s t : Schema) : Type 0 where
  pub same_kinds : kinds t ≡ kinds s
  pub types : (j : ℕ) → type_at t.fields j ≡ norm (type_at s.fields j)
  pub order : t.order ≡ s.order

normal-like : (s : Schema) → IsLike s (normal_schema s)
normal-like s = record { same_kinds = kinds_normal s.fields s.ids; types = types-normal s.fields; order = refl }

abbrev column-of : TypeTree → List Slot → Column
column-of t xs = record { type = t; slots = xs }

columns-like : (e : Entries) (fs gs : FieldTrees) (ts : Kinds) (js : List ℕ) (limit : Limit) → ((j : ℕ) → type_at gs j ≡ norm (type_at fs j))
    → chunk_of e gs ts js limit ≡ normal_chunk (chunk_of e fs ts js limit)
columns-like e fs gs ts [] limit types = refl
columns-like e fs gs ts (j ∷ js) limit types =
    ap₂ (λ (t : TypeTree) (cs : Chunk). column-of t (slots_of_column e ts limit j) ∷ cs) (types j) (columns-like e fs gs ts js limit types)

batch-like : (e : Entries) (most : ℕ) (s t : Schema) (projection : Option (List ℕ)) (limit : Limit) → IsLike s t
    → batch e most t projection limit ≡ option_map normal_chunk (batch e most s projection limit)
unfolding batch
batch-like e most s t projection limit like =
    let ts = kinds s in
    let js = chosen projection (count ts) in
    let whole = is_projection projection (count ts) in
    let well = is_batch e most ts js limit in
    rw (like.same_kinds, columns-like e s.fields t.fields ts js limit like.types)
    (ap (λ (o : Option Chunk). cond whole o None) (cond-map normal_chunk well (Some (chunk_of e s.fields ts js limit))) ∙ cond-map normal_chunk whole (cond well (Some (chunk_of e s.fields ts js limit)) None))

lists-like : (o : Option Lists) (s t : Schema) (extra : ℕ) (known : Dictionaries) (body : Body) (projection : Option (List ℕ)) (limit : Limit) → IsLike s t
    → option_and_then (λ lists. batch (entries_of lists body t.order extra known) body.size t projection limit) o
    ≡ option_map normal_chunk (option_and_then (λ lists. batch (entries_of lists body s.order extra known) body.size s projection limit) o)
lists-like None s t extra known body projection limit like = refl
lists-like (Some lists) s t extra known body projection limit like =
    ap (λ (order : Endianness). batch (entries_of lists body order extra known) body.size t projection limit) like.order
    ∙ batch-like (entries_of lists body s.order extra known) body.size s t projection limit like

record-like : (s t : Schema) (extra : ℕ) (known : Dictionaries) (body : Body) (spot : Spot) (projection : Option (List ℕ)) (limit : Limit) → IsLike s t
    → record_meaning t extra known body spot projection limit ≡ option_map normal_chunk (record_meaning s extra known body spot projection limit)
unfolding record_meaning
record-like s t extra known body spot projection limit like = lists-like (lists_of spot) s t extra known body projection limit like

-- ---- dictionaries

values-like : (p : Place) (order : Endianness) → IsLike (values_schema p order) (values_schema (normal_place p) order)
values-like p order = record {
  same_kinds = kinds_normal (more_fields (field [] p.type true []) no_fields) (more_ids (ids None p.ids) no_ids);
  types = types-normal (more_fields (field [] p.type true []) no_fields);
  order = refl;
}

abbrev values-as : Dictionaries → ℤ → List Slot → TypeTree → Option Dictionaries
values-as known id xs t = Some ((id, record { type = t; slots = xs }) ∷ known)

with-like : (known : Dictionaries) (id : ℤ) (p : Place) (c : Chunk) → with_values known id (normal_place p) (normal_chunk c) ≡ with_values known id p c
with-like known id p [] = refl
with-like known id p (c ∷ []) = ap (λ (t : TypeTree). values-as known id c.slots t) (norm-norm p.type)
with-like known id p (c ∷ d ∷ cs) = refl

then-like : (o : Option Chunk) (known : Dictionaries) (id : ℤ) (p : Place) → option_and_then (with_values known id (normal_place p)) (option_map normal_chunk o) ≡ option_and_then (with_values known id p) o
then-like None known id p = refl
then-like (Some c) known id p = with-like known id p c

place-like : (o : Option Place) (s : Schema) (extra : ℕ) (known : Dictionaries) (body : Body) (id : ℤ) (spot : Spot)
    → option_and_then (values_meaning (normal_schema s) extra known body id spot) (option_map normal_place o) ≡ option_and_then (values_meaning s extra known body id spot) o
place-like None s extra known body id spot = refl
place-like (Some p) s extra known body id spot =
    ap (option_and_then (with_values known id (normal_place p))) (record-like (values_schema p s.order) (values_schema (normal_place p) s.order) extra known body spot None None (values-like p s.order))
    ∙ then-like (record_meaning (values_schema p s.order) extra known body spot None None) known id p

batches-like : (s : Schema) (extra : ℕ) (known : Dictionaries) (body : Body) (id : Result ℤ TableFault) (delta : Result Bool TableFault) (values : Result (Option Spot) TableFault)
    → batch_meaning (normal_schema s) extra known body id delta values ≡ batch_meaning s extra known body id delta values
batches-like s extra known body (Ok id) (Ok false) (Ok (Some spot)) =
    ap (option_and_then (values_meaning (normal_schema s) extra known body id spot)) (ap (λ (ps : List Place). place_of ps id) (places_normal s.fields s.ids) ∙ place_normal (places s.fields s.ids) id)
    ∙ place-like (place_of (places s.fields s.ids) id) s extra known body id spot
batches-like s extra known body (Ok id) (Ok false) (Ok None) = refl
batches-like s extra known body (Ok id) (Ok false) (Err e) = refl
batches-like s extra known body (Ok id) (Ok true) values = refl
batches-like s extra known body (Ok id) (Err e) values = refl
batches-like s extra known body (Err e) delta values = refl

dictionary-like : (s : Schema) (extra : ℕ) (known : Dictionaries) (body : Body) (spot : Spot) → dictionary_meaning (normal_schema s) extra known body spot ≡ dictionary_meaning s extra known body spot
unfolding dictionary_meaning
dictionary-like s extra known body spot = batches-like s extra known body (dictionary_batch_id spot) (dictionary_batch_is_delta spot) (dictionary_batch_data spot)

-- ---- blocks

-- the metadata of a file with the normal form of its schema, and other pairs
abbrev pub normal_file : FileMetadata → Pairs → FileMetadata
normal_file m pairs = record { schema = normal_schema m.schema; pairs = pairs; dictionaries = m.dictionaries; blocks = m.blocks; size = m.size }

header-like : (m : FileMetadata) (pairs : Pairs) (known : Dictionaries) (body : Body) (h : BlockHeader)
    → record_with (normal_file m pairs) known body None None h ≡ option_map normal_chunk (record_with m known body None None h)
header-like m pairs known body h =
    ap (λ (o : Option Chunk). cond (nat_eq h.tag 3) o None) (record-like m.schema (normal_schema m.schema) h.extra known body h.table None None (normal-like m.schema)) ∙ cond-map normal_chunk (nat_eq h.tag 3) (record_meaning m.schema h.extra known body h.table None None)

chunk-like : (m : FileMetadata) (pairs : Pairs) (known : Dictionaries) (source : List ℕ) (b : Block)
    → chunk_at (normal_file m pairs) known source b None None ≡ option_map normal_chunk (chunk_at m known source b None None)
unfolding chunk_at
chunk-like m pairs known source b =
    given-map normal_chunk (placed b) _ _ (λ p.
    given-map normal_chunk (metadata_at source p) _ _ (λ metadata.
    given-map normal_chunk (block_header metadata) _ _ (λ h. header-like m pairs known (body_at m source p) h)))

values-header : (m : FileMetadata) (pairs : Pairs) (known : Dictionaries) (body : Body) (h : BlockHeader)
    → dictionaries_with (normal_file m pairs) known body h ≡ dictionaries_with m known body h
values-header m pairs known body h = ap (λ (o : Option Dictionaries). cond (nat_eq h.tag 2) o None) (dictionary-like m.schema h.extra known body h.table)

values-at : (m : FileMetadata) (pairs : Pairs) (known : Dictionaries) (source : List ℕ) (b : Block)
    → dictionaries_at (normal_file m pairs) known source b ≡ dictionaries_at m known source b
unfolding dictionaries_at
values-at m pairs known source b =
    given-same (placed b) _ _ (λ p.
    given-same (metadata_at source p) _ _ (λ metadata.
    given-same (block_header metadata) _ _ (λ h. values-header m pairs known (body_at m source p) h)))

dictionaries-like : (m : FileMetadata) (pairs : Pairs) (seen : Block → List ℕ) (known : Dictionaries) (bs : List Block)
    → dictionaries_after (normal_file m pairs) seen known bs ≡ dictionaries_after m seen known bs
dictionaries-like m pairs seen known [] = refl
dictionaries-like m pairs seen known (b ∷ bs) =
    ap (λ (o : Option Dictionaries). given o (λ after. dictionaries_after (normal_file m pairs) seen after bs)) (values-at m pairs known (seen b) b)
    ∙ given-same (dictionaries_at m known (seen b) b) _ _ (λ after. dictionaries-like m pairs seen after bs)

chunks-like : (m : FileMetadata) (pairs : Pairs) (seen : Block → List ℕ) (known : Dictionaries) (bs : List Block) (cs : List Chunk)
    → chunks_at m known seen None None bs ≡ map Some cs → chunks_at (normal_file m pairs) known seen None None bs ≡ map Some (map normal_chunk cs)
chunks-like m pairs seen known [] [] e = refl
chunks-like m pairs seen known [] (c ∷ cs) e = absurd cc
chunks-like m pairs seen known (b ∷ bs) [] e = absurd cc
chunks-like m pairs seen known (b ∷ bs) (c ∷ cs) e =
    let first : chunk_at m known (seen b) b None None ≡ Some c = cc in
    let rest : chunks_at m known seen None None bs ≡ map Some cs = cc in
    ap₂ (λ (o : Option Chunk) (os : List (Option Chunk)). o ∷ os) (chunk-like m pairs known (seen b) b ∙ ap (option_map normal_chunk) first) (chunks-like m pairs seen known bs cs rest)

-- all blocks mean the same, in the normal form
pub blocks_normal : (m : FileMetadata) (pairs : Pairs) (seen : Block → List ℕ) (known : Dictionaries) (cs : List Chunk) → BlocksMean m seen known cs
    → BlocksMean (normal_file m pairs) seen known (map normal_chunk cs)
blocks_normal m pairs seen known cs h = record {
  dictionaries = dictionaries-like m pairs seen [] m.dictionaries ∙ h.dictionaries;
  chunks = chunks-like m pairs seen known m.blocks cs h.chunks;
}
