-- If no dictionary is replaced, all that was remembered stays, and each record means what it did.
use Rattle.std.proofs.Common.{◌≡◌, ◌⊎◌, ℕ, ℤ, ◌+◌, nat_eq, cond, Bool, true, false, List, [], ◌∷◌, map, Option, Some, None, option_map, option_and_then, refl, sym, ap, ap₂, ◌∙◌, subst, inl, inr}
use Rattle.std.specs.List.{AllByRecursion}
use Rattle.std.specs.Ordering.{int_eq}
use Rattle.std.proofs.lemmas.Bool.{cases_Bool}
use Rattle.std.proofs.lemmas.Bool.Decides.{Decides-int_eq}
use Rattle.lower.specs.declared.datatypes.UnionMode.TheVariants.{Sparse, Dense}
use Rattle.lower.specs.TypeTrees.{TypeTree}
use Rattle.lower_arrays.specs.Slots.{Slot}
use Rattle.ipc_model.proofs.Given.{given-some}
use Rattle.ipc_model.proofs.Pruned.{batch_some}
use Rattle.lower_arrays.specs.Layouts.{layouts}
use Rattle.ipc_model.specs.Offers.{FilledPlace}
use Rattle.ipc_model.specs.Accepted.{Brought, AreKept}
use Rattle.ipc_model.specs.Batches.{Schema, kinds, Body, Lists, lists_of, entries_of, kind_at, own, chosen, first_rows, AllRead, Chunk, batch, record_meaning}
use Rattle.ipc_model.specs.Columns.{last_offset, IsWell, AllHaveRows, AllWell}
use Rattle.ipc_model.specs.Entries.{Entries, Dictionary, Dictionaries, dictionary_at, Limit, rows, times}
use Rattle.ipc_model.specs.Files.{FileMetadata, placed, metadata_at, BlockHeader, block_header, body_at, chunk_at}
use Rattle.ipc_model.specs.Kinds.{offsets_32, offset_width, Kind, null_kind, boolean_kind, number_kind, float_kind, fixed_binary_kind, binary_kind, utf8_kind, list_kind, map_kind, fixed_list_kind, struct_kind, union_kind, dictionary_kind, extension_kind, Kinds, no_kinds, more_kinds, count, nodes, buffers}
use Rattle.ipc_model.specs.Schemas.{given}
use Rattle.ipc_stream_lemmas.specs.Agreement.{AgreeOn, AgreeOnAll, AgreeOnChosen}
use Rattle.ipc_stream_lemmas.specs.Kept.{values_brought, AreAllKept, OfferKeptLaw, KeptLaw, StillFoundLaw, KnowsMore, KeptRecordLaw, KeptChunkLaw}
use Rattle.ipc_stream_lemmas.specs.Order.{Chooses}
use Rattle.ipc_stream_lemmas.specs.Remembered.{Remembered, remembering, dictionary_of, Filled, filled_of, Finds}
use Rattle.ipc_stream_lemmas.proofs.Fitting.{brought, offered, all_is, brought_is}
use Rattle.ipc_stream_lemmas.proofs.Agreeing.{knowing, listed, batch_alike}

-- ---- nothing is replaced

kept_brought : (m : Remembered) (ps : List Filled) → AllByRecursion (λ (p : Brought). AreKept (m p.id) p.values) (map brought ps) → AreAllKept m ps
kept_brought m [] k = tt
kept_brought m (p ∷ ps) k = (k.0, kept_brought m ps k.1)

pub offer_kept_law : OfferKeptLaw
offer_kept_law m columns is k =
    let all = ap (λ (ps : List FilledPlace). map offered ps) (sym (all_is (layouts columns) is)) ∙ brought_is (filled_of (layouts columns) is) in
    kept_brought m (filled_of (layouts columns) is) (subst (λ (xs : List Brought). AllByRecursion (λ (p : Brought). AreKept (m p.id) p.values) xs) all k)

-- At each dictionary field nothing is remembered yet, or the chunk's values v.
KeptBy : Remembered → Remembered → List Filled → Type 0
KeptBy v m ps = AllByRecursion (λ (p : Filled). (m p.id ≡ None) ⊎ (m p.id ≡ v p.id)) ps

abbrev dictionary_with : TypeTree → List Slot → Option Dictionary
dictionary_with t xs = Some (record { type = t; slots = xs })

one_kept : (v : Remembered) (p : Filled) (o : Option Dictionary) → v p.id ≡ Some (dictionary_of p.values) → AreKept o (values_brought p) → (o ≡ None) ⊎ (o ≡ v p.id)
one_kept v p None f k = inl refl
one_kept v p (Some d) f k = inr (ap₂ dictionary_with k.1 k.0 ∙ sym f)

kept_by : (v m : Remembered) (ps : List Filled) → Finds v ps → AreAllKept m ps → KeptBy v m ps
unfolding KeptBy
kept_by v m [] f k = tt
kept_by v m (p ∷ ps) f k = (one_kept v p (m p.id) f.0 k.0, kept_by v m ps f.1 k.1)

kept_then : (v m : Remembered) (id : ℤ) (d : Dictionary) (ps : List Filled) → v id ≡ Some d → KeptBy v m ps → KeptBy v (remembering id d m) ps
unfolding KeptBy
kept_then v m id d [] e k = tt
kept_then v m id d (p ∷ ps) e k = (
  elim (cases_Bool (int_eq id p.id)) [
    | inl same ↦ inr (ap (λ (b : Bool). cond b (Some d) (m p.id)) same ∙ sym e ∙ ap v ((Decides-int_eq id p.id).0 same))
    | inr other ↦ either (ap (λ (b : Bool). cond b (Some d) (m p.id)) other) k.0
  ],
  kept_then v m id d ps e k.1,
)
  where
    either : {x : Option Dictionary} → x ≡ m p.id → (m p.id ≡ None) ⊎ (m p.id ≡ v p.id) → (x ≡ None) ⊎ (x ≡ v p.id)
    either f (inl g) = inl (f ∙ g)
    either f (inr g) = inr (f ∙ g)

none_some : (d : Dictionary) (o : Option Dictionary) → o ≡ None → o ≡ Some d → ⊥
none_some d o e f = cc

-- one more value keeps what there is
keeps_one : (v m : Remembered) (p : Filled) (id : ℤ) (d : Dictionary) → v p.id ≡ Some (dictionary_of p.values) → (m p.id ≡ None) ⊎ (m p.id ≡ v p.id) → m id ≡ Some d → remembering p.id (dictionary_of p.values) m id ≡ Some d
keeps_one v m p id d f k e =
    elim (cases_Bool (int_eq p.id id)) [
      | inl same ↦ (let i = (Decides-int_eq p.id id).0 same in ap (λ (b : Bool). cond b (Some (dictionary_of p.values)) (m id)) same ∙ sym f ∙ there k (ap m i ∙ e))
      | inr other ↦ ap (λ (b : Bool). cond b (Some (dictionary_of p.values)) (m id)) other ∙ e
    ]
  where
    there : (m p.id ≡ None) ⊎ (m p.id ≡ v p.id) → m p.id ≡ Some d → v p.id ≡ Some d
    there (inl g) h = absurd (none_some d (m p.id) g h)
    there (inr g) h = sym g ∙ h

keeps_all : (v m : Remembered) (ps ws : List Filled) (after : Remembered) → Finds v ps → KeptBy v m ps → Chooses m ps ws after → (id : ℤ) (d : Dictionary) → m id ≡ Some d → after id ≡ Some d
unfolding KeptBy
keeps_all v m [] ws after f k s id d e = s.1 id ∙ e
keeps_all v m (p ∷ ps) ws after f k (inl s) id d e = keeps_all v m ps ws after f.1 k.1 s.1 id d e
keeps_all v m (p ∷ ps) ws after f k (inr s) id d e =
    keeps_all v (remembering p.id (dictionary_of p.values) m) ps s.0 after f.1 (kept_then v m p.id (dictionary_of p.values) ps f.0 k.1) s.2 id d (keeps_one v m p id d f.0 k.0 e)

pub kept_law : KeptLaw
kept_law ps before after ws v kept s = record { still = λ id d e. keeps_all v.0 before ps ws after v.1 (kept_by v.0 before ps v.1 kept) s id d e }

pub still_found_law : StillFoundLaw
still_found_law before after [] k f = tt
still_found_law before after (p ∷ ps) k f = (k.still p.id (dictionary_of p.values) f.0, still_found_law before after ps k f.1)

-- ---- what a reader knows

some_dictionary : (o : Option Dictionary) (t : TypeTree) → option_map (λ d. d.type) o ≡ Some t → (d : Dictionary) × (o ≡ Some d)
some_dictionary None t e = absurd cc
some_dictionary (Some d) t e = (d, refl)

-- the values of an id that are known
kept_under : (ds es : Dictionaries) (id : ℤ) (t : TypeTree) → KnowsMore ds es → option_map (λ d. d.type) (dictionary_at ds id) ≡ Some t → dictionary_at ds id ≡ dictionary_at es id
kept_under ds es id t k e =
    let d = some_dictionary (dictionary_at ds id) t e in
    d.1 ∙ sym (k.still id d.0 d.1)

mutual
  -- what a well formed column names is known
  well_agrees : (s : Entries) (ds es : Dictionaries) (t : Kind) (a b : ℕ) (limit : Limit) → KnowsMore ds es → IsWell (knowing s ds) t a b limit → AgreeOn t ds es
  well_agrees s ds es null_kind a b limit k v = tt
  well_agrees s ds es boolean_kind a b limit k v = tt
  well_agrees s ds es (number_kind f) a b limit k v = tt
  well_agrees s ds es float_kind a b limit k v = tt
  well_agrees s ds es (fixed_binary_kind n) a b limit k v = tt
  well_agrees s ds es (binary_kind w) a b limit k v = tt
  well_agrees s ds es (utf8_kind w) a b limit k v = tt
  well_agrees s ds es (list_kind w t) a b limit k v = well_agrees s ds es t (a + 1) (b + 2) (Some (last_offset s (b + 1) (offset_width w) (rows s a limit))) k v.2.0
  well_agrees s ds es (map_kind t) a b limit k v = well_agrees s ds es t (a + 1) (b + 2) (Some (last_offset s (b + 1) (offset_width offsets_32) (rows s a limit))) k v.1.2.0
  well_agrees s ds es (fixed_list_kind n t) a b limit k v = well_agrees s ds es t (a + 1) (b + 1) (times limit n) k v.2.0
  well_agrees s ds es (struct_kind ts) a b limit k v = rows_agree s ds es ts (a + 1) (b + 1) limit (rows s a limit) k v.2
  well_agrees s ds es (union_kind Sparse ids ts) a b limit k v = rows_agree s ds es ts (a + 1) (b + s.extra + 1) limit (rows s a limit) k v.3
  well_agrees s ds es (union_kind Dense ids ts) a b limit k v = all_agree s ds es ts (a + 1) (b + s.extra + 2) k v.4
  well_agrees s ds es (dictionary_kind f None t) a b limit k v = tt
  well_agrees s ds es (dictionary_kind f (Some id) t) a b limit k v = kept_under ds es id t k v.2.known
  well_agrees s ds es (extension_kind t) a b limit k v = well_agrees s ds es t a b limit k v

  rows_agree : (s : Entries) (ds es : Dictionaries) (ts : Kinds) (a b : ℕ) (limit : Limit) (n : ℕ) → KnowsMore ds es → AllHaveRows (knowing s ds) ts a b limit n → AgreeOnAll ts ds es
  rows_agree s ds es no_kinds a b limit n k v = tt
  rows_agree s ds es (more_kinds t ts) a b limit n k v = (well_agrees s ds es t a b limit k v.0.0, rows_agree s ds es ts (a + nodes t) (b + buffers s.extra t) limit n k v.1)

  all_agree : (s : Entries) (ds es : Dictionaries) (ts : Kinds) (a b : ℕ) → KnowsMore ds es → AllWell (knowing s ds) ts a b → AgreeOnAll ts ds es
  all_agree s ds es no_kinds a b k v = tt
  all_agree s ds es (more_kinds t ts) a b k v = (well_agrees s ds es t a b None k v.0, all_agree s ds es ts (a + nodes t) (b + buffers s.extra t) k v.1)

read_agrees : (s : Entries) (ds es : Dictionaries) (ts : Kinds) (limit : Limit) (n : ℕ) (js : List ℕ) → KnowsMore ds es → AllRead (knowing s ds) ts limit n js → AgreeOnChosen ts js ds es
read_agrees s ds es ts limit n [] k v = tt
read_agrees s ds es ts limit n (j ∷ js) k v = (well_agrees (own s ts j) ds es (kind_at ts j) 0 0 limit k v.0.0, read_agrees s ds es ts limit n js k v.1)

batch_kept : (s : Entries) (ds es : Dictionaries) (most : ℕ) (schema : Schema) (projection : Option (List ℕ)) (limit : Limit) (c : Chunk) → KnowsMore ds es
    → batch (knowing s ds) most schema projection limit ≡ Some c → batch (knowing s es) most schema projection limit ≡ Some c
batch_kept s ds es most schema projection limit c k e =
    let js = chosen projection (count (kinds schema)) in
    let is = (batch_some (knowing s ds) most schema projection limit c e).0 in
    sym (batch_alike s ds es most schema projection limit (read_agrees s ds es (kinds schema) limit (first_rows (knowing s ds) (kinds schema) limit js) js k is.columns)) ∙ e

lists_kept : (schema : Schema) (extra : ℕ) (ds es : Dictionaries) (body : Body) (projection : Option (List ℕ)) (limit : Limit) (c : Chunk) (o : Option Lists) → KnowsMore ds es
    → option_and_then (λ (lists : Lists). batch (entries_of lists body schema.order extra ds) body.size schema projection limit) o ≡ Some c
    → option_and_then (λ (lists : Lists). batch (entries_of lists body schema.order extra es) body.size schema projection limit) o ≡ Some c
unfolding entries_of
lists_kept schema extra ds es body projection limit c None k e = absurd cc
lists_kept schema extra ds es body projection limit c (Some lists) k e = batch_kept (listed lists body schema extra) ds es body.size schema projection limit c k e

pub kept_record_law : KeptRecordLaw
unfolding record_meaning
kept_record_law schema extra ds es body t projection limit c k e = lists_kept schema extra ds es body projection limit c (lists_of t) k e

-- ---- files

tag_kept : (m : FileMetadata) (ds es : Dictionaries) (body : Body) (projection : Option (List ℕ)) (limit : Limit) (h : BlockHeader) (c : Chunk) (b : Bool) → KnowsMore ds es
    → cond b (record_meaning m.schema h.extra ds body h.table projection limit) None ≡ Some c → cond b (record_meaning m.schema h.extra es body h.table projection limit) None ≡ Some c
tag_kept m ds es body projection limit h c true k e = kept_record_law m.schema h.extra ds es body h.table projection limit c k e
tag_kept m ds es body projection limit h c false k e = absurd cc

given_is : {A B : Type 0} (o : Option A) (f : A → Option B) (x : A) (y : B) → o ≡ Some x → f x ≡ Some y → given o f ≡ Some y
given_is o f x y e h = ap (λ (p : Option _). given p f) e ∙ h

pub kept_chunk_law : KeptChunkLaw
unfolding chunk_at
kept_chunk_law m ds es source b projection limit c k e =
    let p = given-some (placed b) _ c e in
    let d = given-some (metadata_at source p.0) _ c p.2 in
    let h = given-some (block_header d.0) _ c d.2 in
    given_is (placed b) _ p.0 c p.1 (given_is (metadata_at source p.0) _ d.0 c d.1 (given_is (block_header d.0) _ h.0 c h.1
    (tag_kept m ds es (body_at m source p.0) projection limit h.0 c (nat_eq h.0.tag 3) k h.2)))
