-- Batches, streams and files by dictionaries that agree.
use Rattle.std.proofs.Common.{◌≡◌, ℕ, zero, suc, ℤ, ◌+◌, ◌==◌, ◌&&◌, nat_eq, nat_lt, nat_le, Bool, true, false, cond, List, [], ◌∷◌, ◌++◌, length, take, drop, Option, Some, None, option_to_list, Result, Ok, Err, refl, ap, sym, subst, ◌∙◌}
use Rattle.std.specs.Option.{option_map, option_and_then}
use Rattle.lower.specs.TypeTrees.{FieldTrees}
use Rattle.lower_arrays.specs.Slots.{Slot}
use Rattle.ipc_devices.specs.declared.fault.TableFault.{TableFault}
use Rattle.ipc_table_views.specs.Spot.{Spot}
use Rattle.ipc_table_views.specs.MessageSlots.{dictionary_batch_id, dictionary_batch_data, dictionary_batch_is_delta}
use Rattle.ipc_model.proofs.AgreeColumns.{test_same, column_same}
use Rattle.ipc_model.proofs.AgreePlaces.{chosen_agree, fields_agree, AgreeInside, fields_inside, values_agree, of_place, more_agree}
use Rattle.ipc_model.specs.AgreeLaws.{AgreeForChosen, AgreeIn, by_dictionaries, BatchAgreeLaw, RecordAgreeLaw, GainSame, DictionaryAgreeLaw, KnowSame, ItemSame, ItemAgreeLaw, MeanSame, StreamAgreeLaw, BlockAgreeLaw, DictionaryBlockAgreeLaw}
use Rattle.ipc_model.specs.Batches.{Schema, kinds, Body, lists_of, entries_of, kind_at, type_at, own, rows_at, slots_of_column, chosen, first_rows, Chunk, chunk_of, all_read, are_bounded, is_projection, is_batch, batch, record_meaning, Place, places, place_of, values_schema, with_values, values_meaning, batch_meaning, dictionary_meaning, extra_of}
use Rattle.ipc_model.specs.Entries.{Entries, Dictionary, Dictionaries, Limit}
use Rattle.ipc_model.specs.Files.{placed, metadata_at, block_header, body_at, chunk_at, dictionaries_at}
use Rattle.ipc_model.specs.Frame.{Frame, message, mark, waiting, broken, frame}
use Rattle.ipc_model.specs.Kinds.{Kinds, count, all_nodes, all_buffers}
use Rattle.ipc_model.specs.Schemas.{given}
use Rattle.ipc_model.specs.Streams.{Header, header_of, Head, Known, faulty, Item, more, done, whole, with_chunk, with_dictionaries, most_dictionaries, record_item, dictionary_item, body_item, message_item, frame_item, item, Meant, with_chunks, from_item, meant_within, meaning}
use Rattle.ipc_model.specs.Tests.{with_rows, is_well}

-- ---- batches

read_same : (s : Entries) (ds es : Dictionaries) (ts : Kinds) (limit : Limit) (k : ℕ) (js : List ℕ) → AgreeForChosen ds es ts js
    → all_read (by_dictionaries s ds) ts limit k js ≡ all_read (by_dictionaries s es) ts limit k js
read_same s ds es ts limit k [] h = refl
read_same s ds es ts limit k (j ∷ js) h =
    ap (λ v. with_rows v (rows_at s ts limit j) k && all_read (by_dictionaries s ds) ts limit k js) (test_same (own s ts j) ds es (kind_at ts j) 0 0 limit h.0)
    ∙ ap (λ v. with_rows (is_well (by_dictionaries (own s ts j) es) (kind_at ts j) 0 0 limit) (rows_at s ts limit j) k && v) (read_same s ds es ts limit k js h.1)

first_same : (s : Entries) (ds es : Dictionaries) (ts : Kinds) (limit : Limit) (js : List ℕ) → first_rows (by_dictionaries s ds) ts limit js ≡ first_rows (by_dictionaries s es) ts limit js
first_same s ds es ts limit [] = refl
first_same s ds es ts limit (j ∷ js) = refl

columns_same : (s : Entries) (ds es : Dictionaries) (fs : FieldTrees) (ts : Kinds) (limit : Limit) (js : List ℕ) → AgreeForChosen ds es ts js
    → chunk_of (by_dictionaries s ds) fs ts js limit ≡ chunk_of (by_dictionaries s es) fs ts js limit
columns_same s ds es fs ts limit [] h = refl
columns_same s ds es fs ts limit (j ∷ js) h =
    ap (λ (xs : List Slot). record { type = type_at fs j; slots = xs } ∷ chunk_of (by_dictionaries s ds) fs ts js limit) (column_same (own s ts j) ds es (kind_at ts j) 0 0 limit h.0)
    ∙ ap (λ (cs : Chunk). record { type = type_at fs j; slots = slots_of_column (by_dictionaries s es) ts limit j } ∷ cs) (columns_same s ds es fs ts limit js h.1)

test_of_batch : (s : Entries) (ds es : Dictionaries) (most : ℕ) (ts : Kinds) (js : List ℕ) (limit : Limit) → AgreeForChosen ds es ts js
    → is_batch (by_dictionaries s ds) most ts js limit ≡ is_batch (by_dictionaries s es) most ts js limit
test_of_batch s ds es most ts js limit h =
    ap (λ v. are_bounded s most && (nat_le (all_nodes ts) (length s.nodes) && (nat_le (all_buffers s.extra ts) (length s.parts) && v)))
    (ap (λ n. all_read (by_dictionaries s ds) ts limit n js) (first_same s ds es ts limit js) ∙ read_same s ds es ts limit (first_rows (by_dictionaries s es) ts limit js) js h)

pub batch_agree_law : BatchAgreeLaw
unfolding batch
batch_agree_law s ds es most schema projection limit h =
    let ts = kinds schema in
    let js = chosen projection (count ts) in
    ap (λ o. cond (is_projection projection (count ts)) o None)
    (ap (λ v. cond v (Some (chunk_of (by_dictionaries s ds) schema.fields ts js limit)) None) (test_of_batch s ds es most ts js limit h)
    ∙ ap (λ (c : Chunk). cond (is_batch (by_dictionaries s es) most ts js limit) (Some c) None) (columns_same s ds es schema.fields ts limit js h))

then_same : {A B : Type 0} (o : Option A) (f g : A → Option B) → ((x : A) → f x ≡ g x) → option_and_then f o ≡ option_and_then g o
then_same None f g h = refl
then_same (Some x) f g h = h x

pub record_agree_law : RecordAgreeLaw
unfolding record_meaning entries_of
record_agree_law schema extra ds es body t projection limit h =
    then_same (lists_of t) _ _ (λ lists. batch_agree_law (entries_of lists body schema.order extra []) ds es body.size schema projection limit h)

-- ---- dictionaries

no_gain : (ds es : Dictionaries) → GainSame ds es None None
no_gain ds es = record { gained = None; of_first = refl; of_second = refl }

with_gain : (ds es : Dictionaries) (id : ℤ) (p : Place) (o : Option Chunk) → GainSame ds es (option_and_then (with_values ds id p) o) (option_and_then (with_values es id p) o)
with_gain ds es id p None = no_gain ds es
with_gain ds es id p (Some []) = no_gain ds es
with_gain ds es id p (Some (c ∷ [])) = record { gained = Some (id, _); of_first = refl; of_second = refl }
with_gain ds es id p (Some (c ∷ d ∷ cs)) = no_gain ds es

values_gain : (schema : Schema) (extra : ℕ) (ds es : Dictionaries) (body : Body) (id : ℤ) (d : Spot) (p : Place) → AgreeInside ds es p
    → GainSame ds es (values_meaning schema extra ds body id d p) (values_meaning schema extra es body id d p)
values_gain schema extra ds es body id d p h =
    let values = values_schema p schema.order in
    let same = record_agree_law values extra ds es body d None None (chosen_agree ds es (kinds values) (chosen None (count (kinds values))) (values_agree ds es p h)) in
    subst (λ (o : Option Chunk). GainSame ds es (values_meaning schema extra ds body id d p) (option_and_then (with_values es id p) o)) same
    (with_gain ds es id p (record_meaning (values_schema p schema.order) extra ds body d None None))

place_gain : (schema : Schema) (extra : ℕ) (ds es : Dictionaries) (body : Body) (id : ℤ) (d : Spot) (o : Option Place)
    → ((p : Place) → o ≡ Some p → AgreeInside ds es p)
    → GainSame ds es (option_and_then (values_meaning schema extra ds body id d) o) (option_and_then (values_meaning schema extra es body id d) o)
place_gain schema extra ds es body id d None h = no_gain ds es
place_gain schema extra ds es body id d (Some p) h = values_gain schema extra ds es body id d p (h p refl)

slots_gain : (schema : Schema) (extra : ℕ) (ds es : Dictionaries) (body : Body) (i : Result ℤ TableFault) (b : Result Bool TableFault) (d : Result (Option Spot) TableFault) → AgreeIn schema ds es
    → GainSame ds es (batch_meaning schema extra ds body i b d) (batch_meaning schema extra es body i b d)
slots_gain schema extra ds es body (Ok id) (Ok false) (Ok (Some d)) h =
    place_gain schema extra ds es body id d (place_of (places schema.fields schema.ids) id)
    (λ p e. of_place (AgreeInside ds es) (places schema.fields schema.ids) id p (fields_inside ds es schema.fields schema.ids h) e)
slots_gain schema extra ds es body (Ok id) (Ok false) (Ok None) h = no_gain ds es
slots_gain schema extra ds es body (Ok id) (Ok false) (Err z) h = no_gain ds es
slots_gain schema extra ds es body (Ok id) (Ok true) d h = no_gain ds es
slots_gain schema extra ds es body (Ok id) (Err z) d h = no_gain ds es
slots_gain schema extra ds es body (Err z) b d h = no_gain ds es

pub dictionary_agree_law : DictionaryAgreeLaw
unfolding dictionary_meaning
dictionary_agree_law schema extra ds es body t h =
    slots_gain schema extra ds es body (dictionary_batch_id t) (dictionary_batch_is_delta t) (dictionary_batch_data t) h

-- ---- the front of a stream

either_item : (schema : Schema) (b : Bool) (x y x' y' : Item) → ItemSame schema x x' → ItemSame schema y y' → ItemSame schema (cond b x y) (cond b x' y')
either_item schema true x y x' y' h k = h
either_item schema false x y x' y' h k = k

chunk_item : (schema : Schema) (s t : Known) (o : Option Chunk) (rest : List ℕ) → KnowSame schema s t → ItemSame schema (with_chunk o s rest) (with_chunk o t rest)
chunk_item schema s t None rest k = tt
chunk_item schema s t (Some c) rest k = (refl, record { dictionaries = k.dictionaries; count = refl }, refl)

gained_item : (schema : Schema) (s t : Known) (gained : Option (ℤ × Dictionary)) (rest : List ℕ) → KnowSame schema s t
    → ItemSame schema (with_dictionaries (option_map (λ d. d ∷ s.dictionaries) gained) s rest) (with_dictionaries (option_map (λ d. d ∷ t.dictionaries) gained) t rest)
gained_item schema s t None rest k = tt
gained_item schema s t (Some d) rest k =
    (refl, record { dictionaries = more_agree s.dictionaries t.dictionaries d (places schema.fields schema.ids) k.dictionaries; count = ap (λ n. n + 1) k.count }, refl)

dictionaries_item : (schema : Schema) (s t : Known) (o o' : Option Dictionaries) (rest : List ℕ) → KnowSame schema s t → GainSame s.dictionaries t.dictionaries o o'
    → ItemSame schema (with_dictionaries o s rest) (with_dictionaries o' t rest)
dictionaries_item schema s t o o' rest k g =
    subst (λ (x : Option Dictionaries). ItemSame schema (with_dictionaries x s rest) (with_dictionaries o' t rest)) (sym g.of_first)
    (subst (λ (x : Option Dictionaries). ItemSame schema (with_dictionaries (option_map (λ d. d ∷ s.dictionaries) g.gained) s rest) (with_dictionaries x t rest)) (sym g.of_second)
    (gained_item schema s t g.gained rest k))

record_same : (h : Head) (s t : Known) (m : Header) (rest : List ℕ) → KnowSame h.schema s t → ItemSame h.schema (record_item h s m rest) (record_item h t m rest)
record_same h s t m rest k =
    let fields = fields_agree s.dictionaries t.dictionaries h.schema.fields h.schema.ids k.dictionaries in
    let same = record_agree_law h.schema (extra_of h.version) s.dictionaries t.dictionaries (whole (take m.body rest)) m.table None None
    (chosen_agree s.dictionaries t.dictionaries (kinds h.schema) (chosen None (count (kinds h.schema))) fields) in
    subst (λ (o : Option Chunk). ItemSame h.schema (record_item h s m rest) (with_chunk o t (drop m.body rest))) same
    (chunk_item h.schema s t (record_meaning h.schema (extra_of h.version) s.dictionaries (whole (take m.body rest)) m.table None None) (drop m.body rest) k)

dictionary_same : (h : Head) (s t : Known) (m : Header) (rest : List ℕ) → KnowSame h.schema s t → ItemSame h.schema (dictionary_item h s m rest) (dictionary_item h t m rest)
dictionary_same h s t m rest k =
    let next = dictionaries_item h.schema s t _ _ (drop m.body rest) k (dictionary_agree_law h.schema (extra_of h.version) s.dictionaries t.dictionaries (whole (take m.body rest)) m.table k.dictionaries) in
    subst (λ (n : ℕ). ItemSame h.schema (dictionary_item h s m rest)
    (cond (nat_lt n most_dictionaries) (with_dictionaries (dictionary_meaning h.schema (extra_of h.version) t.dictionaries (whole (take m.body rest)) m.table) t (drop m.body rest)) (done faulty))) k.count
    (either_item h.schema (nat_lt s.count most_dictionaries) _ _ _ _ next tt)

body_same : (h : Head) (s t : Known) (m : Header) (rest : List ℕ) → KnowSame h.schema s t → ItemSame h.schema (body_item h s m rest) (body_item h t m rest)
unfolding body_item
body_same h s t m rest k =
    either_item h.schema (nat_lt (length rest) m.body) _ _ _ _ tt
    (either_item h.schema (m.tag == 3) _ _ _ _ (record_same h s t m rest k)
    (either_item h.schema (m.tag == 2) _ _ _ _ (dictionary_same h s t m rest k) tt))

header_same : (h : Head) (s t : Known) (o : Option Header) (rest : List ℕ) → KnowSame h.schema s t → ItemSame h.schema (message_item h s o rest) (message_item h t o rest)
header_same h s t None rest k = tt
header_same h s t (Some m) rest k = body_same h s t m rest k

frame_same : (h : Head) (s t : Known) (f : Frame) → KnowSame h.schema s t → ItemSame h.schema (frame_item h s f) (frame_item h t f)
frame_same h s t (message m rest) k = header_same h s t (header_of m) rest k
frame_same h s t (mark rest) k = tt
frame_same h s t (waiting begun) k = (k, refl)
frame_same h s t broken k = tt

pub item_agree_law : ItemAgreeLaw
unfolding item
item_agree_law h s t bytes k = frame_same h s t (frame bytes) k

-- ---- all of a stream

from_same : (schema : Schema) (f g : Known → List ℕ → Meant) (i j : Item) → ItemSame schema i j
    → ((s t : Known) (rest : List ℕ) → KnowSame schema s t → MeanSame schema (f s rest) (g t rest)) → MeanSame schema (from_item f i) (from_item g j)
from_same schema f g (more c s rest) (more c' t rest') h on =
    subst (λ (o : Option Chunk). MeanSame schema (with_chunks (option_to_list c) (f s rest)) (with_chunks (option_to_list o) (g t rest'))) h.0
    (subst (λ (xs : List ℕ). MeanSame schema (with_chunks (option_to_list c) (f s rest)) (with_chunks (option_to_list c) (g t xs))) h.2
    (let behind = on s t rest h.1 in record { chunks = ap (λ cs. option_to_list c ++ cs) behind.chunks; end = behind.end }))
from_same schema f g (done e) (done e') h on = record { chunks = refl; end = h }
from_same schema f g (more c s rest) (done e) h on = absurd h
from_same schema f g (done e) (more c s rest) h on = absurd h

within_same : (h : Head) (k : ℕ) (s t : Known) (bytes : List ℕ) → KnowSame h.schema s t → MeanSame h.schema (meant_within h k s bytes) (meant_within h k t bytes)
unfolding meant_within
within_same h zero s t bytes know = record { chunks = refl; end = tt }
within_same h (suc k) s t bytes know =
    from_same h.schema (meant_within h k) (meant_within h k) (item h s bytes) (item h t bytes) (item_agree_law h s t bytes know)
    (λ u v rest same. within_same h k u v rest same)

pub stream_agree_law : StreamAgreeLaw
unfolding meaning
stream_agree_law h s t bytes k = within_same h (suc (length bytes)) s t bytes k

-- ---- files

given_same : {A B : Type 0} (o : Option A) (f g : A → Option B) → ((x : A) → f x ≡ g x) → given o f ≡ given o g
given_same None f g h = refl
given_same (Some x) f g h = h x

pub block_agree_law : BlockAgreeLaw
unfolding chunk_at
block_agree_law m ds es source b projection limit h =
    given_same (placed b) _ _ (λ p. given_same (metadata_at source p) _ _ (λ metadata. given_same (block_header metadata) _ _ (λ x.
    ap (λ o. cond (nat_eq x.tag 3) o None) (record_agree_law m.schema x.extra ds es (body_at m source p) x.table projection limit h))))

given_gain : {A : Type 0} (ds es : Dictionaries) (o : Option A) (f g : A → Option Dictionaries) → ((x : A) → GainSame ds es (f x) (g x)) → GainSame ds es (given o f) (given o g)
given_gain ds es None f g h = no_gain ds es
given_gain ds es (Some x) f g h = h x

either_gain : (ds es : Dictionaries) (b : Bool) (o o' : Option Dictionaries) → GainSame ds es o o' → GainSame ds es (cond b o None) (cond b o' None)
either_gain ds es true o o' h = h
either_gain ds es false o o' h = no_gain ds es

pub dictionary_block_agree_law : DictionaryBlockAgreeLaw
unfolding dictionaries_at
dictionary_block_agree_law m ds es source b h =
    given_gain ds es (placed b) _ _ (λ p. given_gain ds es (metadata_at source p) _ _ (λ metadata. given_gain ds es (block_header metadata) _ _ (λ x.
    either_gain ds es (nat_eq x.tag 2) _ _ (dictionary_agree_law m.schema x.extra ds es (body_at m source p) x.table h))))
