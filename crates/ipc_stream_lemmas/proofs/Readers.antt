-- Readers with the same values under each id read the same.
use Rattle.std.proofs.Common.{◌≡◌, ℕ, zero, suc, ℤ, ◌+◌, ◌==◌, nat_lt, cond, Bool, true, false, List, [], ◌∷◌, ◌++◌, length, take, drop, Option, None, Some, option_and_then, option_to_list, Result, Ok, Err, refl, sym, ap, ◌∙◌, subst, inl, inr}
use Rattle.std.specs.Ordering.{int_eq}
use Rattle.std.proofs.lemmas.Bool.{cases_Bool}
use Rattle.std.proofs.lemmas.Bool.Decides.{Decides-int_eq}
use Rattle.lower.specs.Normal.{norm}
use Rattle.ipc_devices.specs.declared.fault.TableFault.{TableFault}
use Rattle.ipc_table_views.specs.MessageSlots.{dictionary_batch_id, dictionary_batch_is_delta, dictionary_batch_data}
use Rattle.ipc_table_views.specs.Spot.{Spot}
use Rattle.ipc_model.specs.Kinds.{count}
use Rattle.ipc_model.specs.Batches.{Schema, kinds, Body, chosen, Chunk, record_meaning, Place, places, place_of, values_schema, with_values, values_meaning, batch_meaning, dictionary_meaning, extra_of}
use Rattle.ipc_model.specs.Entries.{Dictionary, Dictionaries, dictionary_at}
use Rattle.ipc_model.specs.Frame.{Frame, message, mark, waiting, broken, frame}
use Rattle.ipc_model.specs.Streams.{Header, header_of, Head, Known, faulty, Item, more, done, whole, with_chunk, with_dictionaries, record_item, most_dictionaries, dictionary_item, body_item, message_item, frame_item, item, Meant, with_chunks, from_item, meant_within, meaning}
use Rattle.ipc_stream_lemmas.specs.Agreement.{KnowAlike, AreAlike, AlikeDictionaryLaw, AreAt, EndAlike, MeanAlike, AlikeStreamLaw, OmittedLaw}
use Rattle.ipc_stream_lemmas.proofs.Agreeing.{agree_chosen, alike_record_law}

-- ---- dictionary messages

both_with : (ds es : Dictionaries) (id : ℤ) (d : Dictionary) → KnowAlike ds es → KnowAlike ((id, d) ∷ ds) ((id, d) ∷ es)
both_with ds es id d a = record { each = λ i. ap (λ (o : Option Dictionary). cond (int_eq id i) (Some d) o) (a.each i) }

values_alike : (ds es : Dictionaries) (id : ℤ) (p : Place) (o : Option Chunk) → KnowAlike ds es → AreAlike (option_and_then (with_values ds id p) o) (option_and_then (with_values es id p) o)
values_alike ds es id p None a = tt
values_alike ds es id p (Some []) a = tt
values_alike ds es id p (Some (c ∷ [])) a = both_with ds es id (record { type = norm p.type; slots = c.slots }) a
values_alike ds es id p (Some (c ∷ c' ∷ cs)) a = tt

place_alike : (schema : Schema) (extra : ℕ) (ds es : Dictionaries) (body : Body) (id : ℤ) (t : Spot) (o : Option Place) → KnowAlike ds es
    → AreAlike (option_and_then (values_meaning schema extra ds body id t) o) (option_and_then (values_meaning schema extra es body id t) o)
place_alike schema extra ds es body id t None a = tt
place_alike schema extra ds es body id t (Some p) a =
    let inner = values_schema p schema.order in
    let same = alike_record_law inner extra ds es body t None None (agree_chosen (kinds inner) (chosen None (count (kinds inner))) ds es a) in
    subst (λ (o : Option Chunk). AreAlike (option_and_then (with_values ds id p) (record_meaning inner extra ds body t None None)) (option_and_then (with_values es id p) o)) same
    (values_alike ds es id p (record_meaning inner extra ds body t None None) a)

slots_alike : (schema : Schema) (extra : ℕ) (ds es : Dictionaries) (body : Body) (i : Result ℤ TableFault) (b : Result Bool TableFault) (v : Result (Option Spot) TableFault) → KnowAlike ds es
    → AreAlike (batch_meaning schema extra ds body i b v) (batch_meaning schema extra es body i b v)
slots_alike schema extra ds es body (Ok id) (Ok false) (Ok (Some t)) a = place_alike schema extra ds es body id t (place_of (places schema.fields schema.ids) id) a
slots_alike schema extra ds es body (Ok id) (Ok false) (Ok None) a = tt
slots_alike schema extra ds es body (Ok id) (Ok false) (Err z) a = tt
slots_alike schema extra ds es body (Ok id) (Ok true) v a = tt
slots_alike schema extra ds es body (Ok id) (Err z) v a = tt
slots_alike schema extra ds es body (Err z) b v a = tt

pub alike_dictionary_law : AlikeDictionaryLaw
unfolding dictionary_meaning
alike_dictionary_law schema extra ds es body t a = slots_alike schema extra ds es body (dictionary_batch_id t) (dictionary_batch_is_delta t) (dictionary_batch_data t) a

-- ---- what comes first

abbrev ItemAlike : Item → Item → Type 0
ItemAlike (more c s xs) (more d t ys) = (c ≡ d) × AreAt s t × (xs ≡ ys)
ItemAlike (done e) (done f) = EndAlike e f
ItemAlike _ _ = ⊥

item_where : (b : Bool) (x y u v : Item) → ItemAlike x y → ItemAlike u v → ItemAlike (cond b x u) (cond b y v)
item_where true x y u v f g = f
item_where false x y u v f g = g

record_alike : (o : Option Chunk) (s t : Known) (rest : List ℕ) → AreAt s t → ItemAlike (with_chunk o s rest) (with_chunk o t rest)
record_alike None s t rest a = tt
record_alike (Some c) s t rest a = (refl, record { alike = a.alike; count = refl }, refl)

known_alike : (o p : Option Dictionaries) (s t : Known) (rest : List ℕ) → AreAt s t → AreAlike o p → ItemAlike (with_dictionaries o s rest) (with_dictionaries p t rest)
known_alike None None s t rest a e = tt
known_alike None (Some es) s t rest a e = absurd e
known_alike (Some ds) None s t rest a e = absurd e
known_alike (Some ds) (Some es) s t rest a e = (refl, record { alike = e; count = ap (λ (n : ℕ). n + 1) a.count }, refl)

record_front : (h : Head) (s t : Known) (m : Header) (rest : List ℕ) → AreAt s t → ItemAlike (record_item h s m rest) (record_item h t m rest)
record_front h s t m rest a =
    let body = whole (take m.body rest) in
    let same = alike_record_law h.schema (extra_of h.version) s.dictionaries t.dictionaries body m.table None None (agree_chosen (kinds h.schema) (chosen None (count (kinds h.schema))) s.dictionaries t.dictionaries a.alike) in
    subst (λ (o : Option Chunk). ItemAlike (with_chunk (record_meaning h.schema (extra_of h.version) s.dictionaries body m.table None None) s (drop m.body rest)) (with_chunk o t (drop m.body rest))) same
    (record_alike (record_meaning h.schema (extra_of h.version) s.dictionaries body m.table None None) s t (drop m.body rest) a)

dictionary_front : (h : Head) (s t : Known) (m : Header) (rest : List ℕ) → AreAt s t → ItemAlike (dictionary_item h s m rest) (dictionary_item h t m rest)
dictionary_front h s t m rest a =
    let body = whole (take m.body rest) in
    let o = dictionary_meaning h.schema (extra_of h.version) s.dictionaries body m.table in
    let p = dictionary_meaning h.schema (extra_of h.version) t.dictionaries body m.table in
    let x = with_dictionaries o s (drop m.body rest) in
    let y = with_dictionaries p t (drop m.body rest) in
    subst (λ (n : ℕ). ItemAlike (cond (nat_lt s.count most_dictionaries) x (done faulty)) (cond (nat_lt n most_dictionaries) y (done faulty))) a.count
    (item_where (nat_lt s.count most_dictionaries) x y (done faulty) (done faulty)
    (known_alike o p s t (drop m.body rest) a (alike_dictionary_law h.schema (extra_of h.version) s.dictionaries t.dictionaries body m.table a.alike)) tt)

body_front : (h : Head) (s t : Known) (m : Header) (rest : List ℕ) → AreAt s t → ItemAlike (body_item h s m rest) (body_item h t m rest)
unfolding body_item
body_front h s t m rest a =
    item_where (nat_lt (length rest) m.body) (done faulty) (done faulty) _ _ tt
    (item_where (m.tag == 3) (record_item h s m rest) (record_item h t m rest) _ _ (record_front h s t m rest a)
    (item_where (m.tag == 2) (dictionary_item h s m rest) (dictionary_item h t m rest) (done faulty) (done faulty) (dictionary_front h s t m rest a) tt))

header_front : (h : Head) (s t : Known) (o : Option Header) (rest : List ℕ) → AreAt s t → ItemAlike (message_item h s o rest) (message_item h t o rest)
header_front h s t None rest a = tt
header_front h s t (Some m) rest a = body_front h s t m rest a

frame_front : (h : Head) (s t : Known) (f : Frame) → AreAt s t → ItemAlike (frame_item h s f) (frame_item h t f)
frame_front h s t (message m rest) a = header_front h s t (header_of m) rest a
frame_front h s t (mark rest) a = tt
frame_front h s t (waiting bytes) a = (a, refl)
frame_front h s t broken a = tt

item_front : (h : Head) (s t : Known) (bytes : List ℕ) → AreAt s t → ItemAlike (item h s bytes) (item h t bytes)
unfolding item
item_front h s t bytes a = frame_front h s t (frame bytes) a

-- ---- all messages

-- What is read next, whatever comes after it.
ReadAlike : (Known → List ℕ → Meant) → Type 0
ReadAlike f = (s t : Known) (xs : List ℕ) → AreAt s t → MeanAlike (f s xs) (f t xs)

items_alike : (f : Known → List ℕ → Meant) (x y : Item) → ReadAlike f → ItemAlike x y → MeanAlike (from_item f x) (from_item f y)
unfolding ReadAlike
items_alike f (done e) (done g) r a = record { chunks = refl; end = a }
items_alike f (done e) (more c s xs) r a = absurd a
items_alike f (more c s xs) (done e) r a = absurd a
items_alike f (more c s xs) (more d t ys) r a =
    let m = r s t xs a.1 in
    subst (λ (zs : List ℕ). MeanAlike (with_chunks (option_to_list c) (f s xs)) (with_chunks (option_to_list d) (f t zs))) a.2
    (subst (λ (o : Option Chunk). MeanAlike (with_chunks (option_to_list c) (f s xs)) (with_chunks (option_to_list o) (f t xs))) a.0
    (record { chunks = ap (λ (cs : List Chunk). option_to_list c ++ cs) m.chunks; end = m.end }))

within_alike : (h : Head) (k : ℕ) → ReadAlike (meant_within h k)
unfolding ReadAlike meant_within
within_alike h zero s t xs a = record { chunks = refl; end = tt }
within_alike h (suc k) s t xs a = items_alike (meant_within h k) (item h s xs) (item h t xs) (within_alike h k) (item_front h s t xs a)

pub alike_stream_law : AlikeStreamLaw
unfolding ReadAlike meaning
alike_stream_law h s t bytes a = within_alike h (suc (length bytes)) s t bytes a

-- ---- a message that is left out

known_already : (id i : ℤ) (d : Dictionary) (ds : Dictionaries) → dictionary_at ds id ≡ Some d → dictionary_at ((id, d) ∷ ds) i ≡ dictionary_at ds i
known_already id i d ds e =
    elim (cases_Bool (int_eq id i)) [
      | inl same ↦ ap (λ (b : Bool). cond b (Some d) (dictionary_at ds i)) same ∙ sym e ∙ ap (λ (j : ℤ). dictionary_at ds j) ((Decides-int_eq id i).0 same)
      | inr other ↦ ap (λ (b : Bool). cond b (Some d) (dictionary_at ds i)) other
    ]

pub omitted_law : OmittedLaw
omitted_law h s metadata body id d w e = record { each = λ i. known_already id i d s.dictionaries e }
