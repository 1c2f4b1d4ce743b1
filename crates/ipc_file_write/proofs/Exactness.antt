-- Chunks are written exactly if their file accepts them.
use Rattle.std.proofs.Common.{rules, ◌≡◌, ◌⊎◌, ℕ, ℤ, pos, ◌+◌, ◌^◌, ◌<◌, Bool, true, false, cond, List, [], ◌∷◌, ◌++◌, length, map, Option, None, Some, refl, sym, ap, ap₂, subst, ◌∙◌, inl, inr, arith, length-append}
use Rattle.std.specs.Prelude.{is_some, option_map}
use Rattle.std.specs.Map.{lookup}
use Rattle.std.specs.List.{AllByRecursion}
use Rattle.std.specs.Ordering.{int_eq}
use Rattle.std.proofs.lemmas.Bool.{cases_Bool, true≢false}
use Rattle.std.proofs.lemmas.Bool.Decides.{Decides-int_eq}
use Rattle.std.proofs.lemmas.List.{length-map}
use Rattle.lower.specs.TypeTrees.{TypeTree}
use Rattle.lower_types.specs.declared.Endianness.{Endianness}
use Rattle.lower_arrays.specs.AnyLayouts.{layout_of}
use Rattle.lower_arrays.specs.Layouts.{Layout, Level, len_of, type_of}
use Rattle.lower_arrays.specs.Slots.{Slot, slots}
use Rattle.ipc_base.specs.Chunks.{row_count}
use Rattle.ipc_encode.specs.Encoding.{IsEncoded, levels_of, metadata_length}
use Rattle.ipc_encode.specs.declared.batches.BatchKind.{BatchKind}
use Rattle.ipc_encode.specs.declared.batches.BatchKind.TheVariants.{Record, Dictionary}
use Rattle.ipc_model.specs.Accepted.{AreBlocks, AreKept, Brought, block_end, body_length, written_bodies}
use Rattle.ipc_model.specs.Entries.{Dictionaries, Dictionary as Values, IsSize, dictionary_at}
use Rattle.ipc_model.specs.Offers.{FilledPlace, body_lengths, messages, whole_levels}
use Rattle.ipc_stream_lemmas.specs.Remembered.{KnowsRemembered}
use Rattle.ipc_tracker.specs.Listings.{ListsUnwritten, listed, remembering_all}
use Rattle.ipc_tracker.specs.declared.tracker.DictionaryTracker.{DictionaryTracker}
use Rattle.ipc_tracker.specs.declared.tracker.NewDictionary.{NewDictionary}
use Rattle.ipc_tracker.specs.Places.{Finds}
use Rattle.ipc_tracker.specs.Trackers.{Remembered, dictionary_of, remembered, remembering}
use Rattle.ipc_chunks.proofs.MessageLengths.{one_message}
use Rattle.ipc_chunks.specs.Messages.{AreAllValues, AreMessages, Message}
use Rattle.ipc_file_lemmas.specs.FileBytes.{Sent, all_bytes, block_at, blocks_at, chunk_bytes, sent_bytes}
use Rattle.ipc_file_write.specs.Blocks.{sent}
use Rattle.ipc_file_write.proofs.PlacedMessages.{length-sent}

-- ---- which dictionaries are written

-- there is one list
pub lists_one : (m : Remembered) (ps ws vs : List FilledPlace) → ListsUnwritten m ps ws → ListsUnwritten m ps vs → ws ≡ vs
lists_one m [] ws vs a b = a ∙ sym b
lists_one m (p ∷ ps) ws vs (inl a) (inl b) = lists_one m ps ws vs a.1 b.1
lists_one m (p ∷ ps) ws vs (inl a) (inr b) = absurd (b.0 a.0)
lists_one m (p ∷ ps) ws vs (inr a) (inl b) = absurd (a.0 b.0)
lists_one m (p ∷ ps) ws vs (inr a) (inr b) =
    a.2 ∙ ap (λ (xs : List FilledPlace). p ∷ xs) (lists_one (remembering p.id (dictionary_of p.values) m) ps a.1 b.1 a.3 b.3) ∙ sym b.2

-- ---- how long messages are

abbrev message_length : BatchKind → List Layout → ℕ
message_length kind ls = 8 + metadata_length kind (length (levels_of ls)) (length (body_lengths (levels_of ls))) + body_length (body_lengths (levels_of ls))

message_long : (kind : BatchKind) (order : Endianness) (ls : List Layout) (n : ℕ) (m : Message) → IsEncoded kind order ls n m.metadata m.body → length (sent_bytes (sent m)) ≡ message_length kind ls
message_long kind order ls n m h =
    let nodes : length m.metadata ≡ metadata_length kind (length (levels_of ls)) (length (body_lengths (levels_of ls))) =
    h.metadata_are.long ∙ ap₂ (λ (x y : ℕ). metadata_length kind x y) h.plans.node_count h.plans.buffer_count in
    let whole = length-sent (sent m) in
    let body = h.long in
    omega (arith, nodes, whole, body)

values_long : (order : Endianness) (ps : List FilledPlace) (ds es : List Message) → AreAllValues order ps ds → AreAllValues order ps es → length (all_bytes (map sent ds)) ≡ length (all_bytes (map sent es))
values_long order [] [] [] a b = refl
values_long order [] [] (e ∷ es) a b = absurd b
values_long order [] (d ∷ ds) es a b = absurd a
values_long order (p ∷ ps) [] es a b = absurd a
values_long order (p ∷ ps) (d ∷ ds) [] a b = absurd b
values_long order (p ∷ ps) (d ∷ ds) (e ∷ es) a b =
    let here = message_long (Dictionary p.id) order (p.values ∷ []) (len_of p.values) d a.0 in
    let there = message_long (Dictionary p.id) order (p.values ∷ []) (len_of p.values) e b.0 in
    let rest = values_long order ps ds es a.1 b.1 in
    omega (arith, here, there, rest, length-append (sent_bytes (sent d)) (all_bytes (map sent ds)), length-append (sent_bytes (sent e)) (all_bytes (map sent es)))

-- The messages of a chunk are equally long however they are encoded.
pub chunks_long : (order : Endianness) (columns : List Layout) (list : List FilledPlace) (ds es : List Message) (own other : Message) → AreMessages order columns list ds own → AreMessages order columns list es other
    → length (chunk_bytes (map sent ds) (sent own)) ≡ length (chunk_bytes (map sent es) (sent other))
chunks_long order columns list ds es own other a b =
    let values = values_long order list ds es a.values b.values in
    let here = message_long Record order columns (row_count len_of columns) own a.record_is in
    let there = message_long Record order columns (row_count len_of columns) other b.record_is in
    omega (arith, values, here, there, length-append (all_bytes (map sent ds)) (sent_bytes (sent own)), length-append (all_bytes (map sent es)) (sent_bytes (sent other)))

pub values_count : (order : Endianness) (ps : List FilledPlace) (ds : List Message) → AreAllValues order ps ds → length ds ≡ length ps
values_count order [] [] h = refl
values_count order [] (d ∷ ds) h = absurd h
values_count order (p ∷ ps) [] h = absurd h
values_count order (p ∷ ps) (d ∷ ds) h = let rest = values_count order ps ds h.1 in omega (arith, rest)

pub dictionary_blocks_count : (place : ℕ) (ds : List Message) → length (blocks_at place (map sent ds)) ≡ length ds
dictionary_blocks_count place [] = refl
dictionary_blocks_count place (d ∷ ds) = let rest = dictionary_blocks_count (place + length (sent_bytes (sent d))) ds in omega (arith, rest)

-- a block for each message
pub blocks_count : (place : ℕ) (ds : List Message) (own : Message) → length (blocks_at place (map sent ds ++ sent own ∷ [])) ≡ length ds + 1
blocks_count place [] own = refl
blocks_count place (d ∷ ds) own = let rest = blocks_count (place + length (sent_bytes (sent d))) ds own in omega (arith, rest)

-- ---- where they end

ends_behind : (place : ℕ) (w : Sent) → block_end (block_at place w) ≡ place + length (sent_bytes w)
ends_behind place w = let whole = length-sent w in omega (arith, whole)

-- the last of some blocks ends where the bytes do
pub blocks_end : (place : ℕ) (ws : List Sent) (own : Sent) (bodies : List (List ℕ)) → AreBlocks place (blocks_at place (ws ++ own ∷ [])) bodies → place + length (chunk_bytes ws own) < 2 ^ 63
blocks_end place [] own [] h = absurd h
blocks_end place [] own (b ∷ bodies) h = let at = ends_behind place own in let said = h.3 in omega (arith, at, said)
blocks_end place (w ∷ ws) own [] h = absurd h
blocks_end place (w ∷ ws) own (b ∷ bodies) h =
    let next = place + length (sent_bytes w) in
    let rest : AreBlocks next (blocks_at next (ws ++ own ∷ [])) bodies = subst (λ (k : ℕ). AreBlocks k (blocks_at next (ws ++ own ∷ [])) bodies) (ends_behind place w) h.4 in
    let far = blocks_end next ws own bodies rest in
    omega (arith, far, length-append (sent_bytes w) (all_bytes ws), length-append (all_bytes ws) (sent_bytes own), length-append (sent_bytes w ++ all_bytes ws) (sent_bytes own))

-- ---- the blocks of an accepted chunk

-- the same ids are known
abbrev SomeAgree : Remembered → Dictionaries → Type 0
SomeAgree m known = (id : ℤ) → is_some (dictionary_at known id) ≡ is_some (m id)

abbrev AreOpen : Remembered → List FilledPlace → Type 0
AreOpen m ps = AllByRecursion (λ (p : FilledPlace). (m p.id ≡ None) ⊎ (m p.id ≡ Some (dictionary_of p.values))) ps

abbrev brought : FilledPlace → Brought
brought p = record { id = p.id; values = record { type = type_of p.values; slots = slots p.values } }

int_eq_turned : (a b : ℤ) → int_eq a b ≡ int_eq b a
int_eq_turned a b =
    elim (cases_Bool (int_eq a b)) [
      | inl same ↦ same ∙ sym ((Decides-int_eq b a).1 (sym ((Decides-int_eq a b).0 same)))
      | inr other ↦ elim (cases_Bool (int_eq b a)) [
        | inl same ↦ absurd (true≢false (sym ((Decides-int_eq a b).1 (sym ((Decides-int_eq b a).0 same))) ∙ other))
        | inr apart ↦ other ∙ sym apart
      ]
    ]

-- One more id is known.
agree_more : (m : Remembered) (known : Dictionaries) (p : FilledPlace) → SomeAgree m known → SomeAgree (remembering p.id (dictionary_of p.values) m) ((p.id, (brought p).values) ∷ known)
agree_more m known p agree id =
    elim (cases_Bool (int_eq p.id id)) [
      | inl same ↦ ap (λ (b : Bool). is_some (cond b (Some (brought p).values) (dictionary_at known id))) same ∙ sym (ap (λ (b : Bool). is_some (cond b (Some (dictionary_of p.values)) (m id))) same)
      | inr other ↦ ap (λ (b : Bool). is_some (cond b (Some (brought p).values) (dictionary_at known id))) other ∙ agree id
          ∙ sym (ap (λ (b : Bool). is_some (cond b (Some (dictionary_of p.values)) (m id))) other)
    ]

open_more : (m last : Remembered) (p : FilledPlace) (ps : List FilledPlace) → last p.id ≡ Some (dictionary_of p.values) → Finds last ps → AreOpen m ps → AreOpen (remembering p.id (dictionary_of p.values) m) ps
open_more m last p [] e found open_places = tt
open_more m last p (q ∷ qs) e found open_places = (here, open_more m last p qs e found.1 open_places.1)
  where
    here : (remembering p.id (dictionary_of p.values) m q.id ≡ None) ⊎ (remembering p.id (dictionary_of p.values) m q.id ≡ Some (dictionary_of q.values))
    here =
        elim (cases_Bool (int_eq p.id q.id)) [
          | inl same ↦ inr (ap (λ (b : Bool). cond b (Some (dictionary_of p.values)) (m q.id)) same ∙ sym e ∙ ap last ((Decides-int_eq p.id q.id).0 same) ∙ found.0)
          | inr other ↦ elim open_places.0 [
            | inl none ↦ inl (ap (λ (b : Bool). cond b (Some (dictionary_of p.values)) (m q.id)) other ∙ none)
            | inr some ↦ inr (ap (λ (b : Bool). cond b (Some (dictionary_of p.values)) (m q.id)) other ∙ some)
          ]
        ]

written_known : (known : Dictionaries) (p : Brought) (ps : List Brought) (b : List ℕ) (bodies : List (List ℕ)) → is_some (dictionary_at known p.id) ≡ true
    → written_bodies known (p ∷ ps) (b ∷ bodies) ≡ written_bodies known ps bodies
written_known known p ps b bodies e = ap (λ (t : Bool). cond t (written_bodies known ps bodies) (b ∷ written_bodies ((p.id, p.values) ∷ known) ps bodies)) e

written_new : (known : Dictionaries) (p : Brought) (ps : List Brought) (b : List ℕ) (bodies : List (List ℕ)) → is_some (dictionary_at known p.id) ≡ false
    → written_bodies known (p ∷ ps) (b ∷ bodies) ≡ b ∷ written_bodies ((p.id, p.values) ∷ known) ps bodies
written_new known p ps b bodies e = ap (λ (t : Bool). cond t (written_bodies known ps bodies) (b ∷ written_bodies ((p.id, p.values) ∷ known) ps bodies)) e

is_size : (n : ℕ) → IsSize (pos n)
is_size n = search rules

places_are : (order : Endianness) (columns : List Layout) (rows : ℕ) (own : Message) → IsEncoded Record order columns rows own.metadata own.body → (last m : Remembered) (known : Dictionaries) (ps list : List FilledPlace) (ds : List Message) (place : ℕ)
    → SomeAgree m known → AreOpen m ps → Finds last ps → ListsUnwritten m ps list → AreAllValues order list ds → place + length (chunk_bytes (map sent ds) (sent own)) < 2 ^ 63
    → AreBlocks place (blocks_at place (map sent ds ++ sent own ∷ [])) (written_bodies known (map brought ps) (map body_lengths (messages columns ps)))
places_are order columns rows own is last m known [] list [] place agree open_places found lists values short =
    (refl, is_size (8 + length own.metadata), ap pos is.long, (let at = ends_behind place (sent own) in omega (arith, at, short)), tt)
places_are order columns rows own is last m known [] list (d ∷ ds) place agree open_places found lists values short =
    absurd (subst (λ (xs : List FilledPlace). AreAllValues order xs (d ∷ ds)) lists values)
places_are order columns rows own is last m known (p ∷ ps) list ds place agree open_places found (inl l) values short =
    let e : is_some (dictionary_at known p.id) ≡ true = agree p.id ∙ ap (λ (o : Option Values). is_some o) l.0 in
    subst (λ (bodies : List (List ℕ)). AreBlocks place (blocks_at place (map sent ds ++ sent own ∷ [])) bodies)
    (sym (written_known known (brought p) (map brought ps) (body_lengths (whole_levels p.values)) (map body_lengths (messages columns ps)) e))
    (places_are order columns rows own is last m known ps list ds place agree open_places.1 found.1 l.1 values short)
places_are order columns rows own is last m known (p ∷ ps) list [] place agree open_places found (inr l) values short =
    absurd (subst (λ (xs : List FilledPlace). AreAllValues order xs []) l.2 values)
places_are order columns rows own is last m known (p ∷ ps) list (d ∷ ds) place agree open_places found (inr l) values short =
    let all : AreAllValues order (p ∷ l.1) (d ∷ ds) = subst (λ (xs : List FilledPlace). AreAllValues order xs (d ∷ ds)) l.2 values in
    let none : m p.id ≡ None = elim open_places.0 [ inl none ↦ none | inr some ↦ absurd (l.0 some) ] in
    let e : is_some (dictionary_at known p.id) ≡ false = agree p.id ∙ ap (λ (o : Option Values). is_some o) none in
    let next = place + length (sent_bytes (sent d)) in
    let first = length-append (sent_bytes (sent d)) (all_bytes (map sent ds)) in
    let both = length-append (all_bytes (map sent ds)) (sent_bytes (sent own)) in
    let whole = length-append (sent_bytes (sent d) ++ all_bytes (map sent ds)) (sent_bytes (sent own)) in
    let rest = places_are order columns rows own is last (remembering p.id (dictionary_of p.values) m) ((p.id, (brought p).values) ∷ known) ps l.1 ds next (agree_more m known p agree)
    (open_more m last p ps found.0 found.1 open_places.1) found.1 l.3 all.1 (omega (arith, short, first, both, whole)) in
    let long : length d.body ≡ body_length (body_lengths (whole_levels p.values)) =
    all.0.long ∙ ap (λ (hs : List Level). body_length (body_lengths hs)) (one_message p.values) in
    subst (λ (bodies : List (List ℕ)). AreBlocks place (blocks_at place (map sent (d ∷ ds) ++ sent own ∷ [])) bodies)
    (sym (written_new known (brought p) (map brought ps) (body_lengths (whole_levels p.values)) (map body_lengths (messages columns ps)) e)) (
      refl,
      is_size (8 + length d.metadata),
      ap pos long,
      (let at = ends_behind place (sent d) in omega (arith, at, short, first, both, whole)),
      subst (λ (k : ℕ). AreBlocks k (blocks_at next (map sent ds ++ sent own ∷ [])) (written_bodies ((p.id, (brought p).values) ∷ known) (map brought ps) (map body_lengths (messages columns ps)))) (sym (ends_behind place (sent d))) rest,
    )

abbrev values_with : TypeTree → List Slot → Values
values_with t xs = record { type = t; slots = xs }

-- A dictionary field that is kept is new, or has what is remembered.
kept_open : (o : Option Values) (p : FilledPlace) → AreKept o (brought p).values → (o ≡ None) ⊎ (o ≡ Some (dictionary_of p.values))
kept_open None p h = inl refl
kept_open (Some d) p h = inr (ap Some (ap₂ values_with h.1 h.0))

all_open : (m : Remembered) (ps : List FilledPlace) → AllByRecursion (λ (b : Brought). AreKept (m b.id) b.values) (map brought ps) → AreOpen m ps
all_open m [] h = tt
all_open m (p ∷ ps) h = (kept_open (m p.id) p h.0, all_open m ps h.1)

-- the blocks of the messages of a chunk are those that an accepted chunk adds
pub chunk_places : (order : Endianness) (columns : List Layout) (m : Remembered) (known : Dictionaries) (ps list : List FilledPlace) (ds : List Message) (own : Message) (place : ℕ)
    → KnowsRemembered m known → AllByRecursion (λ (b : Brought). AreKept (m b.id) b.values) (map brought ps) → Finds (remembering_all list m) ps → ListsUnwritten m ps list → AreMessages order columns list ds own
    → place + length (chunk_bytes (map sent ds) (sent own)) < 2 ^ 63
    → AreBlocks place (blocks_at place (map sent ds ++ sent own ∷ [])) (written_bodies known (map brought ps) (map body_lengths (messages columns ps)))
chunk_places order columns m known ps list ds own place agrees kept found lists are short =
    places_are order columns (row_count len_of columns) own are.record_is (remembering_all list m) m known ps list ds place (λ id. ap (λ (o : Option Values). is_some o) (agrees.each id)) (all_open m ps kept) found lists are.values short

-- ---- what is known

-- what is kept of what is remembered, and of what is known
pub kept_known : (m : Remembered) (known : Dictionaries) (bs : List Brought) → KnowsRemembered m known → AllByRecursion (λ (b : Brought). AreKept (m b.id) b.values) bs → AllByRecursion (λ (b : Brought). AreKept (dictionary_at known b.id) b.values) bs
kept_known m known [] agrees h = tt
kept_known m known (b ∷ bs) agrees h = (subst (λ (o : Option Values). AreKept o b.values) (sym (agrees.each b.id)) h.0, kept_known m known bs agrees h.1)

pub kept_remembered : (m : Remembered) (known : Dictionaries) (bs : List Brought) → KnowsRemembered m known → AllByRecursion (λ (b : Brought). AreKept (dictionary_at known b.id) b.values) bs → AllByRecursion (λ (b : Brought). AreKept (m b.id) b.values) bs
kept_remembered m known [] agrees h = tt
kept_remembered m known (b ∷ bs) agrees h = (subst (λ (o : Option Values). AreKept o b.values) (agrees.each b.id) h.0, kept_remembered m known bs agrees h.1)

-- what is remembered of some entries, as a list
abbrev pub known_of : {X : Type 0} → (X → Values) → List (ℤ × X) → Dictionaries
known_of {X = X} f es = map (λ (e : ℤ × X). (e.0, f e.1)) es

known_at : {X : Type 0} (f : X → Values) (es : List (ℤ × X)) (id : ℤ) → dictionary_at (known_of f es) id ≡ option_map f (lookup (int_eq id) es)
known_at f [] id = refl
known_at {X = X} f (e ∷ es) id =
    elim (cases_Bool (int_eq id e.0)) [
      | inl same ↦ ap (λ (b : Bool). cond b (Some (f e.1)) (dictionary_at (known_of f es) id)) (int_eq_turned e.0 id ∙ same)
          ∙ sym (ap (λ (b : Bool). option_map f (cond b (Some e.1) (lookup (int_eq id) es))) same)
      | inr other ↦ ap (λ (b : Bool). cond b (Some (f e.1)) (dictionary_at (known_of f es) id)) (int_eq_turned e.0 id ∙ other) ∙ known_at f es id
          ∙ sym (ap (λ (b : Bool). option_map f (cond b (Some e.1) (lookup (int_eq id) es))) other)
    ]

pub known_agrees : {X : Type 0} (f : X → Values) (es : List (ℤ × X)) → KnowsRemembered (λ id. option_map f (lookup (int_eq id) es)) (known_of f es)
known_agrees f es = record { each = known_at f es }

-- the dictionaries of a tracker
abbrev pub tracker_known : DictionaryTracker → Dictionaries
tracker_known t = known_of (λ values. dictionary_of (layout_of values.value)) t.dictionaries.entries

pub tracker_agrees : (t : DictionaryTracker) → KnowsRemembered (remembered t) (tracker_known t)
tracker_agrees t = known_agrees (λ values. dictionary_of (layout_of values.value)) t.dictionaries.entries

pub count_listed : (ds : List NewDictionary) (n : ℕ) → n ≡ length ds → n ≡ length (map listed ds)
count_listed ds n e = e ∙ sym (length-map ds listed)
