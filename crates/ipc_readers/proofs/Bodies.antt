-- What was read of a message's body is what the message means.
use Rattle.std.proofs.Common.{arith, cond, ◌≡◌, ◌≢◌, ◌⊎◌, ◌==◌, ℕ, ◌+◌, ◌<◌, ◌≤◌, nat_lt, true, false, Bool, List, [], length, take, drop, ◌++◌, subst, Option, None, Some, IsSome, IfSome, IfOk, IfErr, OnOk, Result, Ok, Err, refl, sym, ap, inl, inr, ◌∙◌, length-append, length-take}
use Rattle.std.proofs.lemmas.Bool.{cases_lt, le-ltb, lt-ltb}
use Rattle.std.proofs.lemmas.List.{drop_at, take_at}
use Rattle.lower.specs.TypeTrees.{Pairs, FieldTrees}
use Rattle.lower_types.specs.declared.Endianness.{Endianness}
use Rattle.lower_arrays.specs.declared.array.AnyArray.{AnyArray}
use Rattle.ipc_devices.proofs.Claims.{both_claimed, claims_through}
use Rattle.ipc_base.specs.IdTrees.{IdTrees}
use Rattle.ipc_devices.specs.Faults.{OwnFault}
use Rattle.ipc_devices.specs.declared.fault.Fault.{Fault}
use Rattle.ipc_devices.specs.declared.fault.Fault.TheVariants as Faults
use Rattle.ipc_devices.specs.declared.fault.OutOfSpecKind.TheVariants.{UnexpectedMessageType}
use Rattle.ipc_stream_lemmas.specs.Agreement.{AreAt, KnowAlike}
use Rattle.ipc_table_views.specs.Spot.{Spot}
use Rattle.ipc_table_views.specs.Unions.{header_parts}
use Rattle.ipc_table_views.specs.declared.message.MessageHeaderRef.{MessageHeaderRef}
use Rattle.ipc_table_views.specs.declared.message.MessageHeaderRef.TheVariants as headers
use Rattle.ipc_model.specs.Batches.{Schema, Body, Chunk, chosen, batch, record_meaning, dictionary_meaning, extra_of}
use Rattle.ipc_model.specs.Entries.{Dictionaries}
use Rattle.ipc_model.specs.Kinds.{count}
use Rattle.ipc_model.specs.TypeKinds.{kinds_of}
use Rattle.ipc_model.specs.Streams.{Header, Known, done, faulty, whole, with_chunk, with_dictionaries, most_dictionaries}
use Rattle.ipc_read.proofs.DictionaryMeanings.{any_tells}
use Rattle.ipc_read.specs.DictionaryBatches.{BlamesDictionary, GivesDictionary, TellsValues, TellsOfValues}
use Rattle.ipc_read.specs.Refusals.{IsFaultOfBatch, TellsBatch, TellsColumns}
use Rattle.ipc_read.specs.Chunks.{chunk_seen, GivesBatch}
use Rattle.ipc_readers.specs.ChosenStreams.{Request, chosen_body}
use Rattle.ipc_readers.proofs.Naming.{columns_alike, none_named, values_alike}
use Rattle.ipc_readers.proofs.Knowing.{AlsoGives, alike_then, dictionary_alike, no_dictionary_alike, record_alike, same_values}
use Rattle.ipc_readers.specs.Refusals.{IsStreamFault}
use Rattle.ipc_readers.specs.Streams.{BlamesBody, GivesBody, GivesHeld, HoldsRecord, ReadsBody, RefusesBody, of_dictionary, of_record}
use Rattle.ipc_table_views.specs.declared.schema.MetadataVersion.{MetadataVersion}

-- ---- schemas that differ in their metadata

-- a schema without metadata
abbrev pub bare : FieldTrees → IdTrees → Endianness → Schema
bare fs is o = record { fields = fs; metadata = []; ids = is; order = o }

-- The request of a stream with this schema.
abbrev pub asks : FieldTrees → Pairs → IdTrees → Endianness → MetadataVersion → Option (List ℕ) → Request
asks fs ms is o version p = record { head = record { schema = record { fields = fs; metadata = ms; ids = is; order = o }; version = version }; projection = p }

-- a message with this header
abbrev pub header : ℕ → Spot → ℕ → Header
header tag t n = record { tag = tag; table = t; body = n }

-- the first n bytes of a source
abbrev pub first : List ℕ → ℕ → Body
first bytes n = record { source = bytes; base = 0; size = n }

same_record : (fs : FieldTrees) (ms : Pairs) (is : IdTrees) (o : Endianness) (version : MetadataVersion) (p : Option (List ℕ)) (ds : Dictionaries) (b : Body) (t : Spot)
    → record_meaning (asks fs ms is o version p).head.schema (extra_of version) ds b t p None ≡ record_meaning (bare fs is o) (extra_of version) ds b t p None
unfolding record_meaning batch
same_record fs ms is o version p ds b t = refl

same_dictionary : (fs : FieldTrees) (ms : Pairs) (is : IdTrees) (o : Endianness) (version : MetadataVersion) (p : Option (List ℕ)) (ds : Dictionaries) (b : Body) (t : Spot)
    → dictionary_meaning (asks fs ms is o version p).head.schema (extra_of version) ds b t ≡ dictionary_meaning (bare fs is o) (extra_of version) ds b t
unfolding dictionary_meaning
same_dictionary fs ms is o version p ds b t = refl

-- ---- batches

-- The body is present, and the batch has this meaning.
record_body :
    (h : Request) (s : Known) (t : Spot) (n : ℕ) (xs : List ℕ) (o : Option Chunk) → n ≤ length xs
    → record_meaning h.head.schema (extra_of h.head.version) s.dictionaries (whole (take n xs)) t h.projection None ≡ o
    → chosen_body h s (header 3 t n) xs ≡ with_chunk o s (drop n xs)
unfolding chosen_body
record_body h s t n xs o long e =
    rw (le-ltb (length xs) n long) (ap (λ (c : Option Chunk). with_chunk c s (drop n xs)) e)

dictionary_body :
    (h : Request) (s : Known) (t : Spot) (n : ℕ) (xs : List ℕ) (o : Option Dictionaries) → n ≤ length xs → s.count < most_dictionaries
    → dictionary_meaning h.head.schema (extra_of h.head.version) s.dictionaries (whole (take n xs)) t ≡ o
    → chosen_body h s (header 2 t n) xs ≡ with_dictionaries o s (drop n xs)
unfolding chosen_body
dictionary_body h s t n xs o long few e =
    rw (le-ltb (length xs) n long, lt-ltb s.count most_dictionaries few) (ap (λ (ds : Option Dictionaries). with_dictionaries ds s (drop n xs)) e)

-- the body that was read is that of the model
body_is : (n : ℕ) (xs bytes : List ℕ) → n ≤ length xs → bytes ≡ take n xs → first bytes n ≡ whole (take n xs)
body_is n xs bytes long e =
    let size : n ≡ length (take n xs) = omega (arith, long, length-take n xs) in
    λ i. record { source = e i; base = 0; size = size i }

-- An absent value is None, and one that is present is Some.
none_there : {X : Type 0} (o : Option X) → (IsSome o → ⊥) → o ≡ None
none_there None h = refl
none_there (Some x) h = absurd (h refl)

some_there : (o : Option Dictionaries) (fs : Dictionaries) → IsSome o → IfSome o (λ ds. KnowAlike ds fs) → AlsoGives o fs
some_there None fs s h = absurd cc
some_there (Some ds) fs s h = record { known = ds; some = refl; alike = h }

-- ---- record batches

module _ (fs : FieldTrees) (ms : Pairs) (is : IdTrees) (o : Endianness) (version : MetadataVersion) (p : Option (List ℕ)) (k : Known) (t : Spot) (n : ℕ) (xs bytes : List ℕ)
    (long : n ≤ length xs) (e : bytes ≡ take n xs) (s : Known) (at : AreAt s k) where
  -- What was read of the bytes is what the message means by the same dictionaries.
  record_is : record_meaning (asks fs ms is o version p).head.schema (extra_of version) s.dictionaries (whole (take n xs)) t p None ≡ record_meaning (bare fs is o) (extra_of version) k.dictionaries (first bytes n) t p None
  record_is =
      record_alike (asks fs ms is o version p).head.schema (extra_of version) s.dictionaries k.dictionaries (whole (take n xs)) t p at.alike
      ∙ same_record fs ms is o version p k.dictionaries (whole (take n xs)) t
      ∙ sym (ap (λ (b : Body). record_meaning (bare fs is o) (extra_of version) k.dictionaries b t p None) (body_is n xs bytes long e))

  read_of : dictionary_meaning (asks fs ms is o version p).head.schema (extra_of version) k.dictionaries (whole (take n xs)) t ≡ dictionary_meaning (bare fs is o) (extra_of version) k.dictionaries (first bytes n) t
  read_of =
      same_dictionary fs ms is o version p k.dictionaries (whole (take n xs)) t
      ∙ sym (ap (λ (b : Body). dictionary_meaning (bare fs is o) (extra_of version) k.dictionaries b t) (body_is n xs bytes long e))

  chunk_reads : (chunk : List AnyArray) (l : Known) → l.dictionaries ≡ k.dictionaries → l.count ≡ 0
      → record_meaning (bare fs is o) (extra_of version) k.dictionaries (first bytes n) t p None ≡ Some (chunk_seen chunk)
      → HoldsRecord (asks fs ms is o version p) t n chunk → ReadsBody (asks fs ms is o version p) s (header 3 t n) xs (Ok (Some chunk)) l (drop n xs)
  chunk_reads chunk l same none means holds = (
    record { dictionaries = s.dictionaries; count = 0 },
    record { alike = alike_then s.dictionaries k.dictionaries l.dictionaries at.alike (same_values k.dictionaries l.dictionaries (sym same)); count = sym none },
    record_body (asks fs ms is o version p) s t n xs (Some (chunk_seen chunk)) long (record_is ∙ means),
    holds,
  )

  record_named : (e' : Fault) → TellsColumns true o (extra_of version) k.dictionaries (first bytes n) t e' → TellsColumns true o (extra_of version) s.dictionaries (whole (take n xs)) t e'
  record_named e' h =
      columns_alike true o (extra_of version) s.dictionaries k.dictionaries (whole (take n xs)) at.alike t e'
      (subst (λ (b : Body). TellsColumns true o (extra_of version) k.dictionaries b t e') (body_is n xs bytes long e) h)

  record_blames : (e' : Fault) → TellsBatch (bare fs is o) (extra_of version) t n e' → TellsColumns true o (extra_of version) k.dictionaries (first bytes n) t e' → IsFaultOfBatch (kinds_of fs is) (chosen p (count (kinds_of fs is))) e'
      → BlamesBody (asks fs ms is o version p) s (header 3 t n) xs e'
  record_blames e' told named fault = record {
    record_batch = λ q. inl fault;
    dictionary_batch = λ q. absurd (omega (arith, q));
    other = λ q r. absurd (r refl);
    cut = λ short q. absurd (omega (arith, long, short));
    record_lists = λ q. told;
    dictionary_lists = λ q. absurd (omega (arith, q));
    record_entries = λ q there. record_named e' named;
    dictionary_entries = λ q there. absurd (omega (arith, q));
  }

  record_refused : (e' : Fault) → OwnFault e' (IsFaultOfBatch (kinds_of fs is) (chosen p (count (kinds_of fs is))) e') → TellsBatch (bare fs is o) (extra_of version) t n e'
      → TellsColumns true o (extra_of version) k.dictionaries (first bytes n) t e' → OwnFault e' (record_meaning (bare fs is o) (extra_of version) k.dictionaries (first bytes n) t p None ≡ None) → (l : Known)
      → ReadsBody (asks fs ms is o version p) s (header 3 t n) xs (Err e') l (drop n xs)
  record_refused e' only told named none l =
      both_claimed e' (chosen_body (asks fs ms is o version p) s (header 3 t n) xs ≡ done faulty) (BlamesBody (asks fs ms is o version p) s (header 3 t n) xs e')
      (claims_through e' (record_meaning (bare fs is o) (extra_of version) k.dictionaries (first bytes n) t p None ≡ None) (chosen_body (asks fs ms is o version p) s (header 3 t n) xs ≡ done faulty)
      (λ means. record_body (asks fs ms is o version p) s t n xs None long (record_is ∙ means)) none)
      (claims_through e' (IsFaultOfBatch (kinds_of fs is) (chosen p (count (kinds_of fs is))) e') (BlamesBody (asks fs ms is o version p) s (header 3 t n) xs e')
      (record_blames e' told named) only)

  values_read : (l : Known) → k.count < most_dictionaries → l.count ≡ k.count + 1 → AlsoGives (dictionary_meaning (bare fs is o) (extra_of version) k.dictionaries (first bytes n) t) l.dictionaries
      → ReadsBody (asks fs ms is o version p) s (header 2 t n) xs (Ok None) l (drop n xs)
  values_read l few more_by given =
      let h = asks fs ms is o version p in
      let also : AlsoGives (dictionary_meaning h.head.schema (extra_of version) s.dictionaries (whole (take n xs)) t) l.dictionaries =
      dictionary_alike h.head.schema (extra_of version) s.dictionaries k.dictionaries (whole (take n xs)) t given.known l.dictionaries at.alike (read_of ∙ given.some) given.alike in
      let same : s.count ≡ k.count = at.count in (
        record { dictionaries = also.known; count = s.count + 1 },
        record { alike = also.alike; count = omega (arith, same, more_by) },
        dictionary_body h s t n xs (Some also.known) long (omega (arith, same, few)) also.some,
        tt,
      )

  values_named : (e' : Fault) → TellsOfValues true (bare fs is o) (extra_of version) k.dictionaries (first bytes n) t e'
      → TellsOfValues true (bare fs is o) (extra_of version) s.dictionaries (whole (take n xs)) t e'
  values_named e' h =
      values_alike true (bare fs is o) (extra_of version) s.dictionaries k.dictionaries (whole (take n xs)) at.alike t e'
      (subst (λ (b : Body). TellsOfValues true (bare fs is o) (extra_of version) k.dictionaries b t e') (body_is n xs bytes long e) h)

  values_blame : (e' : Fault) → TellsValues (bare fs is o) (extra_of version) t n e' → TellsOfValues true (bare fs is o) (extra_of version) k.dictionaries (first bytes n) t e' → BlamesDictionary (bare fs is o) t e'
      → BlamesBody (asks fs ms is o version p) s (header 2 t n) xs e'
  values_blame e' told named fault = record {
    record_batch = λ q. absurd (omega (arith, q));
    dictionary_batch = λ q. inl fault;
    other = λ q r. absurd (q refl);
    cut = λ short q. absurd (omega (arith, long, short));
    record_lists = λ q. absurd (omega (arith, q));
    dictionary_lists = λ q. told;
    record_entries = λ q there. absurd (omega (arith, q));
    dictionary_entries = λ q there. values_named e' named;
  }

  values_refused : (e' : Fault) → k.count < most_dictionaries → OwnFault e' (BlamesDictionary (bare fs is o) t e') → TellsValues (bare fs is o) (extra_of version) t n e'
      → TellsOfValues true (bare fs is o) (extra_of version) k.dictionaries (first bytes n) t e' → OwnFault e' (dictionary_meaning (bare fs is o) (extra_of version) k.dictionaries (first bytes n) t ≡ None) → (l : Known)
      → ReadsBody (asks fs ms is o version p) s (header 2 t n) xs (Err e') l (drop n xs)
  values_refused e' few blames told named none l =
      let h = asks fs ms is o version p in
      let same : s.count ≡ k.count = at.count in
      both_claimed e' (chosen_body h s (header 2 t n) xs ≡ done faulty) (BlamesBody h s (header 2 t n) xs e')
      (claims_through e' (dictionary_meaning (bare fs is o) (extra_of version) k.dictionaries (first bytes n) t ≡ None) (chosen_body h s (header 2 t n) xs ≡ done faulty)
      (λ means. dictionary_body h s t n xs None long (omega (arith, same, few))
      (no_dictionary_alike h.head.schema (extra_of version) s.dictionaries k.dictionaries (whole (take n xs)) t at.alike (read_of ∙ means))) none)
      (claims_through e' (BlamesDictionary (bare fs is o) t e') (BlamesBody h s (header 2 t n) xs e') (values_blame e' told named) blames)

-- What the result of a record batch says, if there are bytes after the body.
record_answer : (fs : FieldTrees) (ms : Pairs) (is : IdTrees) (o : Endianness) (version : MetadataVersion) (p : Option (List ℕ)) (k : Known) (t : Spot) (n : ℕ) (xs bytes : List ℕ)
    → n ≤ length xs → bytes ≡ take n xs → (r : Result (List AnyArray) Fault) (l : Known) → OnOk r ((l.dictionaries ≡ k.dictionaries) × (l.count ≡ 0))
    → IfErr r (λ e. OwnFault e (IsFaultOfBatch (kinds_of fs is) (chosen p (count (kinds_of fs is))) e)) → IfErr r (TellsBatch (bare fs is o) (extra_of version) t n)
    → IfErr r (TellsColumns true o (extra_of version) k.dictionaries (first bytes n) t) → IfOk r (HoldsRecord (asks fs ms is o version p) t n) → GivesBatch (bare fs is o) (extra_of version) k.dictionaries (first bytes n) t p None r
    → GivesBody (asks fs ms is o version p) k (header 3 t n) xs (of_record r) l (drop n xs)
record_answer fs ms is o version p k t n xs bytes long e (Ok chunk) l next only told named holds read = record {
  each = λ s at. chunk_reads fs ms is o version p k t n xs bytes long e s at chunk l next.0 next.1 read.1 holds;
}
record_answer fs ms is o version p k t n xs bytes long e (Err e') l next only told named holds read =
    let u : Option Chunk = record_meaning (bare fs is o) (extra_of version) k.dictionaries (first bytes n) t p None in
    record {
      each = λ s at. record_refused fs ms is o version p k t n xs bytes long e s at e' only told named
          (claims_through e' (IsSome u → ⊥) (u ≡ None) (none_there u) read) l;
    }

dictionary_answer : (fs : FieldTrees) (ms : Pairs) (is : IdTrees) (o : Endianness) (version : MetadataVersion) (p : Option (List ℕ)) (k : Known) (t : Spot) (n : ℕ) (xs bytes : List ℕ)
    → n ≤ length xs → bytes ≡ take n xs → (r : Result Unit Fault) (l : Known) → k.count < most_dictionaries → OnOk r (l.count ≡ k.count + 1)
    → IfErr r (λ e. OwnFault e (BlamesDictionary (bare fs is o) t e)) → IfErr r (TellsValues (bare fs is o) (extra_of version) t n)
    → IfErr r (TellsOfValues true (bare fs is o) (extra_of version) k.dictionaries (first bytes n) t) → GivesDictionary (bare fs is o) (extra_of version) k.dictionaries (first bytes n) t r l.dictionaries
    → GivesBody (asks fs ms is o version p) k (header 2 t n) xs (of_dictionary r) l (drop n xs)
dictionary_answer fs ms is o version p k t n xs bytes long e (Ok u) l few next blames told named read = record {
  each = λ s at. values_read fs ms is o version p k t n xs bytes long e s at l few next
      (some_there (dictionary_meaning (bare fs is o) (extra_of version) k.dictionaries (first bytes n) t) l.dictionaries read.0 read.1);
}
dictionary_answer fs ms is o version p k t n xs bytes long e (Err e') l few next blames told named read =
    let u : Option Dictionaries = dictionary_meaning (bare fs is o) (extra_of version) k.dictionaries (first bytes n) t in
    record {
      each = λ s at. values_refused fs ms is o version p k t n xs bytes long e s at e' few blames told named
          (claims_through e' (IsSome u → ⊥) (u ≡ None) (none_there u) read) l;
    }

-- Of these bytes, whatever is ahead of them then.
held : (h : Request) (k : Known) (tag : ℕ) (t : Spot) (body : List ℕ) (r : Result (Option (List AnyArray)) Fault) (l : Known)
    → ((xs : List ℕ) → length body ≤ length xs → body ≡ take (length body) xs → GivesBody h k (header tag t (length body)) xs r l (drop (length body) xs))
    → GivesHeld h k tag t body r l
held h k tag t body r l given = record {
  each = λ ys.
      let long : length body ≤ length (body ++ ys) = omega (arith, length-append body ys) in
      subst (λ (zs : List ℕ). GivesBody h k (header tag t (length body)) (body ++ ys) r l zs) (drop_at body ys (length body) refl)
      (given (body ++ ys) long (sym (take_at body ys (length body) refl)));
}

pub columns_give : (fs : FieldTrees) (ms : Pairs) (is : IdTrees) (o : Endianness) (version : MetadataVersion) (p : Option (List ℕ)) (k : Known) (t : Spot) (body : List ℕ) (r : Result (List AnyArray) Fault) (l : Known)
    → OnOk r ((l.dictionaries ≡ k.dictionaries) × (l.count ≡ 0))
    → IfErr r (λ e. OwnFault e (IsFaultOfBatch (kinds_of fs is) (chosen p (count (kinds_of fs is))) e)) → IfErr r (TellsBatch (bare fs is o) (extra_of version) t (length body))
    → IfErr r (TellsColumns true o (extra_of version) k.dictionaries (first body (length body)) t) → IfOk r (HoldsRecord (asks fs ms is o version p) t (length body)) → GivesBatch (bare fs is o) (extra_of version) k.dictionaries (first body (length body)) t p None r
    → GivesHeld (asks fs ms is o version p) k 3 t body (of_record r) l
columns_give fs ms is o version p k t body r l next only told named holds read =
    held (asks fs ms is o version p) k 3 t body (of_record r) l
    (λ xs long e. record_answer fs ms is o version p k t (length body) xs body long e r l next only told named holds read)

pub values_give : (fs : FieldTrees) (ms : Pairs) (is : IdTrees) (o : Endianness) (version : MetadataVersion) (p : Option (List ℕ)) (k : Known) (t : Spot) (body : List ℕ) (r : Result Unit Fault) (l : Known)
    → k.count < most_dictionaries → OnOk r (l.count ≡ k.count + 1) → IfErr r (λ e. OwnFault e (BlamesDictionary (bare fs is o) t e))
    → IfErr r (TellsValues (bare fs is o) (extra_of version) t (length body))
    → IfErr r (TellsOfValues true (bare fs is o) (extra_of version) k.dictionaries (first body (length body)) t) → GivesDictionary (bare fs is o) (extra_of version) k.dictionaries (first body (length body)) t r l.dictionaries
    → GivesHeld (asks fs ms is o version p) k 2 t body (of_dictionary r) l
values_give fs ms is o version p k t body r l few next blames told named read =
    held (asks fs ms is o version p) k 2 t body (of_dictionary r) l
    (λ xs long e. dictionary_answer fs ms is o version p k t (length body) xs body long e r l few next blames told named read)

-- The errors of a batch are a stream's.
pub batch_faults :
    (fs : FieldTrees) (ms : Pairs) (is : IdTrees) (o : Endianness) (version : MetadataVersion) (p : Option (List ℕ)) (e : Fault)
    → OwnFault e (IsFaultOfBatch (kinds_of fs is) (chosen p (count (kinds_of fs is))) e) → OwnFault e (IsStreamFault (asks fs ms is o version p) e)
batch_faults fs ms is o version p e h =
    claims_through e (IsFaultOfBatch (kinds_of fs is) (chosen p (count (kinds_of fs is))) e) (IsStreamFault (asks fs ms is o version p) e)
    (λ f. inr (inr (inl (inl f)))) h

-- ---- bodies that aren't there, and other messages

short_body : (h : Request) (s : Known) (m : Header) (xs : List ℕ) → length xs < m.body → chosen_body h s m xs ≡ done faulty
unfolding chosen_body
short_body h s m xs short = rw (lt-ltb (length xs) m.body short) refl

outside : (m n : ℕ) → (m ≤ n → ⊥) → n < m
outside m n denied = elim (cases_lt n m) [
  | inl p ↦ p
  | inr p ↦ absurd (denied p)
]

-- An end says nothing of the lists.
record_ended : (schema : Schema) (extra : ℕ) (t : Spot) (size : ℕ) (e : Fault) → e ≡ Faults.Ended → TellsBatch schema extra t size e
record_ended schema extra t size e is = subst (TellsBatch schema extra t size) (sym is) tt

dictionary_ended : (schema : Schema) (extra : ℕ) (t : Spot) (size : ℕ) (e : Fault) → e ≡ Faults.Ended → TellsValues schema extra t size e
dictionary_ended schema extra t size e is = subst (TellsValues schema extra t size) (sym is) (any_tells schema extra t size Faults.Ended (λ v n k. tt))

-- A missing body of a record or a dictionary.
pub cut_body : (h : Request) (s : Known) (m : Header) (xs : List ℕ) (e : Fault) → (m.tag ≡ 3) ⊎ (m.tag ≡ 2) → OwnFault e ((e ≡ Faults.Ended) × (m.body ≤ length xs → ⊥))
    → OwnFault e ((chosen_body h s m xs ≡ done faulty) × BlamesBody h s m xs e)
cut_body h s m xs e kind cut =
    claims_through e ((e ≡ Faults.Ended) × (m.body ≤ length xs → ⊥)) ((chosen_body h s m xs ≡ done faulty) × BlamesBody h s m xs e)
    (λ c. (
      short_body h s m xs (outside m.body (length xs) c.1),
      record {
        record_batch = λ q. inr c.0;
        dictionary_batch = λ q. inr (inl c.0);
        other = λ q r. elim kind [
          | inl three ↦ absurd (r three)
          | inr two ↦ absurd (q two)
        ];
        cut = λ short q. c.0;
        record_lists = λ q. record_ended h.head.schema (extra_of h.head.version) m.table m.body e c.0;
        dictionary_lists = λ q. dictionary_ended h.head.schema (extra_of h.head.version) m.table m.body e c.0;
        record_entries = λ q there. absurd (c.1 there);
        dictionary_entries = λ q there. absurd (c.1 there);
      },
    )) cut

either_way : {X : Type 0} (b : Bool) (x : X) → cond b x x ≡ x
either_way true x = refl
either_way false x = refl

other_tag : (h : Request) (s : Known) (m : Header) (xs : List ℕ) → (m.tag == 3) ≡ false → (m.tag == 2) ≡ false → chosen_body h s m xs ≡ done faulty
unfolding chosen_body
other_tag h s m xs no_record no_dictionary = rw (no_record, no_dictionary) (either_way (nat_lt (length xs) m.body) (done faulty))

no_batch : (h : Request) (s : Known) (m : Header) (xs : List ℕ) → m.tag ≢ 2 → m.tag ≢ 3 → BlamesBody h s m xs (Faults.OutOfSpec UnexpectedMessageType)
no_batch h s m xs no_dictionary no_record = record {
  record_batch = λ q. absurd (no_record q);
  dictionary_batch = λ q. absurd (no_dictionary q);
  other = λ q r. refl;
  cut = λ short q. elim q.kind [
    | inl three ↦ absurd (no_record three)
    | inr two ↦ absurd (no_dictionary two)
  ];
  record_lists = λ q. absurd (no_record q);
  dictionary_lists = λ q. absurd (no_dictionary q);
  record_entries = λ q there. absurd (no_record q);
  dictionary_entries = λ q there. absurd (no_dictionary q);
}

-- a message that is neither a record nor a dictionary
pub other_refused : (h : Request) (k : Known) (x : MessageHeaderRef) → ((t : Spot) → x ≡ headers.DictionaryBatch t → ⊥) → ((t : Spot) → x ≡ headers.RecordBatch t → ⊥)
    → RefusesBody h k (header_parts x).0 (header_parts x).1 (Faults.OutOfSpec UnexpectedMessageType)
other_refused h k (headers.Schema t) no_dictionary no_record = record {
  each = λ n xs. record { each = λ s at. (other_tag h s (header 1 t n) xs refl refl, no_batch h s (header 1 t n) xs (λ q. omega (arith, q)) (λ q. omega (arith, q))) };
}
other_refused h k (headers.DictionaryBatch t) no_dictionary no_record = absurd (no_dictionary t refl)
other_refused h k (headers.RecordBatch t) no_dictionary no_record = absurd (no_record t refl)
other_refused h k (headers.Tensor t) no_dictionary no_record = record {
  each = λ n xs. record { each = λ s at. (other_tag h s (header 4 t n) xs refl refl, no_batch h s (header 4 t n) xs (λ q. omega (arith, q)) (λ q. omega (arith, q))) };
}
other_refused h k (headers.SparseTensor t) no_dictionary no_record = record {
  each = λ n xs. record { each = λ s at. (other_tag h s (header 5 t n) xs refl refl, no_batch h s (header 5 t n) xs (λ q. omega (arith, q)) (λ q. omega (arith, q))) };
}

-- one dictionary too many
full_body : (h : Request) (s : Known) (t : Spot) (n : ℕ) (xs : List ℕ) → most_dictionaries ≤ s.count → chosen_body h s (header 2 t n) xs ≡ done faulty
unfolding chosen_body
full_body h s t n xs full = rw (le-ltb s.count most_dictionaries full) (either_way (nat_lt (length xs) n) (done faulty))

full_refused : (h : Request) (k : Known) (t : Spot) → most_dictionaries ≤ k.count → RefusesBody h k 2 t Faults.TooManyDictionaries
full_refused h k t full = record {
  each = λ n xs. record {
    each = λ s at.
        let same : s.count ≡ k.count = at.count in
        let there : most_dictionaries ≤ s.count = omega (arith, same, full) in (
          full_body h s t n xs there,
          record {
            record_batch = λ q. absurd (omega (arith, q));
            dictionary_batch = λ q. inr (inr (refl, there));
            other = λ q r. absurd (q refl);
            cut = λ short q. let few = q.room refl in absurd (omega (arith, few, there));
            record_lists = λ q. absurd (omega (arith, q));
            dictionary_lists = λ q. any_tells h.head.schema (extra_of h.head.version) t n Faults.TooManyDictionaries (λ v a b. tt);
            record_entries = λ q there. absurd (omega (arith, q));
            dictionary_entries = λ q there. none_named true h.head.schema (extra_of h.head.version) s.dictionaries (whole (take n xs)) t Faults.TooManyDictionaries (λ _. tt);
          },
        );
  };
}

pub full_header : (h : Request) (k : Known) (x : MessageHeaderRef) → (header_parts x).0 ≡ 2 → most_dictionaries ≤ k.count
    → RefusesBody h k (header_parts x).0 (header_parts x).1 Faults.TooManyDictionaries
full_header h k x e full = subst (λ (n : ℕ). RefusesBody h k n (header_parts x).1 Faults.TooManyDictionaries) (sym e) (full_refused h k (header_parts x).1 full)
