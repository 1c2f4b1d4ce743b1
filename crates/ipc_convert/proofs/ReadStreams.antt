-- A stream that was read to its end, or to where it waits.
use Rattle.std.proofs.Common.{◌≡◌, ℕ, List, [], ◌∷◌, ◌++◌, Option, None, Some, Result, Ok, Err, Bool, true, false, refl, sym, ap, subst, ◌∙◌, append-nil, append_assoc, zero, suc}
use Rattle.ipc_devices.proofs.Claims.{claims_through}
use Rattle.ipc_devices.specs.Faults.{OwnFault}
use Rattle.ipc_devices.specs.Gives.{Stop, going, ended, Follows, Gives, GivesInOrder}
use Rattle.ipc_devices.specs.declared.fault.Fault.{Fault}
use Rattle.lower_arrays.specs.declared.array.AnyArray.{AnyArray}
use Rattle.ipc_model.specs.Batches.{Chunk}
use Rattle.ipc_stream_lemmas.specs.Agreement.{AreAt}
use Rattle.ipc_model.specs.Frame.{frame, mark}
use Rattle.ipc_model.specs.Streams.{End, Known, Meant, faulty, marked, meaning, more, nothing_known, waits, with_chunks}
use Rattle.ipc_model.specs.WholeStreams.{Stream, stream_of}
use Rattle.ipc_read.specs.Chunks.{chunk_seen}
use Rattle.ipc_readers.proofs.ChosenStreams.{chosen_done, chosen_more, whole_law}
use Rattle.ipc_readers.proofs.Loops.{same_request}
use Rattle.ipc_readers.specs.ChosenStreams.{Request, chosen_item, chosen_meaning}
use Rattle.ipc_readers.specs.Metadata.{GivesMetadata, MetadataGave}
use Rattle.ipc_readers.specs.Refusals.{IsStreamFault}
use Rattle.ipc_readers.specs.Streams.{IsUnread, IsWithinMessage, GivesNext, ItemGave, ItemStop, ItemsGave, Knows, NextStep, ReadsItem, ReadsNext, begun_of, device_of, head_of, is_over, known_of, last_found, next_result, projection_of, request_of}
use Rattle.ipc_readers.specs.declared.read.stream.metadata.StreamMetadata.{StreamMetadata}
use Rattle.ipc_readers.specs.declared.read.stream.reader.StreamReader.{StreamReader}
use Rattle.ipc_readers.specs.declared.read.stream.reader.StreamState.{StreamState}
use Rattle.ipc_readers.specs.declared.read.stream.reader.StreamState.TheVariants as states
use Rattle.ipc_round_trip.proofs.Streams.{whole_stream}
use Rattle.ipc_round_trip.specs.Reading.{EndsAs, EndsNow}
use Rattle.ipc_write.specs.Agreement.{WasStarted}
use Rattle.ipc_convert.proofs.Marks.{item_whole, mark_whole, waits_for_next}
use Rattle.ipc_convert.proofs.Own.{own}
use Rattle.ipc_convert.specs.Copies.{CopiesStream, EndsWithMark, TakenToEnd, TakesStream}
use Rattle.ipc_convert.specs.Sources.{GaveChunks, GaveNoMore, NextOfStreamCause, StreamCame, StreamStopped, WaitsForNext, is_end, last_stop, meant_by}
use Rattle.ipc_convert.specs.declared.chunks.Ending.{Ending}
use Rattle.ipc_convert.specs.declared.chunks.Ending.TheVariants.{Over, Waits}
use Rattle.ipc_devices.specs.Device.{Device}

-- ---- what a device gave

pub follows_going : (s : Stop) (ys : List ℕ) → s ≡ going → Follows s ys
follows_going s ys e = subst (λ (x : Stop). Follows x ys) (sym e) tt

follows_end : (s : Stop) → s ≡ ended → Follows s []
follows_end s e = subst (λ (x : Stop). Follows x []) (sym e) refl

front_says : (h : Request) (s : Known) (xs : List ℕ) (r : Result (Option StreamState) Fault) (l : Known) (begun ys : List ℕ) → ReadsItem h s xs (last_found r) l begun ys → ReadsNext h s xs r l begun ys
front_says h s xs (Ok (Some (states.Some chunk))) l begun ys g = (g.0, g.1, chosen_more h s xs (Some (chunk_seen chunk)) g.0 ys g.2)
front_says h s xs (Ok (Some states.Waiting)) l begun ys g = (s, g.0, chosen_done h s xs (waits s begun) g.1)
front_says h s xs (Ok None) l begun ys g = chosen_done h s xs marked g.0
front_says h s xs (Err e) l begun ys g = claims_through e _ _ (λ p. chosen_done h s xs faulty p.0) g

passed_says : (h : Request) (s t : Known) (xs zs : List ℕ) (r : Result (Option StreamState) Fault) (l : Known) (begun ys : List ℕ) → chosen_meaning h s xs ≡ chosen_meaning h t zs → ReadsNext h t zs r l begun ys → ReadsNext h s xs r l begun ys
passed_says h s t xs zs (Ok (Some (states.Some chunk))) l begun ys e g = (g.0, g.1, e ∙ g.2)
passed_says h s t xs zs (Ok (Some states.Waiting)) l begun ys e g = (g.0, g.1, e ∙ g.2)
passed_says h s t xs zs (Ok None) l begun ys e g = e ∙ g
passed_says h s t xs zs (Err x) l begun ys e g = claims_through x _ _ (λ p. e ∙ p) g

-- The bytes that were read before a result: whatever follows them, they mean what the result says.
record GaveNext {S : Type 0} (gives : Gives S) (h : Request) (k : Known) (p : List ℕ) (a : S) (r : Result (Option StreamState) Fault) (l : Known) (q : List ℕ) (b : S) : Type 0 where
  bytes : List ℕ
  stop : Stop
  stops : ItemStop (last_found r) stop
  gave : gives a bytes stop b
  next : (ys : List ℕ) → Follows stop ys → GivesNext h k (p ++ (bytes ++ ys)) r l q (q ++ ys)

module _ {S : Type 0} (gives : Gives S) (law : GivesInOrder gives) (h : Request) (r : Result (Option StreamState) Fault) where
  items_gave : (n : ℕ) (k l : Known) (p q : List ℕ) (a b : S) → ItemsGave gives h n k p a r l q b → GaveNext gives h k p a r l q b
  items_gave zero k l p q a b g =
      let run = g.0.run in
      record {
        bytes = run.bytes;
        stop = g.0.stop;
        stops = g.0.stops;
        gave = run.gave;
        next = λ ys f. record { each = λ s at. front_says h s (p ++ (run.bytes ++ ys)) r l q (q ++ ys) ((run.holds ys f).each s at) };
      }
  items_gave (suc n) k l p q a b g =
      let u = g.0 in
      let v = g.1 in
      let c = g.2 in
      let run = g.3.run in
      let rest = items_gave n u l v q c b g.4 in
      record {
        bytes = run.bytes ++ rest.bytes;
        stop = rest.stop;
        stops = rest.stops;
        gave = law a run.bytes c rest.bytes rest.stop b (subst (λ (y : Stop). gives a run.bytes y c) g.3.stops run.gave) rest.gave;
        next = λ ys f. record {
          each = λ s at.
              let read = (run.holds (rest.bytes ++ ys) (follows_going g.3.stop (rest.bytes ++ ys) g.3.stops)).each s at in
              let more = (rest.next ys f).each read.0 read.1 in
              subst (λ (zs : List ℕ). ReadsNext h s (p ++ zs) r l q (q ++ ys)) (sym (append_assoc run.bytes rest.bytes ys))
              (passed_says h s read.0 (p ++ (run.bytes ++ (rest.bytes ++ ys))) (v ++ (rest.bytes ++ ys)) r l q (q ++ ys)
              (chosen_more h s (p ++ (run.bytes ++ (rest.bytes ++ ys))) None read.0 (v ++ (rest.bytes ++ ys)) read.2) more);
        };
      }

-- ---- after a message, and after the mark

-- After a message there is no partial prefix.
none_begun : (h : Request) (s : Known) (p bytes : List ℕ) (c : Option Chunk) (t : Known) (q : List ℕ) → chosen_item h s (p ++ (bytes ++ [])) ≡ more c t (q ++ []) → IsWithinMessage (p ++ bytes) → q ≡ []
none_begun h s p bytes c t q is within =
    item_whole h s (p ++ bytes) c t q (ap (λ (xs : List ℕ). chosen_item h s (p ++ xs)) (sym (append-nil bytes)) ∙ is ∙ ap (λ (xs : List ℕ). more c t xs) (append-nil q)) within

-- Readers with the same dictionaries.
itself : (k : Known) → AreAt k k
itself k = record { alike = record { each = λ id. refl }; count = refl }

dictionary_whole : {S : Type 0} (gives : Gives S) (h : Request) (r : Result (Option StreamState) Fault) (n : ℕ) (k l : Known) (p q : List ℕ) (a b : S) → (g : ItemsGave gives h (suc n) k p a r l q b) → g.1 ≡ []
dictionary_whole gives h r n k l p q a b g =
    let item = g.3 in
    let read = (item.run.holds [] (follows_going item.stop [] item.stops)).each k (itself k) in
    none_begun h k p item.run.bytes None read.0 g.1 read.2 item.run.within

items_whole : {S : Type 0} (gives : Gives S) (h : Request) (chunk : List AnyArray) (n : ℕ) (k l : Known) (p q : List ℕ) (a b : S) → ItemsGave gives h n k p a (Ok (Some (states.Some chunk))) l q b → q ≡ []
items_whole gives h chunk zero k l p q a b g =
    let item = g.0 in
    let read = (item.run.holds [] (follows_going item.stop [] item.stops)).each k (itself k) in
    none_begun h k p item.run.bytes (Some (chunk_seen chunk)) read.0 q read.2 item.run.within
items_whole gives h chunk (suc n) k l p q a b g = items_whole gives h chunk n g.0 l g.1 q g.2 b g.4

-- The bytes that were read up to the mark. Without a partial prefix before, they are messages
-- without a chunk, and then the mark, with which they end.
record GaveMark {S : Type 0} (gives : Gives S) (h : Request) (k : Known) (p : List ℕ) (a b : S) : Type 0 where
  front : List ℕ
  last : List ℕ
  gave : gives a (front ++ last) going b
  ends : (s : Known) → AreAt s k → chosen_meaning h s (p ++ (front ++ last)) ≡ record { chunks = []; end = marked }
  waiting : p ≡ [] → (s : Known) → AreAt s k → (t : Known) × (chosen_meaning h s (p ++ front) ≡ record { chunks = []; end = waits t [] })
  is_mark : p ≡ [] → frame last ≡ mark []

module _ {S : Type 0} (gives : Gives S) (law : GivesInOrder gives) (h : Request) where
  mark_gave : (k l : Known) (p q : List ℕ) (a b : S) → ItemGave gives h k p a (last_found (Ok None)) l q b → GaveMark gives h k p a b
  mark_gave k l p q a b g =
      let run = g.run in
      let same : run.bytes ++ [] ≡ run.bytes = append-nil run.bytes in
      let holds = run.holds [] (follows_going g.stop [] g.stops) in
      record {
        front = [];
        last = run.bytes;
        gave = subst (λ (y : Stop). gives a run.bytes y b) g.stops run.gave;
        ends = λ s at. ap (λ (xs : List ℕ). chosen_meaning h s (p ++ xs)) (sym same) ∙ chosen_done h s (p ++ (run.bytes ++ [])) marked (holds.each s at).0;
        waiting = λ none s at. (s, ap (λ (xs : List ℕ). chosen_meaning h s (xs ++ [])) none ∙ waits_for_next h s);
        is_mark = λ none.
            let here : frame (p ++ run.bytes) ≡ mark (q ++ []) = ap (λ (xs : List ℕ). frame (p ++ xs)) (sym same) ∙ (holds.each k (itself k)).1 in
            ap (λ (xs : List ℕ). frame (xs ++ run.bytes)) (sym none) ∙ here ∙ ap (λ (xs : List ℕ). mark xs) (mark_whole (p ++ run.bytes) (q ++ []) here run.within);
      }

  items_marked : (n : ℕ) (k l : Known) (p q : List ℕ) (a b : S) → ItemsGave gives h n k p a (Ok None) l q b → GaveMark gives h k p a b
  items_marked zero k l p q a b g = mark_gave k l p q a b g.0
  items_marked (suc n) k l p q a b g =
      let u = g.0 in
      let v = g.1 in
      let c = g.2 in
      let run = g.3.run in
      let rest = items_marked n u l v q c b g.4 in
      let none = dictionary_whole gives h (Ok None) n k l p q a b g in
      let behind = rest.front ++ rest.last in
      let all = law a run.bytes c behind going b (subst (λ (y : Stop). gives a run.bytes y c) g.3.stops run.gave) rest.gave in
      let joined : run.bytes ++ behind ≡ (run.bytes ++ rest.front) ++ rest.last = sym (append_assoc run.bytes rest.front rest.last) in
      record {
        front = run.bytes ++ rest.front;
        last = rest.last;
        gave = subst (λ (xs : List ℕ). gives a xs going b) joined all;
        ends = λ s at.
            let read = (run.holds behind (follows_going g.3.stop behind g.3.stops)).each s at in
            ap (λ (xs : List ℕ). chosen_meaning h s (p ++ xs)) (sym joined)
            ∙ chosen_more h s (p ++ (run.bytes ++ behind)) None read.0 (v ++ behind) read.2 ∙ rest.ends read.0 read.1;
        waiting = λ began s at.
            let read = (run.holds rest.front (follows_going g.3.stop rest.front g.3.stops)).each s at in
            let waits_then = rest.waiting none read.0 read.1 in
            (waits_then.0, chosen_more h s (p ++ (run.bytes ++ rest.front)) None read.0 (v ++ rest.front) read.2 ∙ waits_then.1);
        is_mark = λ began. rest.is_mark none;
      }

step_gave : {R : Type 0} (gives : Gives R) (d : Device R) → GivesInOrder gives → (a b : StreamReader R) (x : Result (Option StreamState) Fault) (r : Option (Result StreamState Fault)) → next_result r ≡ x
    → NextStep gives d a r b → is_over a ≡ false
    → GaveNext gives (request_of a) (known_of a) (begun_of a) (device_of a) x (known_of b) (begun_of b) (device_of b)
step_gave gives d law a b x r is step unfinished =
    let g = step.gave unfinished in
    items_gave gives law (request_of a) x g.passed (known_of a) (known_of b) (begun_of a) (begun_of b) (device_of a) (device_of b)
    (subst (λ (y : Result (Option StreamState) Fault). ItemsGave gives (request_of a) g.passed (known_of a) (begun_of a) (device_of a) y (known_of b) (begun_of b) (device_of b)) is g.items)

-- ---- streams that are over

not_over : (over : Bool) → (over ≡ true → ⊥) → over ≡ false
not_over true h = absurd (h refl)
not_over false h = refl

-- ---- one chunk

same_reader : {R : Type 0} (a b : StreamReader R) (t : Known) (ys : List ℕ) → request_of b ≡ request_of a → chosen_meaning (request_of a) t (begun_of b ++ ys) ≡ meant_by b t ys
same_reader a b t ys asked = ap (λ (h : Request). chosen_meaning h t (begun_of b ++ ys)) (sym asked)

chunk_gave : {R : Type 0} (gives : Gives R) (d : Device R) → GivesInOrder gives → (a b : StreamReader R) (chunk : List AnyArray)
    → NextStep gives d a (Some (Ok (states.Some chunk))) b → is_over a ≡ false → GaveChunks gives a (chunk_seen chunk ∷ []) b
chunk_gave gives d law a b chunk step unfinished =
    let g = step_gave gives d law a b (Ok (Some (states.Some chunk))) (Some (Ok (states.Some chunk))) refl step unfinished in
    let asked = same_request a b step.state.described step.state.projected in
    record {
      unfinished = step.state.finished unfinished;
      asked = asked;
      begun = λ none.
          let all = step.gave unfinished in
          items_whole gives (request_of a) chunk all.passed (known_of a) (known_of b) (begun_of a) (begun_of b) (device_of a) (device_of b) all.items;
      bytes = g.bytes;
      gave = subst (λ (y : Stop). gives (device_of a) g.bytes y (device_of b)) g.stops g.gave;
      rest = λ s ys at.
          let read = (g.next ys (follows_going g.stop ys g.stops)).each s at in
          (read.0, read.1, read.2 ∙ ap (with_chunks (chunk_seen chunk ∷ [])) (same_reader a b read.0 ys asked));
    }

pub one_gave : {R : Type 0} (gives : Gives R) (d : Device R) → GivesInOrder gives → (a b : StreamReader R) (chunk : List AnyArray)
    → NextStep gives d a (Some (Ok (states.Some chunk))) b → StreamCame gives a (chunk_seen chunk ∷ []) b
one_gave gives d law a b chunk step = record {
  over = λ done. let none = (step.state.over done).0 in absurd cc;
  gave = λ unfinished. chunk_gave gives d law a b chunk step unfinished;
}

-- ---- no chunk more

ends_now : (over : Bool) (e : End) (m : Meant) → m ≡ record { chunks = []; end = e } → EndsAs over e → EndsNow over m
ends_now over e m is ends = subst (λ (x : Meant). EndsNow over x) (sym is) (refl, ends)

waits_now : {R : Type 0} (gives : Gives R) (d : Device R) → GivesInOrder gives → (a b : StreamReader R)
    → NextStep gives d a (Some (Ok states.Waiting)) b → is_over a ≡ false → GaveNoMore gives a false b
waits_now gives d law a b step unfinished =
    let g = step_gave gives d law a b (Ok (Some states.Waiting)) (Some (Ok states.Waiting)) refl step unfinished in
    record {
      bytes = g.bytes;
      gave = subst (λ (y : Stop). gives (device_of a) g.bytes y (device_of b)) g.stops g.gave;
      ends = λ s at.
          let read = (g.next [] (follows_end g.stop g.stops)).each s at in
          ends_now false (waits read.0 (begun_of b)) (meant_by a s g.bytes) (ap (meant_by a s) (sym (append-nil g.bytes)) ∙ read.2) tt;
      no_more = λ over none. absurd cc;
    }

pub none_waits : {R : Type 0} (gives : Gives R) (d : Device R) → GivesInOrder gives → (a b : StreamReader R)
    → NextStep gives d a (Some (Ok states.Waiting)) b → StreamStopped gives a Waits b
none_waits gives d law a b step = record {
  over = λ done. let none = (step.state.over done).0 in absurd cc;
  gave = λ unfinished. waits_now gives d law a b step unfinished;
}

over_now : {R : Type 0} (gives : Gives R) (d : Device R) → GivesInOrder gives → (a b : StreamReader R)
    → NextStep gives d a None b → is_over a ≡ false → GaveNoMore gives a true b
over_now gives d law a b step unfinished =
    let all = step.gave unfinished in
    let g = items_marked gives law (request_of a) all.passed (known_of a) (known_of b) (begun_of a) (begun_of b) (device_of a) (device_of b) all.items in
    record {
      bytes = g.front ++ g.last;
      gave = g.gave;
      ends = λ s at. ends_now true marked (meant_by a s (g.front ++ g.last)) (g.ends s at) refl;
      no_more = λ over none. record { front = g.front; last = g.last; parts = refl; is_front = record { each = g.waiting none }; is_mark = g.is_mark none };
    }

pub none_over : {R : Type 0} (gives : Gives R) (d : Device R) → GivesInOrder gives → (a b : StreamReader R) → NextStep gives d a None b → StreamStopped gives a Over b
none_over gives d law a b step = record {
  over = λ done. let still = step.state.over done in (refl, still.2);
  gave = λ unfinished. over_now gives d law a b step unfinished;
}

-- ---- an error

pub one_fault : {R : Type 0} (gives : Gives R) (d : Device R) → GivesInOrder gives → (a b : StreamReader R) (e : Fault)
    → NextStep gives d a (Some (Err e)) b → OwnFault e (NextOfStreamCause gives a e)
one_fault gives d law a b e step = own e (NextOfStreamCause gives a e) (λ it.
    let unfinished : is_over a ≡ false = not_over (is_over a) (λ done. let none = (step.state.over done).0 in absurd cc) in
    let g = step_gave gives d law a b (Err e) (Some (Err e)) refl step unfinished in (
      unfinished,
      record {
        bytes = g.bytes;
        stop = g.stop;
        left = device_of b;
        gave = g.gave;
        kind = it (IsStreamFault (request_of a) e) step.causes;
        means = λ s ys at f. it (meant_by a s (g.bytes ++ ys) ≡ record { chunks = []; end = faulty }) ((g.next ys f).each s at);
      },
    ))

-- ---- all chunks

-- The bytes that were read mean exactly the chunks that were read, and this end.
all_given : {R : Type 0} (gives : Gives R) (a b c : StreamReader R) (cs : List Chunk) (over : Bool) → (one : GaveChunks gives a cs b) → (none : GaveNoMore gives b over c)
    → (s : Known) → Knows a s → ((meant_by a s (one.bytes ++ none.bytes)).chunks ≡ cs) × EndsAs over (meant_by a s (one.bytes ++ none.bytes)).end
all_given gives a b c cs over one none s at =
    let p = one.rest s none.bytes at in
    let now = none.ends p.0 p.1 in (
      ap (λ (x : Meant). x.chunks) p.2 ∙ ap (λ (ds : List Chunk). cs ++ ds) now.0 ∙ append-nil cs,
      subst (λ (x : End). EndsAs over x) (sym (ap (λ (x : Meant). x.end) p.2)) now.1,
    )

-- A new reader reads all columns.
pub new_request : {R : Type 0} (device : R) (m : StreamMetadata) (r : StreamReader R) → IsUnread device m r → projection_of r ≡ None → request_of r ≡ record { head = head_of m; projection = None }
new_request device m r begins all = λ i. record { head = head_of (begins.described i); projection = all i }

-- So the stream is what the device has ahead.
pub new_meant : {R : Type 0} (device : R) (m : StreamMetadata) (r : StreamReader R) (bytes : List ℕ) → IsUnread device m r → projection_of r ≡ None
    → meant_by r nothing_known bytes ≡ meaning (head_of m) nothing_known bytes
new_meant device m r bytes begins all =
    let asked = new_request device m r begins all in
    ap (λ (h : Request). chosen_meaning h nothing_known (begun_of r ++ bytes)) asked
    ∙ ap (λ (xs : List ℕ). chosen_meaning (record { head = head_of m; projection = None }) nothing_known (xs ++ bytes)) begins.begun
    ∙ whole_law (head_of m) nothing_known bytes

-- A stream of the schema of these metadata and of these chunks was read from a device. It ends so,
-- and no byte after its mark was read.
pub record WasRead {R : Type 0} (gives : Gives R) (a b : R) (m : StreamMetadata) (cs : List Chunk) (over : Bool) : Type 0 where
  pub bytes : List ℕ
  pub gave : gives a bytes (last_stop over) b
  pub meant : Meant
  pub read : stream_of bytes ≡ Some (record { head = head_of m; meant = meant })
  pub chunks : meant.chunks ≡ cs
  pub ends : EndsAs over meant.end
  pub no_more : over ≡ true → EndsWithMark (λ front. WasStarted front (head_of m) meant.chunks) bytes

-- Before the mark the stream waits, with the chunks that were read.
waits_before : {R : Type 0} (gives : Gives R) (input device : R) (m : StreamMetadata) (r b : StreamReader R) (cs : List Chunk) (front : MetadataGave gives input (Ok m) device) → IsUnread device m r → projection_of r ≡ None
    → (one : GaveChunks gives r cs b) (before : List ℕ) → WaitsForNext b before → WasStarted (front.run.bytes ++ (one.bytes ++ before)) (head_of m) cs
waits_before gives input device m r b cs front begins whole one before waiting =
    let from = front.run.bytes in
    let behind = one.bytes ++ before in
    let said : GivesMetadata (from ++ behind) (frame (from ++ behind)) (Ok m) behind = front.run.holds behind (follows_going front.stop behind front.stops) in
    let came = one.rest nothing_known before begins.knows in
    let then = waiting.each came.0 came.1 in
    let meant : meaning (head_of m) nothing_known behind ≡ record { chunks = cs; end = waits then.0 [] } =
    sym (new_meant device m r behind begins whole) ∙ came.2 ∙ ap (with_chunks cs) then.1 ∙ ap (λ (ds : List Chunk). record { chunks = ds; end = waits then.0 [] }) (append-nil cs) in
    record {
      known = then.0;
      stream = record {
        stream = whole_stream (from ++ behind) (from ++ behind) behind m refl said
            ∙ ap (λ (x : Meant). Some (record { head = head_of m; meant = x })) meant;
      };
    }

marked_last : {R : Type 0} (gives : Gives R) (input device : R) (m : StreamMetadata) (r b : StreamReader R) (cs ds : List Chunk) (front : MetadataGave gives input (Ok m) device) → IsUnread device m r → projection_of r ≡ None
    → ds ≡ cs → (one : GaveChunks gives r cs b) (bytes : List ℕ) → EndsWithMark (WaitsForNext b) bytes
    → EndsWithMark (λ xs. WasStarted xs (head_of m) ds) (front.run.bytes ++ (one.bytes ++ bytes))
marked_last gives input device m r b cs ds front begins whole same one bytes ends =
    let from = front.run.bytes in
    record {
      front = from ++ (one.bytes ++ ends.front);
      last = ends.last;
      parts =
          ap (λ (xs : List ℕ). from ++ (one.bytes ++ xs)) ends.parts
          ∙ ap (λ (xs : List ℕ). from ++ xs) (sym (append_assoc one.bytes ends.front ends.last))
          ∙ sym (append_assoc from (one.bytes ++ ends.front) ends.last);
      is_front =
          subst (λ (xs : List Chunk). WasStarted (from ++ (one.bytes ++ ends.front)) (head_of m) xs) (sym same)
          (waits_before gives input device m r b cs front begins whole one ends.front ends.is_front);
      is_mark = ends.is_mark;
    }

pub was_read : {R : Type 0} (gives : Gives R) → GivesInOrder gives → (input device : R) (m : StreamMetadata) (r b c : StreamReader R) (cs : List Chunk) (ending : Ending)
    → MetadataGave gives input (Ok m) device → IsUnread device m r → projection_of r ≡ None → StreamCame gives r cs b → StreamStopped gives b ending c
    → WasRead gives input (device_of c) m cs (is_end ending)
was_read {R = R} gives law input device m r b c cs ending front begins whole came stopped =
    let one = came.gave begins.unfinished in
    let none = stopped.gave one.unfinished in
    let from = front.run.bytes in
    let behind = one.bytes ++ none.bytes in
    let said : GivesMetadata (from ++ behind) (frame (from ++ behind)) (Ok m) behind = front.run.holds behind (follows_going front.stop behind front.stops) in
    let read = new_meant device m r behind begins whole in
    let all = all_given gives r b c cs (is_end ending) one none nothing_known begins.knows in
    let first : gives input from going (device_of r) =
    subst (λ (x : R). gives input from going x) (sym begins.reader) (subst (λ (y : Stop). gives input from y device) front.stops front.run.gave) in
    let stop = last_stop (is_end ending) in
    let then = law (device_of r) one.bytes (device_of b) none.bytes stop (device_of c) one.gave none.gave in
    let chunks = sym (ap (λ (x : Meant). x.chunks) read) ∙ all.0 in
    record {
      bytes = from ++ behind;
      gave = law input from (device_of r) behind stop (device_of c) first then;
      meant = meaning (head_of m) nothing_known behind;
      read = whole_stream (from ++ behind) (from ++ behind) behind m refl said;
      chunks = chunks;
      ends = subst (λ (x : Meant). EndsAs (is_end ending) x.end) read all.1;
      no_more = λ over.
          marked_last gives input device m r b cs (meaning (head_of m) nothing_known behind).chunks front begins whole chunks one none.bytes
          (none.no_more over (one.begun begins.begun));
    }

taken_so : (over : Bool) (e : End) (stream : Stream) (bytes : List ℕ) → EndsAs over e → (over ≡ true → EndsWithMark (λ front. WasStarted front stream.head stream.meant.chunks) bytes)
    → TakenToEnd e stream bytes (last_stop over)
taken_so true marked stream bytes h no_more = (no_more refl, refl)
taken_so true (waits known begun) stream bytes h no_more = (let no : waits known begun ≡ marked = h in absurd cc)
taken_so true faulty stream bytes h no_more = (let no : faulty ≡ marked = h in absurd cc)
taken_so false (waits known begun) stream bytes h no_more = refl
taken_so false marked stream bytes h no_more = absurd h
taken_so false faulty stream bytes h no_more = absurd h

-- So the stream was read, whatever has its device afterwards.
pub was_taken : {R : Type 0} (gives : Gives R) (a b c : R) (m : StreamMetadata) (cs : List Chunk) (over : Bool) → c ≡ b → WasRead gives a b m cs over → TakesStream gives a c
was_taken {R = R} gives a b c m cs over same read = record {
  bytes = read.bytes;
  stop = last_stop over;
  gave = subst (λ (x : R). gives a read.bytes (last_stop over) x) (sym same) read.gave;
  stream = record { head = head_of m; meant = read.meant };
  read = read.read;
  whole = taken_so over read.meant.end (record { head = head_of m; meant = read.meant }) read.bytes read.ends read.no_more;
}

-- What was written of the stream was written of what the device gave.
pub was_copied : {R : Type 0} (gives : Gives R) (a b c : R) (m : StreamMetadata) (cs : List Chunk) (over : Bool) (Writes : _ → List Chunk → End → Type 0) → c ≡ b → WasRead gives a b m cs over
    → ((e : End) → EndsAs over e → Writes (head_of m).schema cs e) → CopiesStream gives a c Writes
unfolding was_taken
was_copied gives a b c m cs over Writes same read writes = record {
  takes = was_taken gives a b c m cs over same read;
  written = subst (λ (ds : List Chunk). Writes (head_of m).schema ds read.meant.end) (sym read.chunks) (writes read.meant.end read.ends);
}
