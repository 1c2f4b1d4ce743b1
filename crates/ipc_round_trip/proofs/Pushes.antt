-- The next chunk of a stream is appended to those that were read.
use Rattle.std.proofs.Common.{◌≡◌, ℕ, ◌≤◌, List, [], ◌∷◌, ◌++◌, Option, None, Some, Ok, Err, Bool, true, false, refl, sym, ap, subst, ◌∙◌, append-nil, append_assoc, arith}
use Rattle.std.proofs.lemmas.List.{map-append}
use Rattle.lower_arrays.specs.declared.array.AnyArray.{AnyArray}
use Rattle.ipc_devices.proofs.Claims.{claims_through}
use Rattle.ipc_devices.specs.Device.{Device, Memory, Rises}
use Rattle.ipc_devices.specs.Gives.{Gives, GivesFails}
use Rattle.ipc_devices.specs.Faults.{OnIo, OwnFault}
use Rattle.ipc_devices.specs.declared.fault.Fault.{Fault}
use Rattle.ipc_devices.specs.declared.fault.Fault.TheVariants as faults
use Rattle.ipc_model.specs.Batches.{Chunk}
use Rattle.ipc_model.specs.Streams.{Known, Meant, faulty, marked, waits, with_chunks}
use Rattle.ipc_readers.proofs.Loops.{same_request}
use Rattle.ipc_readers.proofs.OfMemory.{next_fails, other_answer}
use Rattle.ipc_readers.specs.ChosenStreams.{Request, chosen_meaning}
use Rattle.ipc_readers.specs.Streams.{Knows, NextStep, ahead, request_of, begun_of, is_over}
use Rattle.ipc_readers.specs.declared.read.stream.reader.StreamReader.{StreamReader}
use Rattle.ipc_readers.specs.declared.read.stream.reader.StreamState.{StreamState}
use Rattle.ipc_readers.specs.declared.read.stream.reader.StreamState.TheVariants as states
use Rattle.ipc_round_trip.specs.Reading.{EndsAs, EndsNow, GivesAll, MeansAhead, PushesNext, AheadCause, chunks_seen}

-- What was read and what is ahead is together what it was before.
more_read : (xs : List (List AnyArray)) (chunk : List AnyArray) (m n : Meant) → m ≡ with_chunks (chunks_seen (chunk ∷ [])) n → with_chunks (chunks_seen xs) m ≡ with_chunks (chunks_seen (xs ++ chunk ∷ [])) n
more_read xs chunk m n e = rw (e, map-append, append_assoc) refl

-- A claim of an error that is made for all readers with the same dictionaries.
for_each : (At P : Known → Type 0) (e : Fault) → ((s : Known) → At s → OwnFault e (P s)) → OwnFault e ((s : Known) → At s → P s)
for_each At P faults.Memory h = tt
for_each At P (faults.Io x) h = tt
for_each At P (faults.OutOfSpec x) h = h
for_each At P faults.Ended h = h
for_each At P (faults.NotYetImplemented x) h = h
for_each At P (faults.Schema x) h = h
for_each At P (faults.Argument x) h = h
for_each At P (faults.State x) h = h
for_each At P faults.TooManyDictionaries h = h
for_each At P (faults.Lower x) h = h

pub pushed : {R : Type 0} (gives : Gives R) (d : Device R) → GivesFails gives d.failures → (a b : StreamReader R) (chunk : List AnyArray) (xs ys : List (List AnyArray))
    → NextStep gives d a (Some (Ok (states.Some chunk))) b → ys ≡ xs ++ chunk ∷ [] → PushesNext d a xs (Ok true) b ys
pushed gives d fails a b chunk xs ys step added = record {
  described = step.state.described;
  projected = step.state.projected;
  only = tt;
  failed = tt;
  monotone = (next_fails gives d fails a (Some (Ok (states.Some chunk))) b step).1;
  push = λ k going. (
    step.state.finished going,
    λ m ahead_a.
        let read = (step.exact k going).each ahead_a.known ahead_a.knows in
        let n = chosen_meaning (request_of a) read.0 (ahead d b) in (
          n,
          record {
            known = read.0;
            knows = read.1;
            means = ap (λ (g : Request). chosen_meaning g read.0 (ahead d b)) (same_request a b step.state.described step.state.projected);
          },
          more_read xs chunk m n (sym ahead_a.means ∙ read.2)
              ∙ ap (λ (zs : List (List AnyArray)). with_chunks (chunks_seen zs) n) (sym added),
        ),
  );
}

pub refused_push : {R : Type 0} (gives : Gives R) (d : Device R) → GivesFails gives d.failures → (a b : StreamReader R) (e : Fault) (xs ys : List (List AnyArray))
    → NextStep gives d a (Some (Err e)) b → PushesNext d a xs (Err e) b ys
refused_push gives d fails a b e xs ys step = record {
  described = step.state.described;
  projected = step.state.projected;
  only = step.causes;
  failed = other_answer (Option StreamState) Bool e _ (next_fails gives d fails a (Some (Err e)) b step).0;
  monotone = (next_fails gives d fails a (Some (Err e)) b step).1;
  push = λ k going. claims_through e _ _ (λ refused m ahead_a. sym (ap (λ (x : Meant). x.end) ahead_a.means) ∙ ap (λ (x : Meant). x.end) (refused ahead_a.known ahead_a.knows))
      (for_each (Knows a) (λ s. chosen_meaning (request_of a) s (ahead d a) ≡ record { chunks = []; end = faulty }) e (step.exact k going).each);
}

-- A chunk whose allocation failed.
pub starved_push : {R : Type 0} (gives : Gives R) (d : Device R) → GivesFails gives d.failures → (a b : StreamReader R) (chunk : List AnyArray) (xs ys : List (List AnyArray))
    → NextStep gives d a (Some (Ok (states.Some chunk))) b → PushesNext d a xs (Err faults.Memory) b ys
starved_push gives d fails a b chunk xs ys step = record {
  described = step.state.described;
  projected = step.state.projected;
  only = tt;
  failed = tt;
  monotone = (next_fails gives d fails a (Some (Ok (states.Some chunk))) b step).1;
  push = λ k going. tt;
}

-- no chunk more, since the stream waits
pub waiting_push : {R : Type 0} (gives : Gives R) (d : Device R) → GivesFails gives d.failures → (a b : StreamReader R) (xs : List (List AnyArray))
    → NextStep gives d a (Some (Ok states.Waiting)) b → PushesNext d a xs (Ok false) b xs
waiting_push gives d fails a b xs step = record {
  described = step.state.described;
  projected = step.state.projected;
  only = tt;
  failed = tt;
  monotone = (next_fails gives d fails a (Some (Ok states.Waiting)) b step).1;
  push = λ k going. (
    refl,
    λ m ahead_a.
        let read = (step.exact k going).each ahead_a.known ahead_a.knows in
        let waits_ : m ≡ record { chunks = []; end = waits read.0 (begun_of b) } = sym ahead_a.means ∙ read.2 in
        subst (λ (o : Bool). EndsNow o m) (sym (step.state.finished going)) (subst (λ (x : Meant). EndsNow false x) (sym waits_) (refl, tt)),
  );
}

-- or since it ends
pub finished_push : {R : Type 0} (gives : Gives R) (d : Device R) → GivesFails gives d.failures → (a b : StreamReader R) (xs : List (List AnyArray))
    → NextStep gives d a None b → PushesNext d a xs (Ok false) b xs
finished_push gives d fails a b xs step = record {
  described = step.state.described;
  projected = step.state.projected;
  only = tt;
  failed = tt;
  monotone = (next_fails gives d fails a None b step).1;
  push = λ k going. (
    refl,
    λ m ahead_a.
        let ends_ : m ≡ record { chunks = []; end = marked } = sym ahead_a.means ∙ (step.exact k going).each ahead_a.known ahead_a.knows in
        subst (λ (o : Bool). EndsNow o m) (sym (step.state.finished going)) (subst (λ (x : Meant). EndsNow true x) (sym ends_) (refl, refl)),
  );
}

-- ---- all chunks

-- One more chunk was read: what was read so far, and what is ahead, is still all.
pub goes_on : {R : Type 0} (d : Device R) (first a b : StreamReader R) (xs ys : List (List AnyArray))
    → ((m : Meant) → MeansAhead d first m → (n : Meant) × MeansAhead d a n × (with_chunks (chunks_seen xs) n ≡ m))
    → ((m : Meant) → MeansAhead d a m → (n : Meant) × MeansAhead d b n × (with_chunks (chunks_seen xs) m ≡ with_chunks (chunks_seen ys) n))
    → (m : Meant) → MeansAhead d first m → (n : Meant) × MeansAhead d b n × (with_chunks (chunks_seen ys) n ≡ m)
goes_on d first a b xs ys before next m ahead_first =
    let so_far = before m ahead_first in
    let more = next so_far.0 so_far.1 in
    (more.0, more.1, sym more.2 ∙ so_far.2)

-- No more chunk came: what was read is all.
pub all_read : {R : Type 0} (d : Device R) (first a b : StreamReader R) (xs : List (List AnyArray))
    → ((m : Meant) → MeansAhead d first m → (n : Meant) × MeansAhead d a n × (with_chunks (chunks_seen xs) n ≡ m))
    → ((n : Meant) → MeansAhead d a n → EndsNow (is_over b) n) → GivesAll d first xs b
all_read d first a b xs before over = record {
  chunks = λ m ahead_first.
      let so_far = before m ahead_first in
      let now = over so_far.0 so_far.1 in
      let nil : chunks_seen xs ++ [] ≡ chunks_seen xs = rw append-nil refl in
      sym (ap (λ (x : Meant). x.chunks) so_far.2) ∙ ap (λ (cs : List Chunk). chunks_seen xs ++ cs) now.0 ∙ nil;
  end = λ m ahead_first.
      let so_far = before m ahead_first in
      let now = over so_far.0 so_far.1 in
      subst (λ (x : Meant). EndsAs (is_over b) x.end) so_far.2 now.1;
}

-- An error after the chunks that were read so far is one of all that was ahead.
pub refused_ahead : {R : Type 0} (d : Device R) (first a : StreamReader R) (xs : List (List AnyArray)) (e : Fault)
    → ((m : Meant) → MeansAhead d first m → (n : Meant) × MeansAhead d a n × (with_chunks (chunks_seen xs) n ≡ m))
    → AheadCause d a e → AheadCause d first e
refused_ahead d first a xs e before refused = claims_through e _ _ (λ faulty_ m ahead_first.
    let so_far = before m ahead_first in
    sym (ap (λ (x : Meant). x.end) so_far.2) ∙ faulty_ so_far.0 so_far.1) refused

-- ---- errors of the device

-- An error of a device, after calls that don't lower the count of failures.
pub risen_later : (X Y : Type 0) (e : Fault) (a b c : ℕ) → a ≤ b → OnIo {X = X} (Err e) (Rises b c) → OnIo {X = Y} (Err e) (Rises a c)
risen_later X Y (faults.Io x) a b c le h = omega (arith, le, h)
risen_later X Y _ a b c le h = tt
