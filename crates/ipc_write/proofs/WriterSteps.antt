-- Calls of a writer that send, or are refused before anything is sent.
use Rattle.std.proofs.Common.{◌≡◌, ℕ, ◌^◌, ◌<◌, ◌≤◌, ◌⊎◌, inl, inr, Bool, IsTrue, List, [], ◌∷◌, ◌++◌, length, map, Option, None, IfSome, IfErr, Result, Ok, Err, arith, ap, refl}
use Rattle.std.specs.Prelude.{Vec}
use Rattle.std.specs.Int.{next_multiple_of}
use Rattle.std.specs.declared.alloc.Global.{Global}
use Rattle.ipc_base.specs.declared.ipc.IpcField.{IpcField}
use Rattle.ipc_schema_write.specs.DefaultIds.{default_all}
use Rattle.ipc_devices.proofs.Acts.{none_answered}
use Rattle.ipc_devices.specs.Acts.{IsIoOf}
use Rattle.ipc_devices.specs.Device.{Device, IsAnswered, Rises}
use Rattle.ipc_devices.specs.Faults.{OnIo, OnRefused}
use Rattle.ipc_devices.specs.declared.fault.Fault.{Fault}
use Rattle.ipc_devices.specs.declared.fault.Fault.TheVariants.{Argument, Io, Memory as NoMemory, State}
use Rattle.ipc_devices.specs.declared.fault.ArgFault.TheVariants.{TooLarge}
use Rattle.ipc_devices.specs.declared.fault.StateFault.{StateFault}
use Rattle.ipc_model.specs.Streams.{Head}
use Rattle.lower.specs.TypeTrees.{FieldTrees, Pairs}
use Rattle.ipc_base.specs.IdTrees.{IdTrees}
use Rattle.ipc_schema_write.specs.WriterAnswers.{RefusesSchema, max_weight}
use Rattle.lower_arrays.specs.AnyLayouts.{layout_of}
use Rattle.lower_arrays.specs.declared.array.AnyArray.{AnyArray}
use Rattle.ipc_model.specs.Offers.{FilledPlace}
use Rattle.ipc_plan.specs.Sending.{Sends}
use Rattle.ipc_tracker.specs.Listings.{remembering_all}
use Rattle.ipc_tracker.specs.Trackers.{IsSameMemory}
use Rattle.ipc_write.specs.Messages.{messages_bytes}
use Rattle.ipc_write.specs.Sending.{Delivers, FailsOrIsFull, HandsMessages, OnSent, SendsOrRefuses}
use Rattle.ipc_write.specs.Writers.{Kept, LeavesFlushed, LeavesState, MayList, RefusesFinish, RefusesFlush, RefusesStart, RefusesState, SendStep, SendsStep, SendsSchema, StateComesFirst, WriterSeen, chosen_ids, fault_if_failed, fault_unless_new, fault_unless_started}
use Rattle.ipc_write.specs.declared.stream.WriterState.{WriterState}
use Rattle.ipc_write.specs.declared.stream.WriterState.TheVariants.{New, Started, Finished, Failed}
use Rattle.ipc_write.proofs.Deliveries.{delivered}
use Rattle.ipc_write.proofs.Sends.{some_none}

-- What refuses a schema is no error of a device.
pub schema_not_io : (e : Fault) (fs : FieldTrees) (es : Pairs) (is : IdTrees) → RefusesSchema e fs es is → (P : Type 0) → OnIo {X = Unit {0}} (Err e) P
schema_not_io (Io x) fs es is h P = absurd h
schema_not_io _ fs es is h P = tt

pub chosen_none : (o : Option (Vec IpcField Global)) (fs : FieldTrees) → o ≡ None → default_all 0 fs ≡ chosen_ids o fs
chosen_none o fs e = rw e refl

pub refused_start : (s : WriterState) (fs : FieldTrees) (es : Pairs) (is : IdTrees) (e : Fault) → RefusesSchema e fs es is → RefusesStart s fs es is e
refused_start s fs es is NoMemory h = tt
refused_start s fs es is (Argument x) h = h
refused_start s fs es is _ h = absurd h

-- What a state refuses.
pub state_start : (s : WriterState) (fs : FieldTrees) (es : Pairs) (is : IdTrees) (e : Fault) → RefusesState (fault_unless_new s) e → RefusesStart s fs es is e
state_start s fs es is (State x) h = h
state_start s fs es is _ h = absurd h

pub state_finish : (s : WriterState) (e : Fault) → RefusesState (fault_unless_started s) e → RefusesFinish s e
state_finish s (State x) h = h
state_finish s _ h = absurd h

-- A device that failed, in `finish`.
pub io_finish : {W : Type 0} (d : Device W) (s : WriterState) (e : Fault) → IsIoOf d e → RefusesFinish s e
io_finish d s (Io x) h = tt
io_finish d s _ h = absurd h

-- ---- flush

-- A device that failed, in a flush.
pub io_flush : {W : Type 0} (d : Device W) (s : WriterState) (r : Result (Unit {0}) Fault) → IfErr r (IsIoOf d) → IfErr r (RefusesFlush s)
io_flush d s (Ok x) h = tt
io_flush d s (Err (Io x)) h = tt
io_flush d s (Err _) h = absurd h

-- A writer that isn't finished is left by a flush as by another call.
pub leaves_flushed : (r : Result (Unit {0}) Fault) (s s' : WriterState) → (s ≡ Finished → ⊥) → LeavesState r s s' → LeavesFlushed r s s'
leaves_flushed r Finished s' going h = absurd (going refl)
leaves_flushed r New s' going h = h
leaves_flushed r Started s' going h = h
leaves_flushed r Failed s' going h = h

pub not_failed : (s : WriterState) (P : StateFault → Type 0) → (s ≡ Failed → ⊥) → IfSome (fault_if_failed s) P
not_failed Failed P not = absurd (not refl)
not_failed New P not = tt
not_failed Started P not = tt
not_failed Finished P not = tt

-- The message of a schema whose length fits wasn't sent whole.
pub unsent_start : (X : Type 0) {W : Type 0} (d : Device W) (w w' : W) (e : Fault) (bytes : List ℕ) (reason : Type 0) (s : WriterState) (fs : FieldTrees) (es : Pairs) (is : IdTrees)
    → SendsOrRefuses {X = X} d w (Err e) w' bytes reason → (reason → ⊥) → RefusesStart s fs es is e
unsent_start X d w w' (Argument TooLarge) bytes reason s fs es is h never = absurd (never h.1)
unsent_start X d w w' (Io x) bytes reason s fs es is h never = tt
unsent_start X d w w' _ bytes reason s fs es is h never = absurd h.only

-- The metadata of a schema that can be written are short enough for a message.
pub short_padded : (n weight : ℕ) → n ≤ weight → weight ≤ max_weight → 2 ^ 31 ≤ next_multiple_of n 8 → ⊥
short_padded n weight long light large = omega (arith, long, light, large)

pub state_not_io : (own : Option StateFault) (e : Fault) → RefusesState own e → (P : Type 0) → OnIo {X = Unit {0}} (Err e) P
state_not_io own (Io x) h P = absurd h
state_not_io own _ h P = tt

-- A state's own error is returned.
pub state_first : {W : Type 0} (own : Option StateFault) (a b : WriterSeen W) (e : Fault) → RefusesState own e → b ≡ a → StateComesFirst own a (Err e) b
state_first own a b (State x) h same = rw h (refl, same)
state_first own a b _ h same = absurd h

-- A state without an error says nothing of the result.
pub no_state_fault : {W : Type 0} (own : Option StateFault) (a b : WriterSeen W) (r : Result (Unit {0}) Fault) → own ≡ None → StateComesFirst own a r b
no_state_fault own a b r h = rw h tt

on_refused : (T : Type 0) (e : Fault) (P : Type 0) → P → OnRefused {X = T} (Err e) P
on_refused T (Io x) P p = tt
on_refused T _ P p = p

none_sent : (e : Fault) (P : Type 0) → ((Q : Type 0) → OnIo {X = Unit {0}} (Err e) Q) → OnSent (Err e) P
none_sent (Io x) P not_io = not_io P
none_sent _ P not_io = tt

pub on_sent : (r : Result (Unit {0}) Fault) (P : Type 0) → P → OnSent r P
on_sent (Ok x) P p = p
on_sent (Err (Io e)) P p = p
on_sent (Err _) P p = tt

-- A message was refused before it was sent.
pub refused_step : {W : Type 0} (d : Device W) (a b : WriterSeen W) (bytes : List ℕ) (count : ℕ) (e : Fault)
    → Kept a b → b.order ≡ a.order → ((P : Type 0) → OnIo {X = Unit {0}} (Err e) P) → SendStep d a (Err e) b bytes count
refused_step d a b bytes count e kept order not_io = record {
  monotone = rw kept.device (omega arith);
  order = order;
  io = not_io _;
  answered = none_answered {X = Unit {0}} (Err e) (IsAnswered d) (not_io ⊥);
  refused = on_refused (Unit {0}) e _ kept;
  done = tt;
  all_sent = λ k. tt;
  some_sent = λ k. rw kept.device (some_none (d.memory a.device) bytes);
  names = ap d.names kept.device;
}

-- a chunk was refused before anything was sent
pub refused_chunk : {W : Type 0} (d : Device W) (a b : WriterSeen W) (e : Fault) (columns : List AnyArray)
    → Kept a b → b.order ≡ a.order → ((P : Type 0) → OnIo {X = Unit {0}} (Err e) P) → SendsStep d a (Err e) b columns
refused_chunk d a b e columns kept order not_io = record {
  list = [];
  dictionaries = [];
  own = record { metadata = []; body = [] };
  lists = none_sent e _ not_io;
  are = none_sent e _ not_io;
  remembers = tt;
  step = refused_step d a b _ _ e kept order not_io;
}

-- a schema was refused before a message was made
pub refused_schema : {W : Type 0} (d : Device W) (a b : WriterSeen W) (e : Fault) (head : Head)
    → Kept a b → b.order ≡ a.order → ((P : Type 0) → OnIo {X = Unit {0}} (Err e) P) → SendsSchema d a (Err e) b head
refused_schema d a b e head kept order not_io = record {
  metadata = [];
  is = none_sent e _ not_io;
  written = none_sent e _ not_io;
  step = refused_step d a b _ _ e kept order not_io;
}

-- ---- what was sent

-- It is fuller than a device that has no room for the first of its bytes.
fuller : (grows : Bool) (old new room n count : ℕ) → n ≤ count → Rises old new ⊎ (IsTrue grows × (room < n)) → FailsOrIsFull grows old new room count
fuller grows old new room n count h (inl rises) = inl rises
fuller grows old new room n count h (inr full) = inr (full.0, omega (arith, h, full.1))

-- all was sent
pub ok_step : {W X : Type 0} (d : Device W) (a b : WriterSeen W) (x : X) (u : Unit {0}) (bytes : List ℕ) (count : ℕ)
    → Sends {X = X} d bytes a.device (Ok x) b.device → b.order ≡ a.order → SendStep d a (Ok u) b bytes count
ok_step d a b x u bytes count h order = record { monotone = h.monotone; order = order; io = tt; answered = tt; refused = tt; done = h.done; all_sent = h.memory; some_sent = h.part; names = h.names }

-- the device failed on the way
pub failed_step : {W X : Type 0} (d : Device W) (a b : WriterSeen W) (e : Fault) (bytes : List ℕ) (count : ℕ) → length bytes ≤ count
    → Delivers {X = X} d bytes a.device (Err e) b.device → b.state ≡ Failed → b.order ≡ a.order → SendStep d a (Err e) b bytes count
failed_step d a b (Io x) bytes count most h state order = record {
  monotone = h.monotone;
  order = order;
  io = (state, fuller d.grows _ _ _ _ count most h.failed);
  answered = h.only;
  refused = tt;
  done = tt;
  all_sent = λ k. tt;
  some_sent = h.part;
  names = h.names;
}
failed_step d a b _ bytes count most h state order = absurd h.only

-- the message of a schema wasn't sent whole
pub unsent_step : (X : Type 0) {W : Type 0} (d : Device W) (a b : WriterSeen W) (e : Fault) (bytes : List ℕ) (count : ℕ) (reason : Type 0) → length bytes ≤ count
    → SendsOrRefuses {X = X} d a.device (Err e) b.device bytes reason → LeavesState (Err e) a.state b.state → b.order ≡ a.order → b.types ≡ a.types → b.ids ≡ a.ids
    → IsSameMemory a.dictionaries b.dictionaries → SendStep d a (Err e) b bytes count
unsent_step X d a b (Argument TooLarge) bytes count reason most h state order types ids same =
    refused_step d a b bytes count (Argument TooLarge) (record { device = h.0; state = state; types = types; ids = ids; dictionaries = same }) order (λ P. tt)
unsent_step X d a b (Io x) bytes count reason most h state order types ids same =
    failed_step {X = X} d a b (Io x) bytes count most
    (delivered {X = X} d a.device b.device (Err (Io x)) bytes h) state order
unsent_step X d a b _ bytes count reason most h state order types ids same = absurd h.only

-- ---- a chunk

-- it was sent whole, and is remembered
pub chunk_sent : {W : Type 0} (d : Device W) (a b : WriterSeen W) (u : Unit {0}) (columns : List AnyArray) (ids : Option IdTrees) (list : List FilledPlace)
    → MayList a columns ids list → (h : HandsMessages d a.order (map layout_of columns) list a.device (Ok u) b.device)
    → IsSameMemory (remembering_all list a.dictionaries) b.dictionaries → b.order ≡ a.order → SendsStep d a (Ok u) b columns
chunk_sent d a b u columns ids list may h same order = record {
  list = list;
  dictionaries = h.dictionaries;
  own = h.own;
  lists = may.lists;
  are = h.are;
  remembers = same;
  step = ok_step {X = Unit {0}} d a b u u (messages_bytes (h.dictionaries ++ h.own ∷ [])) _ h.sends order;
}

-- the device failed on the way, or it was refused before anything was sent
pub chunk_unsent : {W : Type 0} (d : Device W) (a b : WriterSeen W) (e : Fault) (columns : List AnyArray) (ids : Option IdTrees) (list : List FilledPlace)
    → MayList a columns ids list → (h : HandsMessages d a.order (map layout_of columns) list a.device (Err e) b.device) → LeavesState (Err e) a.state b.state
    → b.types ≡ a.types → b.ids ≡ a.ids → IsSameMemory a.dictionaries b.dictionaries → b.order ≡ a.order → SendsStep d a (Err e) b columns
chunk_unsent d a b (Io x) columns ids list may h state types same_ids same order = record {
  list = list;
  dictionaries = h.dictionaries;
  own = h.own;
  lists = may.lists;
  are = h.are;
  remembers = tt;
  step = failed_step {X = Unit {0}} d a b (Io x) (messages_bytes (h.dictionaries ++ h.own ∷ [])) _ (omega arith)
      (delivered {X = Unit {0}} d a.device b.device (Err (Io x)) (messages_bytes (h.dictionaries ++ h.own ∷ [])) h.sends) state order;
}
chunk_unsent d a b _ columns ids list may h state types same_ids same order =
    refused_chunk d a b _ columns (record { device = h.sends; state = state; types = types; ids = same_ids; dictionaries = same }) order (λ P. tt)
