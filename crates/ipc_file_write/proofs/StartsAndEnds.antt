-- A file writer starts, and finishes its file, exactly if it may.
use Rattle.std.proofs.Common.{◌≡◌, ◌⊎◌, ℕ, true, IsTrue, List, [], length, Result, Ok, Err, Option, None, Some, IfSome, refl, sym, ap, subst, inl, inr, append-nil}
use Rattle.std.proofs.lemmas.Grind.{merely}
use Rattle.lower.specs.TypeTrees.{Pairs}
use Rattle.ipc_base.specs.IdTrees.{IdTrees, all_ids_view}
use Rattle.ipc_devices.specs.Device.{Device, before}
use Rattle.ipc_devices.specs.Faults.{IsIo, OnIo}
use Rattle.ipc_devices.specs.declared.fault.ArgFault.TheVariants.{FieldsShape, NotWritable, TooLarge}
use Rattle.ipc_devices.specs.declared.fault.Fault.{Fault}
use Rattle.ipc_devices.specs.declared.fault.Fault.TheVariants.{Argument, Io, Memory, State}
use Rattle.ipc_devices.specs.declared.fault.StateFault.{StateFault}
use Rattle.ipc_devices.specs.declared.fault.StateFault.TheVariants as faults
use Rattle.ipc_model.specs.Writable.{IsWritable}
use Rattle.ipc_stream_lemmas.specs.Remembered.{nothing_remembered}
use Rattle.ipc_write.specs.Sending.{Delivers}
use Rattle.ipc_write.specs.Writers.{RefusesState, fault_unless_new, fault_unless_started}
use Rattle.ipc_write.specs.declared.stream.WriterState.{WriterState}
use Rattle.ipc_write.specs.declared.stream.WriterState.TheVariants.{New, Started, Finished, Failed}
use Rattle.ipc_file_write.specs.Beginnings.{BeginningFails}
use Rattle.ipc_file_write.specs.FileWriters.{Agrees, AnswersFinish, AnswersStart, FileIs, FileSeen, FileStep, HasNothing, IsBeginning, IsEnding, IsSameFile, MayStart, OrFails, RefusesFinish, RefusesStart, Remains, SendsBeginning, SendsEnding, StateComesFirst, TakesNoPairs, fault_if_over}
use Rattle.ipc_file_write.specs.Keeping.{StaysWritable}
use Rattle.ipc_file_write.specs.declared.writer.Starting.{Starting}
use Rattle.ipc_file_write.proofs.Keeping.{started_keeps}

-- ---- the state comes first

pub first_refused : {X W : Type 0} (own : Option StateFault) (a b : FileSeen W) (e : Fault) (r : Result X Fault) → r ≡ Err e → IfSome own (λ f. r ≡ Err (State f)) → b ≡ a → StateComesFirst own a (Err e) b
first_refused None a b e r was h same = tt
first_refused (Some f) a b e r was h same = let is : e ≡ State f = cc in (ap (λ (x : Fault). Err x) is, same)

pub first_passed : {W : Type 0} (a b : FileSeen W) (r : Result (Unit {0}) Fault) → a.state ≡ Started → StateComesFirst (fault_unless_started a.state) a r b
first_passed a b r was = rw was tt

pub first_new : {W : Type 0} (a b : FileSeen W) (r : Result (Unit {0}) Fault) → a.state ≡ New → StateComesFirst (fault_unless_new a.state) a r b
first_new a b r was = rw was tt

pub first_open : {W : Type 0} (a b : FileSeen W) (r : Result (Unit {0}) Fault) → fault_if_over a.state ≡ None → StateComesFirst (fault_if_over a.state) a r b
first_open a b r was = rw was tt

-- The state that an error reports which is checked first.
pub state_fault : {X : Type 0} (s : WriterState) (e : Fault) (r : Result X Fault) → r ≡ Err e → IfSome (fault_unless_started s) (λ f. r ≡ Err (State f)) → (s ≡ Started) ⊎ ((s ≡ Started → ⊥) × (f : StateFault) × (e ≡ State f))
state_fault New e r was h = inr ((λ same. absurd cc), faults.NotStarted, cc)
state_fault Started e r was h = inl refl
state_fault Finished e r was h = inr ((λ same. absurd cc), faults.Finished, cc)
state_fault Failed e r was h = inr ((λ same. absurd cc), faults.Failed, cc)

-- ---- the start

not_new : (s : WriterState) (x : StateFault) → fault_unless_new s ≡ Some x → s ≡ New → ⊥
not_new s x h same = let none = ap fault_unless_new same in absurd cc

pub start_refused : {W : Type 0} (w : FileSeen W) (e : Fault) → RefusesStart w e → AnswersStart w (Err e)
start_refused w (State x) h = (not_new w.state x h, λ t. not_new w.state x h t.new)
start_refused w (Argument FieldsShape) h = (h, λ t. h t.writable.schema.fits)
start_refused w (Argument NotWritable) h = (h.1, λ t. h.1 t.writable.schema)
start_refused w Memory h = (tt, tt)
start_refused w _ h = absurd h

pub start_failed : {W : Type 0} (w : FileSeen W) (e : Fault) → IsIo e → AnswersStart w (Err e)
start_failed w (Io x) h = (tt, tt)
start_failed w _ h = absurd h

-- The device that failed there is that of the writer that is left.
pub begin_fails : {W : Type 0} (d : Device W) (a b : FileSeen W) (e : Fault) → SendsBeginning d a (Err e) b
    → OnIo {X = Unit {0}} (Err e) (BeginningFails d a)
begin_fails d a b (Io x) s = record { bytes = s.bytes; begins = s.is; after = b.device; fails = s.step.io.1 }
begin_fails d a b _ s = tt

pub start_taken : {W : Type 0} (w : FileSeen W) (s : Starting) → MayStart w s → AnswersStart w (Ok tt)
start_taken w s may = record { new = may.was; writable = record { schema = may.writable; light = may.light } }

pub start_keeps : {W : Type 0} (w : FileSeen W) (s : Starting) → MayStart w s → ∥ StaysWritable Started w.fields w.metadata (all_ids_view s.ipc_fields.items) w.pairs ∥₁
start_keeps w s may = merely (record { schema = subst (λ (is : IdTrees). IsWritable w.fields w.metadata is) (sym may.ids) may.writable; light = may.light })

-- ---- errors

-- an error that isn't the device's, or may be
pub or_fails : (P : Fault → Type 0) (e : Fault) → P e → OrFails P e
or_fails P (Io x) h = tt
or_fails P _ h = h

pub io_or_fails : (P : Fault → Type 0) (e : Fault) → IsIo e → OrFails P e
io_or_fails P (Io x) h = tt
io_or_fails P _ h = absurd h

-- a state in which no pairs are set
pub state_no_pairs : {W : Type 0} (w : FileSeen W) (pairs : Pairs) (e : Fault) → RefusesState (fault_if_over w.state) e → TakesNoPairs w pairs e
state_no_pairs w pairs (State x) h = h
state_no_pairs w pairs _ h = absurd h

-- ---- what was sent

-- all bytes
sent_step : {W : Type 0} (d : Device W) (a b : FileSeen W) (bytes : List ℕ) → IsSameFile a b → Delivers {X = Unit {0}} d bytes a.device (Ok tt) b.device → FileStep d a (Ok tt) b bytes
sent_step d a b bytes same h = record { same = same; monotone = h.monotone; io = tt; answered = tt; refused = tt; done = h.done; all_sent = h.memory; some_sent = h.part; names = h.names }

-- the device failed on the way
failed_step : {W : Type 0} (d : Device W) (a b : FileSeen W) (x : _) (bytes : List ℕ) → IsSameFile a b → b.state ≡ Failed → Delivers {X = Unit {0}} d bytes a.device (Err (Io x)) b.device → FileStep d a (Err (Io x)) b bytes
failed_step d a b x bytes same is h = record { same = same; monotone = h.monotone; io = (is, h.failed); answered = h.only; refused = tt; done = tt; all_sent = λ k. tt; some_sent = h.part; names = h.names }

module _ {W : Type 0} (d : Device W) (a b : FileSeen W) (bytes : List ℕ) (same : IsSameFile a b) where
  pub beginning_sent : IsBeginning a bytes → b.place ≡ length bytes → Delivers {X = Unit {0}} d bytes a.device (Ok tt) b.device → SendsBeginning d a (Ok tt) b
  beginning_sent begins place h = record { bytes = bytes; is = begins; place = place; step = sent_step d a b bytes same h }

  pub beginning_broken : (e : Fault) → IsBeginning a bytes → b.state ≡ Failed → Delivers {X = Unit {0}} d bytes a.device (Err e) b.device → SendsBeginning d a (Err e) b
  beginning_broken (Io x) begins is h = record { bytes = bytes; is = begins; place = tt; step = failed_step d a b x bytes same is h }
  beginning_broken _ begins is h = absurd h.only

  pub ending_sent : IsEnding a bytes → Delivers {X = Unit {0}} d bytes a.device (Ok tt) b.device → IsTrue (d.is_flushed b.device) → SendsEnding d a (Ok tt) b
  ending_sent ends h done = record { bytes = bytes; is = ends; step = sent_step d a b bytes same h; flushed = done }

  pub ending_broken : (e : Fault) → IsEnding a bytes → b.state ≡ Failed → Delivers {X = Unit {0}} d bytes a.device (Err e) b.device → SendsEnding d a (Err e) b
  ending_broken (Io x) ends is h = record { bytes = bytes; is = ends; step = failed_step d a b x bytes same is h; flushed = tt }
  ending_broken _ ends is h = absurd h.only

-- ---- new writers

-- A new writer has written nothing.
pub nothing_yet : {W : Type 0} (d : Device W) (w : FileSeen W) → w.state ≡ New → ((id : _) → w.remembers id ≡ nothing_remembered id) → w.dictionaries ≡ [] → w.blocks ≡ [] → w.size ≡ 0 → HasNothing d w
nothing_yet d w is nothing no_dictionaries no_blocks new_file = record {
  agrees = record {
    bytes = [];
    held = sym (append-nil (before (d.memory w.device)));
    file = subst (λ (s : WriterState). FileIs true s w [] []) (sym is) (record { none = refl; no_chunks = refl; nothing = nothing; no_dictionaries = no_dictionaries; no_blocks = no_blocks });
  };
  new_file = new_file;
}

-- Its file comes after the bytes that were on its device.
module _ {W : Type 0} (d : Device W) (given : W) (a b : FileSeen W) where
  pub begins_at : a.device ≡ given → HasNothing d a → Remains d a b → IsTrue d.is_memory → Agrees d b (before (d.memory given)) []
  begins_at is nothing remains k = subst (λ (w : W). Agrees d b (before (d.memory w)) []) is (remains.kept k true (before (d.memory a.device)) [] nothing.agrees)

-- ---- the end

finish_started : {W : Type 0} (w : FileSeen W) (e : Fault) → ∥ StaysWritable w.state w.fields w.metadata w.ids w.pairs ∥₁ → w.state ≡ Started → RefusesFinish w e → AnswersFinish w (Err e)
finish_started w (State x) keeps was h = let none = ap fault_unless_started was in absurd cc
finish_started w (Argument FieldsShape) keeps was h = absurd (started_keeps w.state w.fields w.metadata w.ids w.pairs keeps was (λ k. h k.schema.fits))
finish_started w (Argument NotWritable) keeps was h = absurd (started_keeps w.state w.fields w.metadata w.ids w.pairs keeps was (λ k. h k.schema))
finish_started w (Argument TooLarge) keeps was h =
    let keeps_room = started_keeps w.state w.fields w.metadata w.ids w.pairs keeps was in (λ few. keeps_room (λ k. h k.light few), λ t. keeps_room (λ k. h k.light t.few))
finish_started w Memory keeps was h = (tt, tt)
finish_started w _ keeps was h = absurd h

pub finish_refused : {X W : Type 0} (w : FileSeen W) (e : Fault) (r : Result X Fault) → r ≡ Err e → IfSome (fault_unless_started w.state) (λ f. r ≡ Err (State f)) → ∥ StaysWritable w.state w.fields w.metadata w.ids w.pairs ∥₁
    → RefusesFinish w e → AnswersFinish w (Err e)
finish_refused w e r was first keeps h =
    elim (state_fault w.state e r was first) [
      | inl started ↦ finish_started w e keeps started h
      | inr other ↦ subst (λ (f : Fault). AnswersFinish w (Err f)) (sym other.2) (other.0, λ t. other.0 t.started)
    ]

pub finish_failed : {W : Type 0} (w : FileSeen W) (e : Fault) → IsIo e → AnswersFinish w (Err e)
finish_failed w (Io x) h = (tt, tt)
finish_failed w _ h = absurd h
