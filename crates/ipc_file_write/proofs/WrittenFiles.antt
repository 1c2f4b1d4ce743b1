-- What the calls of a new file writer in memory left, and why the file isn't finished.
use Rattle.std.proofs.Common.{◌≡◌, ℕ, true, List, [], None, Some, Result, Err, refl, sym, ap, ◌∙◌, subst, inl, inr}
use Rattle.std.specs.Prelude.{◌⊎◌, Vec}
use Rattle.std.specs.declared.alloc.Global.{Global}
use Rattle.lower.specs.TypeTrees.{FieldTrees, Pairs}
use Rattle.lower_types.specs.declared.Endianness.{Endianness}
use Rattle.ipc_base.specs.IdTrees.{IdTrees}
use Rattle.ipc_devices.specs.Device.{before}
use Rattle.ipc_devices.specs.Faults.{IsIo}
use Rattle.ipc_devices.specs.declared.fault.ArgFault.{ArgFault}
use Rattle.ipc_devices.specs.declared.fault.ArgFault.TheVariants as args
use Rattle.ipc_devices.specs.declared.fault.Fault.{Fault}
use Rattle.ipc_devices.specs.declared.fault.Fault.TheVariants as faults
use Rattle.ipc_devices.specs.declared.fault.StateFault.{StateFault}
use Rattle.ipc_devices.specs.declared.fault.StateFault.TheVariants as states
use Rattle.ipc_model.specs.WriterStates.{IsRun, Writer, new_writer}
use Rattle.ipc_write.specs.Calls.{ended_as, state_seen}
use Rattle.ipc_write.proofs.Vectors.{is_full}
use Rattle.ipc_write.specs.Vectors.{HasNoRoom, vectors}
use Rattle.ipc_write.specs.Writers.{fault_unless_started}
use Rattle.ipc_write.specs.declared.calls.StreamCall.{StreamCall}
use Rattle.ipc_write.specs.declared.stream.WriterState.{WriterState}
use Rattle.ipc_write.specs.declared.stream.WriterState.TheVariants.{New, Started, Finished, Failed}
use Rattle.ipc_file_write.proofs.CallLists.{AllMove, moves_all, moves_follow, moves_run, vector_before}
use Rattle.ipc_file_write.specs.Calls.{AreMade, vector, writer_seen}
use Rattle.ipc_file_write.specs.FileWriters.{Agrees, FileSeen, HasNothing, IsEnding, IsFileOf, MissesFinish, OrFails, RefusesFinish, SendsEnding, TakesNoPairs, Remains, StateComesFirst, TakesPairs, fault_if_over}
use Rattle.ipc_file_write.specs.WrittenFiles.{Leave, RefusesEnd, RefusesWholeFile, writer_in}

-- ---- the end

-- The state of a writer that refuses to finish for its state.
state_refuses : (s : WriterState) (x : StateFault) → (s ≡ Finished → ⊥) → fault_unless_started s ≡ Some x → ((s ≡ New) × (x ≡ states.NotStarted)) ⊎ ((s ≡ Failed) × (x ≡ states.Failed))
state_refuses New x going e = inl (refl, let same : x ≡ states.NotStarted = cc in same)
state_refuses Started x going e = absurd cc
state_refuses Finished x going e = absurd (going refl)
state_refuses Failed x going e = inr (refl, let same : x ≡ states.Failed = cc in same)

-- Any other error comes only from a started writer.
started_alone : (s : WriterState) (a b : FileSeen (Vec ℕ Global)) (x : ArgFault) → StateComesFirst (fault_unless_started s) a (Err (faults.Argument x)) b → s ≡ Started
started_alone New a b x h = let other = h.0 in absurd cc
started_alone Started a b x h = refl
started_alone Finished a b x h = let other = h.0 in absurd cc
started_alone Failed a b x h = let other = h.0 in absurd cc

module _ (a b : FileSeen (Vec ℕ Global)) (going : a.state ≡ Finished → ⊥) where
  refuses_state : (x : StateFault) → fault_unless_started a.state ≡ Some x → RefusesEnd a (faults.State x)
  refuses_state x e = elim (state_refuses a.state x going e) [
    | inl h ↦ subst (λ (y : StateFault). RefusesEnd a (faults.State y)) (sym h.1) h.0
    | inr h ↦ subst (λ (y : StateFault). RefusesEnd a (faults.State y)) (sym h.1) h.0
  ]

  pub refuses_end : (e : Fault) → StateComesFirst (fault_unless_started a.state) a (Err e) b → OrFails (RefusesFinish a) e → MissesFinish a e → (IsIo e → HasNoRoom a.device (IsEnding a)) → RefusesEnd a e
  refuses_end faults.Memory first only misses full = tt
  refuses_end (faults.Io e) first only misses full = full tt
  refuses_end (faults.State x) first only misses full = refuses_state x only
  refuses_end (faults.Argument args.TooLarge) first only misses full = record { started = started_alone a.state a b args.TooLarge first; many = misses }
  refuses_end _ first only misses full = absurd misses

-- The writer returns an error of its memory.
pub ending_full : (a b : FileSeen (Vec ℕ Global)) (e : Fault) → SendsEnding vectors a (Err e) b → IsIo e → HasNoRoom a.device (IsEnding a)
ending_full a b (faults.Io x) s io = record { bytes = s.bytes; are = s.is; full = is_full _ _ s.step.io.1 }
ending_full a b _ s io = absurd io

-- ---- the calls

-- A new writer whose pairs were set: its memory is empty.
module _ (a b : FileSeen (Vec ℕ Global)) (fs : FieldTrees) (es : Pairs) (is : IdTrees) (order : Endianness) (pairs : Pairs) (of : IsFileOf a fs es is order []) (takes : TakesPairs a b pairs) where
  file_of_pairs : IsFileOf b fs es is order pairs
  file_of_pairs = record {
    fields_are = takes.fields ∙ of.fields_are;
    metadata_are = takes.metadata ∙ of.metadata_are;
    chosen_are = takes.chosen ∙ of.chosen_are;
    order_is = takes.order ∙ of.order_is;
    pairs_are = takes.are;
  }

empty_first : (a b : FileSeen (Vec ℕ Global)) → HasNothing vectors a → a.device.items ≡ [] → Remains vectors a b → Agrees vectors b [] []
empty_first a b nothing empty remains =
    let none : before (vector a.device) ≡ [] = vector_before a.device ∙ empty in
    let first : Agrees vectors a [] [] = subst (λ (xs : List ℕ). Agrees vectors a xs []) none nothing.agrees in
    remains.kept refl true [] [] first

module _ (b w : FileSeen (Vec ℕ Global)) (calls : List StreamCall) (answers : List (Result (Unit {0}) Fault)) (fs : FieldTrees) (es : Pairs) (is : IdTrees) (order : Endianness) (pairs : Pairs)
    (of : IsFileOf b fs es is order pairs) (new : b.state ≡ New) (empty : Agrees vectors b [] []) (made : AreMade vectors b calls answers w) where
  all_move : AllMove vectors b calls answers w
  all_move = moves_all vectors b w calls answers made

  begins : writer_seen b ≡ writer_in order pairs new_writer
  begins =
      let ordered = of.order_is in
      let are = of.pairs_are in
      λ i. record { state = state_seen (new i); order = ordered i; pairs = are i }

  pub left_by : Leave order fs es is pairs calls answers w
  left_by = record {
    first = b;
    new = new;
    file = of;
    empty = empty;
    made = made;
    run = subst (λ (v : Writer). IsRun v (ended_as calls answers) (writer_seen w)) begins (moves_run vectors b w calls answers all_move);
    holds = (moves_follow vectors b w calls answers all_move).followed refl [] [] empty;
  }

-- what `run_calls` left of a new writer
pub left_after : (a b w : FileSeen (Vec ℕ Global)) (calls : List StreamCall) (answers : List (Result (Unit {0}) Fault)) (fs : FieldTrees) (es : Pairs) (is : IdTrees) (order : Endianness) (pairs : Pairs)
    → IsFileOf a fs es is order [] → a.state ≡ New → HasNothing vectors a → a.device.items ≡ [] → TakesPairs a b pairs → Remains vectors a b
    → AreMade vectors b calls answers w → Leave order fs es is pairs calls answers w
left_after a b w calls answers fs es is order pairs of new nothing empty takes remains made =
    left_by b w calls answers fs es is order pairs (file_of_pairs a b fs es is order pairs of takes) (takes.state ∙ new) (empty_first a b nothing empty remains) made

-- ---- why a file is refused

module _ (order : Endianness) (fs : FieldTrees) (es : Pairs) (is : IdTrees) (ps : Pairs) (calls : List StreamCall) where
  -- the pairs
  pub pairs_refused : (a : FileSeen (Vec ℕ Global)) (e : Fault) → a.state ≡ New → a.fields ≡ fs → a.metadata ≡ es → TakesNoPairs a ps e → RefusesWholeFile order fs es is ps calls e
  pairs_refused a (faults.State x) new f m h = let none : fault_if_over a.state ≡ None = ap fault_if_over new in let no : None ≡ Some x = sym none ∙ h in absurd cc
  pairs_refused a (faults.Argument args.TooLarge) new f m h = inl (rw (f, m) at h)
  pairs_refused a (faults.Argument x) new f m h = absurd h
  pairs_refused a _ new f m h = absurd h

  -- the end
  pub end_refused : (answers : List (Result (Unit {0}) Fault)) (w : FileSeen (Vec ℕ Global)) (e : Fault) → Leave order fs es is ps calls answers w → RefusesEnd w e → RefusesWholeFile order fs es is ps calls e
  end_refused answers w faults.Memory left h = tt
  end_refused answers w (faults.Io x) left h = record { answers = answers; last = w; leave = left; holds = h }
  end_refused answers w (faults.Argument args.TooLarge) left h = inr (record { answers = answers; last = w; leave = left; holds = h })
  end_refused answers w (faults.State states.NotStarted) left h = record { answers = answers; last = w; leave = left; holds = h }
  end_refused answers w (faults.State states.Failed) left h = record { answers = answers; last = w; leave = left; holds = h }
  end_refused answers w _ left h = absurd h
