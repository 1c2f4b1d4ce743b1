-- What a session leaves that creates a file in memory.
use Rattle.std.proofs.Common.{◌≡◌, ℕ, true, List, [], ◌∷◌, None, Some, Result, Err, refl, sym, ap, ◌∙◌, subst, arith, inl, inr}
use Rattle.std.proofs.lemmas.List.{take_all}
use Rattle.std.specs.Prelude.{◌⊎◌, Vec}
use Rattle.std.specs.declared.alloc.Global.{Global}
use Rattle.lower.specs.TypeTrees.{FieldTrees, Pairs}
use Rattle.lower_types.specs.declared.Endianness.{Endianness}
use Rattle.ipc_base.specs.IdTrees.{IdTrees}
use Rattle.lower_arrays.specs.declared.array.AnyArray.{AnyArray}
use Rattle.ipc_devices.specs.Device.{before}
use Rattle.ipc_devices.specs.Faults.{IsIo}
use Rattle.ipc_devices.specs.declared.fault.ArgFault.TheVariants as args
use Rattle.ipc_devices.specs.declared.fault.Fault.{Fault}
use Rattle.ipc_devices.specs.declared.fault.Fault.TheVariants as faults
use Rattle.ipc_devices.specs.declared.fault.StateFault.TheVariants as states
use Rattle.ipc_model.specs.Batches.{Chunk}
use Rattle.ipc_model.specs.WriterStates.{Outcome, failed_writer, is_broken, is_refused, is_taken, started_writer, state_after}
use Rattle.ipc_model.specs.Writers.{write_call}
use Rattle.ipc_schema_write.specs.WriterAnswers.{written_as}
use Rattle.ipc_write.specs.Calls.{outcome, state_seen}
use Rattle.ipc_write.specs.Meaning.{chunk_written}
use Rattle.ipc_write.proofs.Vectors.{is_full}
use Rattle.ipc_write.specs.Vectors.{HasNoRoom, vectors}
use Rattle.ipc_write.specs.Writers.{fault_unless_started}
use Rattle.ipc_write.specs.declared.stream.WriterState.{WriterState}
use Rattle.ipc_write.specs.declared.stream.WriterState.TheVariants.{New, Started, Finished, Failed}
use Rattle.ipc_file_write.proofs.Elsewhere.{over, whole_over}
use Rattle.ipc_file_write.specs.Calls.{vector}
use Rattle.ipc_file_write.specs.FileWriters.{Agrees, EndsWith, FileSeen, HasNothing, IsBeginning, IsEnding, IsFileOf, IsSameFile, IsWholeFile, MissesFinish, MissesStart, OrFails, RefusesFinish, SendsBeginning, TakesNoPairs, Remains, StartsWith, StateComesFirst, TakesPairs, fault_if_over, head_of_file}
use Rattle.ipc_file_write.specs.WrittenFiles.{RefusesEnd}
use Rattle.ipc_file_write.proofs.FileStates.{at_state}
use Rattle.ipc_file_write.proofs.WrittenFiles.{refuses_end}
use Rattle.ipc_sessions.specs.Sessions.{IsEndedFile}
use Rattle.ipc_sessions.specs.Steps.{AreWritten, IsCreation, CreationCause, TakesChunks}
use Rattle.ipc_sessions.proofs.Ends.{front_before}

-- All bytes of a vector are before its offset.
vector-before : (v : Vec ℕ Global) → before (vector v) ≡ v.items
vector-before v = front_before (vector v) (omega (arith, v.ok)) ∙ take_all v.len v.items (omega (arith, v.ok))

-- A writer that was started with empty memory.
pub begun : (n p a : FileSeen (Vec ℕ Global)) → HasNothing vectors n → n.device.items ≡ [] → Remains vectors n p → Remains vectors p a → Agrees vectors a [] []
begun n p a nothing empty pairs_kept start_kept =
    let none : before (vector n.device) ≡ [] = vector-before n.device ∙ empty in
    let first : Agrees vectors n [] [] = subst (λ (xs : List ℕ). Agrees vectors n xs []) none nothing.agrees in
    start_kept.kept refl true [] [] (pairs_kept.kept refl true [] [] first)

-- ---- a writer that was made, had its pairs set, was started, wrote chunks and finished its file

module _ (n p a b c : FileSeen (Vec ℕ Global)) (v : Vec ℕ Global) (fs : FieldTrees) (es : Pairs) (is : IdTrees) (order : Endianness) (pairs : Pairs) (cs : List Chunk) (file : IsFileOf n fs es is order []) (nothing : HasNothing vectors n)
    (empty : n.device.items ≡ []) (paired : TakesPairs n p pairs) (pairs_kept : Remains vectors n p) (started : IsSameFile p a) (starts : StartsWith p a) (start_kept : Remains vectors p a) (took : TakesChunks vectors a b cs)
    (finished : IsSameFile b c) (ends : EndsWith b c) (end_kept : Remains vectors b c) (handed : v ≡ c.device) where
  created-head : (head_of_file c).schema ≡ written_as order fs es is
  created-head =
      let orders : c.order ≡ order = finished.order ∙ took.same.order ∙ started.order ∙ paired.order ∙ file.order_is in
      let fields : c.fields ≡ fs = finished.fields ∙ took.same.fields ∙ started.fields ∙ paired.fields ∙ file.fields_are in
      let metadata : c.metadata ≡ es = finished.metadata ∙ took.same.metadata ∙ started.metadata ∙ paired.metadata ∙ file.metadata_are in
      let ids : c.ids ≡ is = ends.ids ∙ took.ids ends.was ∙ starts.ids ∙ paired.chosen ∙ file.chosen_are in
      rw (orders, fields, metadata, ids) refl

  pub created : IsEndedFile true v.items (written_as order fs es is) pairs cs
  created =
      let there = end_kept.kept refl true [] cs (took.holds refl true [] [] (begun n p a nothing empty pairs_kept start_kept)) in
      let whole : IsWholeFile true c there.bytes cs = at_state true c.state Finished c there.bytes cs ends.is there.file in
      let held : v.items ≡ there.bytes = sym (vector-before v) ∙ ap (λ (x : Vec ℕ Global). before (vector x)) handed ∙ there.held in
      record {
        writer = over tt c;
        whole = whole_over c tt true v.items cs (subst (λ (xs : List ℕ). IsWholeFile true c xs cs) (sym held) whole);
        schema_is = created-head;
        pairs_are = ends.pairs ∙ took.same.pairs ∙ starts.pairs ∙ paired.are;
      }

-- which calls were made
abbrev pub creation : (n p a b : FileSeen (Vec ℕ Global)) (fs : FieldTrees) (es : Pairs) (is : IdTrees) (order : Endianness) (pairs : Pairs) (chunks : List (List AnyArray)) (answers : List (Result (Unit {0}) Fault)) → IsFileOf n fs es is order []
    → TakesPairs n p pairs → IsSameFile p a → StartsWith p a → Agrees vectors a [] [] → AreWritten vectors a chunks answers b → IsCreation fs es is order pairs chunks answers
creation n p a b fs es is order pairs chunks answers file paired started starts empty writes = record {
  opened = a;
  started = starts.is;
  file = record {
    fields_are = started.fields ∙ paired.fields ∙ file.fields_are;
    metadata_are = started.metadata ∙ paired.metadata ∙ file.metadata_are;
    chosen_are = started.chosen ∙ paired.chosen ∙ file.chosen_are;
    order_is = started.order ∙ paired.order ∙ file.order_is;
    pairs_are = started.pairs ∙ paired.are;
  };
  empty = empty;
  last = b;
  writes = writes;
}

-- ---- why none is created

pub beginning_full : (a b : FileSeen (Vec ℕ Global)) (e : Fault) → SendsBeginning vectors a (Err e) b → IsIo e → HasNoRoom a.device (IsBeginning a)
beginning_full a b (faults.Io x) s io = record { bytes = s.bytes; are = s.is; full = is_full _ _ s.step.io.1 }
beginning_full a b _ s io = absurd io

-- the writes of a session leave its writer started or failed
abbrev IsGoing : WriterState → Type 0
IsGoing s = (s ≡ Started) ⊎ (s ≡ Failed)

is-started : (t : WriterState) → state_seen t ≡ started_writer → t ≡ Started
is-started New e = absurd cc
is-started Started e = refl
is-started Finished e = absurd cc
is-started Failed e = absurd cc

is-failed : (t : WriterState) → state_seen t ≡ failed_writer → t ≡ Failed
is-failed New e = absurd cc
is-failed Started e = absurd cc
is-failed Finished e = absurd cc
is-failed Failed e = refl

going-after : (c : Chunk) (o : Outcome) (s t : WriterState) → state_seen t ≡ state_after (write_call c) o (state_seen s) → IsGoing s → IsGoing t
going-after c is_taken s t e h = inl (is-started t e)
going-after c is_broken s t e h = inr (is-failed t e)
going-after c is_refused s t e h = elim h [
  | inl going ↦ inl (is-started t (e ∙ ap state_seen going))
  | inr failed ↦ inr (is-failed t (e ∙ ap state_seen failed))
]

going-last : (a b : FileSeen (Vec ℕ Global)) (chunks : List (List AnyArray)) (answers : List (Result (Unit {0}) Fault)) → AreWritten vectors a chunks answers b → IsGoing a.state → IsGoing b.state
going-last a b [] [] made h = subst (λ (x : FileSeen (Vec ℕ Global)). IsGoing x.state) (sym made) h
going-last a b [] (r ∷ rs) made h = absurd made
going-last a b (c ∷ cs) [] made h = absurd made
going-last a b (c ∷ cs) (r ∷ rs) made h = going-last made.0 b cs rs made.1.1 (going-after (chunk_written c) (outcome r) a.state made.0.state made.1.0.state h)

not-finished : (s : WriterState) → IsGoing s → s ≡ Finished → ⊥
not-finished s going e = elim going [
  | inl h ↦ let no : Started ≡ Finished = sym h ∙ e in absurd cc
  | inr h ↦ let no : Failed ≡ Finished = sym h ∙ e in absurd cc
]

not-new : (s : WriterState) → IsGoing s → s ≡ New → ⊥
not-new s going e = elim going [
  | inl h ↦ let no : Started ≡ New = sym h ∙ e in absurd cc
  | inr h ↦ let no : Failed ≡ New = sym h ∙ e in absurd cc
]

module _ (fs : FieldTrees) (es : Pairs) (is : IdTrees) (order : Endianness) (ps : Pairs) (chunks : List (List AnyArray)) where
  -- the pairs
  pub pairs_refused : (n : FileSeen (Vec ℕ Global)) (e : Fault) → n.state ≡ New → n.fields ≡ fs → n.metadata ≡ es → TakesNoPairs n ps e → CreationCause fs es is order ps chunks e
  pairs_refused n (faults.State x) new f m h = let none : fault_if_over n.state ≡ None = ap fault_if_over new in let no : None ≡ Some x = sym none ∙ h in absurd cc
  pairs_refused n (faults.Argument args.TooLarge) new f m h = inl (rw (f, m) at h)
  pairs_refused n (faults.Argument x) new f m h = absurd h
  pairs_refused n _ new f m h = absurd h

  -- the beginning
  pub start_refused : (p : FileSeen (Vec ℕ Global)) (e : Fault) → p.state ≡ New → IsFileOf p fs es is order ps → MissesStart p e → (IsIo e → HasNoRoom p.device (IsBeginning p)) → CreationCause fs es is order ps chunks e
  start_refused p faults.Memory new file h full = tt
  start_refused p (faults.Io x) new file h full = inl (record { new = p; file = file; full = full tt })
  start_refused p (faults.State x) new file h full = absurd (h new)
  start_refused p (faults.Argument args.FieldsShape) new file h full = rw (file.fields_are, file.chosen_are) at h
  start_refused p (faults.Argument args.NotWritable) new file h full = rw (file.fields_are, file.metadata_are, file.chosen_are) at h
  start_refused p _ new file h full = absurd h

  -- the end
  module _ (answers : List (Result (Unit {0}) Fault)) (creation : IsCreation fs es is order ps chunks answers) where
    going : IsGoing creation.last.state
    going = going-last creation.opened creation.last chunks answers creation.writes (inl creation.started)

    not-ended : (e : Fault) → RefusesEnd creation.last e → CreationCause fs es is order ps chunks e
    not-ended faults.Memory h = tt
    not-ended (faults.Io x) h = inr (record { answers = answers; creation = creation; holds = h })
    not-ended (faults.Argument args.TooLarge) h = inr (record { answers = answers; creation = creation; holds = h })
    not-ended (faults.State states.NotStarted) h = absurd (not-new creation.last.state going h)
    not-ended (faults.State states.Failed) h = record { answers = answers; creation = creation; holds = h }
    not-ended _ h = absurd h

    pub end_refused : (b : FileSeen (Vec ℕ Global)) (e : Fault) → StateComesFirst (fault_unless_started creation.last.state) creation.last (Err e) b → OrFails (RefusesFinish creation.last) e → MissesFinish creation.last e
        → (IsIo e → HasNoRoom creation.last.device (IsEnding creation.last)) → CreationCause fs es is order ps chunks e
    end_refused b e first only misses full = not-ended e (refuses_end creation.last b (not-finished creation.last.state going) e first only misses full)
