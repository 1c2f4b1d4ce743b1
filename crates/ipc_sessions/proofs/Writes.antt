-- What the writes of a session do, one and many.
use Rattle.ipc_devices.specs.Device.{Device}
use Rattle.std.proofs.Common.{◌≡◌, ℕ, ◌≤◌, IsTrue, List, [], ◌∷◌, ◌++◌, length, None, Result, Ok, Err, IfErr, refl, sym, ap, ◌∙◌, subst, arith, append-nil, append_assoc}
use Rattle.lower_arrays.specs.declared.array.AnyArray.{AnyArray}
use Rattle.ipc_devices.specs.declared.fault.Fault.{Fault}
use Rattle.ipc_devices.specs.declared.fault.Fault.TheVariants.{Io}
use Rattle.ipc_model.specs.Batches.{Chunk}
use Rattle.ipc_model.specs.WriterStates.{state_after}
use Rattle.ipc_model.specs.Writers.{write_call}
use Rattle.ipc_write.specs.Calls.{outcome, state_seen}
use Rattle.ipc_write.specs.Meaning.{chunk_written}
use Rattle.ipc_write.specs.declared.stream.WriterState.{WriterState}
use Rattle.ipc_write.specs.declared.stream.WriterState.TheVariants.{Failed, Started}
use Rattle.ipc_file_write.specs.AppendLaws.{NoMore, Onward}
use Rattle.ipc_file_write.specs.FileWriters.{FileSeen, FileStep, HoldsBytes, IsSameFile}
use Rattle.ipc_file_write.specs.Writes.{Appends, NamesOne, SendsColumns, WritesExactly}
use Rattle.ipc_file_write.proofs.Onward.{no_more, onward_both, over_onward}
use Rattle.ipc_sessions.specs.Sessions.{taken_of}
use Rattle.ipc_sessions.specs.Steps.{AreWritten, TakesChunks, WritesNext}
use Rattle.ipc_sessions.proofs.Taken.{taken_one}

-- ---- a call that sends some bytes

pub onward_step : {W : Type 0} (d : Device W) (a b : FileSeen W) (r : Result (Unit {0}) Fault) (bytes : List ℕ) → FileStep d a r b bytes → IsTrue d.is_memory
    → (d.memory a.device).place ≤ length (d.memory a.device).whole → Onward (d.memory a.device) (d.memory b.device)
onward_step d a b r bytes step k inside = let some = step.some_sent k in over_onward (d.memory a.device) (d.memory b.device) _ inside some.over

pub no_more_step : {W : Type 0} (d : Device W) (a b : FileSeen W) (r : Result (Unit {0}) Fault) (bytes : List ℕ) → FileStep d a r b bytes → IsTrue d.is_memory
    → (size : ℕ) → NoMore (d.memory a.device) size → NoMore (d.memory b.device) size
no_more_step d a b r bytes step k size h = let some = step.some_sent k in no_more (d.memory a.device) (d.memory b.device) _ size some.over h

-- ---- no write, and two lists of them

pub takes_none : {W : Type 0} (d : Device W) (a : FileSeen W) → TakesChunks d a a []
takes_none d a = record {
  same = record { order = refl; fields = refl; metadata = refl; chosen = refl; pairs = refl; size = refl };
  was = λ s. s;
  ids = λ s. refl;
  onward = λ k inside. record { kept = refl; longer = omega arith; on = omega arith; there = inside };
  more = λ k size h. h;
  holds = λ k is_stream base cs h. subst (λ (ds : List Chunk). HoldsBytes is_stream (d.memory a.device) a base ds) (sym (append-nil cs)) h;
  names = refl;
}

same-both : {W : Type 0} (a b c : FileSeen W) → IsSameFile a b → IsSameFile b c → IsSameFile a c
same-both a b c f g = record { order = g.order ∙ f.order; fields = g.fields ∙ f.fields; metadata = g.metadata ∙ f.metadata; chosen = g.chosen ∙ f.chosen; pairs = g.pairs ∙ f.pairs; size = g.size ∙ f.size }

pub takes_both : {W : Type 0} (d : Device W) (a b c : FileSeen W) (xs ys : List Chunk) → TakesChunks d a b xs → TakesChunks d b c ys → TakesChunks d a c (xs ++ ys)
takes_both d a b c xs ys f g = record {
  same = same-both a b c f.same g.same;
  was = λ s. f.was (g.was s);
  ids = λ s. g.ids s ∙ f.ids (g.was s);
  onward = λ k inside. let first = f.onward k inside in onward_both (d.memory a.device) (d.memory b.device) (d.memory c.device) first (g.onward k first.there);
  more = λ k size h. g.more k size (f.more k size h);
  holds = λ k is_stream base cs h. subst (λ (ds : List Chunk). HoldsBytes is_stream (d.memory c.device) c base ds) (append_assoc cs xs ys) (g.holds k is_stream base (cs ++ xs) (f.holds k is_stream base cs h));
  names = g.names ∙ f.names;
}

-- ---- one write

not-started : (s : WriterState) → s ≡ Failed → s ≡ Started → ⊥
not-started s e f = let both : Failed ≡ Started = sym e ∙ f in absurd cc

module _ {W : Type 0} (d : Device W) (a b : FileSeen W) (columns : List AnyArray) where
  -- A chunk that was written.
  takes-ok : (x : Unit {0}) → SendsColumns d a (Ok x) b columns → Appends d a (Ok x) b (chunk_written columns) → TakesChunks d a b (chunk_written columns ∷ [])
  takes-ok x sends appends = record {
    same = sends.step.same;
    was = λ s. sends.takes.was;
    ids = λ s. sends.takes.ids;
    onward = λ k inside. onward_step d a b (Ok x) _ sends.step k inside;
    more = λ k size h. no_more_step d a b (Ok x) _ sends.step k size h;
    holds = λ k is_stream base cs h. appends.appended k is_stream base cs h;
    names = sends.step.names;
  }

  -- A chunk that was refused, or sent in part.
  takes-err : (e : Fault) → SendsColumns d a (Err e) b columns → Appends d a (Err e) b (chunk_written columns) → TakesChunks d a b []
  takes-err (Io x) sends appends = record {
    same = sends.step.same;
    was = λ s. absurd (not-started b.state sends.step.io.0 s);
    ids = λ s. absurd (not-started b.state sends.step.io.0 s);
    onward = λ k inside. onward_step d a b (Err (Io x)) _ sends.step k inside;
    more = λ k size h. no_more_step d a b (Err (Io x)) _ sends.step k size h;
    holds = λ k is_stream base cs h. subst (λ (ds : List Chunk). HoldsBytes is_stream (d.memory b.device) b base ds) (sym (append-nil cs)) (appends.kept k is_stream base cs h);
    names = sends.step.names;
  }
  takes-err _ sends appends = record {
    same = sends.step.same;
    was = λ s. sym sends.step.refused.state ∙ s;
    ids = λ s. sends.step.refused.ids;
    onward = λ k inside. onward_step d a b _ _ sends.step k inside;
    more = λ k size h. no_more_step d a b _ _ sends.step k size h;
    holds = λ k is_stream base cs h. subst (λ (ds : List Chunk). HoldsBytes is_stream (d.memory b.device) b base ds) (sym (append-nil cs)) (appends.kept k is_stream base cs h);
    names = sends.step.names;
  }

  takes-one : (r : Result (Unit {0}) Fault) → SendsColumns d a r b columns → Appends d a r b (chunk_written columns) → TakesChunks d a b (taken_of (columns ∷ []) (r ∷ []))
  takes-one (Ok x) sends appends = takes-ok x sends appends
  takes-one (Err e) sends appends = takes-err e sends appends

  state-then : (r : Result (Unit {0}) Fault) → SendsColumns d a r b columns → state_seen b.state ≡ state_after (write_call (chunk_written columns)) (outcome r) (state_seen a.state)
  state-then (Ok x) sends = ap state_seen sends.takes.is
  state-then (Err (Io x)) sends = ap state_seen sends.step.io.0
  state-then (Err _) sends = ap state_seen sends.step.refused.state

  -- no call of the device failed, unless the writer did
  done-then : (r : Result (Unit {0}) Fault) → SendsColumns d a r b columns → b.state ≡ Started → d.failures b.device ≡ d.failures a.device
  done-then (Ok x) sends s = sends.step.done
  done-then (Err (Io x)) sends s = absurd (not-started b.state sends.step.io.0 s)
  done-then (Err _) sends s = ap d.failures sends.step.refused.device

  pub writes_chunk : (r : Result (Unit {0}) Fault) → SendsColumns d a r b columns → WritesExactly a columns None r → IfErr r (NamesOne a columns) → Appends d a r b (chunk_written columns)
      → WritesNext d a columns r b
  writes_chunk r sends exact named appends = record { exact = exact; named = named; state = state-then r sends; done = done-then r sends; takes = takes-one r sends appends }

-- ---- lists of writes

module _ {W : Type 0} (d : Device W) where
  -- one write more
  pub written_more : (a m b : FileSeen W) (cs : List (List AnyArray)) (rs : List (Result (Unit {0}) Fault)) (c : List AnyArray) (r : Result (Unit {0}) Fault) → AreWritten d a cs rs m → WritesNext d m c r b
      → AreWritten d a (cs ++ c ∷ []) (rs ++ r ∷ []) b
  written_more a m b [] [] c r h last = (b, (subst (λ (w : FileSeen W). WritesNext d w c r b) h last, refl))
  written_more a m b [] (x ∷ rs) c r h last = absurd h
  written_more a m b (y ∷ cs) [] c r h last = absurd h
  written_more a m b (y ∷ cs) (x ∷ rs) c r h last = (h.0, (h.1.0, written_more h.0 m b cs rs c r h.1.1 last))

  -- The chunks that they wrote.
  pub takes_all : (a b : FileSeen W) (cs : List (List AnyArray)) (rs : List (Result (Unit {0}) Fault)) → AreWritten d a cs rs b → TakesChunks d a b (taken_of cs rs)
  takes_all a b [] [] h = subst (λ (w : FileSeen W). TakesChunks d a w []) (sym h) (takes_none d a)
  takes_all a b [] (x ∷ rs) h = absurd h
  takes_all a b (c ∷ cs) [] h = absurd h
  takes_all a b (c ∷ cs) (r ∷ rs) h =
      subst (λ (xs : List Chunk). TakesChunks d a b xs) (sym (taken_one c cs r rs))
      (takes_both d a h.0 b (taken_of (c ∷ []) (r ∷ [])) (taken_of cs rs) h.1.0.takes (takes_all h.0 b cs rs h.1.1))

  -- No call of the device failed if the writer is still started.
  pub done_all : (a b : FileSeen W) (cs : List (List AnyArray)) (rs : List (Result (Unit {0}) Fault)) → AreWritten d a cs rs b → b.state ≡ Started → d.failures b.device ≡ d.failures a.device
  done_all a b [] [] h s = ap (λ (w : FileSeen W). d.failures w.device) h
  done_all a b [] (x ∷ rs) h s = absurd h
  done_all a b (c ∷ cs) [] h s = absurd h
  done_all a b (c ∷ cs) (r ∷ rs) h s =
      let rest = takes_all h.0 b cs rs h.1.1 in
      done_all h.0 b cs rs h.1.1 s ∙ h.1.0.done (rest.was s)
