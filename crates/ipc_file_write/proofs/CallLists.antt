-- What the calls of a file writer do, one after the other.
use Rattle.std.proofs.Common.{◌≡◌, ℕ, Bool, true, false, List, [], ◌∷◌, ◌++◌, Result, Ok, Err, OnOk, refl, sym, ap, ◌∙◌, subst, append_assoc, append-nil, ◌-◌, length, take, replicate, arith}
use Rattle.std.proofs.lemmas.List.{take_all}
use Rattle.std.specs.Prelude.{Vec}
use Rattle.std.specs.declared.alloc.Global.{Global}
use Rattle.std.specs.Borrow.{Bor}
use Rattle.lower.specs.TypeTrees.{FieldTrees, Pairs}
use Rattle.lower_arrays.specs.declared.array.AnyArray.{AnyArray}
use Rattle.lower_types.specs.declared.Endianness.{Endianness}
use Rattle.ipc_devices.specs.Device.{Device, before}
use Rattle.ipc_devices.specs.declared.fault.Fault.{Fault}
use Rattle.ipc_devices.specs.declared.fault.Fault.TheVariants.{Io}
use Rattle.ipc_model.specs.Batches.{Chunk}
use Rattle.ipc_model.specs.WriterStates.{IsRun, State, Writer, answered}
use Rattle.ipc_model.specs.Writers.{Call, added_by, taken}
use Rattle.ipc_write.specs.Calls.{call_seen, ended_as, outcome, state_seen}
use Rattle.ipc_write.specs.Writers.{fault_unless_new, fault_unless_started}
use Rattle.ipc_write.specs.Meaning.{chunk_written}
use Rattle.ipc_write.specs.declared.calls.StreamCall.{StreamCall}
use Rattle.ipc_write.specs.declared.calls.StreamCall.TheVariants.{Start, Write, Finish}
use Rattle.ipc_write.specs.declared.stream.WriterState.{WriterState}
use Rattle.ipc_write.specs.declared.stream.WriterState.TheVariants.{New, Started, Finished, Failed}
use Rattle.ipc_base.specs.IdTrees.{IdTrees}
use Rattle.ipc_file_write.specs.Calls.{AreMade, EndsFile, GrowsBy, HasChosen, IdsAre, IsMade, IsWrittenFile, MakesCall, vector, writer_seen}
use Rattle.ipc_file_write.specs.FileWriters.{Agrees, EndsWith, FileIs, FileSeen, HasNothing, IsFileOf, IsSameFile, IsWholeFile, Remains, SendsBeginning, SendsEnding, StartsWith, StateComesFirst, TakesPairs}
use Rattle.ipc_file_write.specs.Writes.{Appends, SendsColumns}
use Rattle.ipc_write.specs.Vectors.{vectors}

-- All calls are made, each on the writer that the one before it left.
abbrev pub AllMove : {W : Type 0} → Device W → FileSeen W → List StreamCall → List (Result (Unit {0}) Fault) → FileSeen W → Type 0
AllMove d a [] [] b = b ≡ a
AllMove {W = W} d a (call ∷ calls) (r ∷ rs) b = (m : FileSeen W) × (MakesCall d a call r m × AllMove d m calls rs b)
AllMove d a _ _ b = ⊥

module _ {W : Type 0} (d : Device W) where
  pub moves_run : (a b : FileSeen W) (calls : List StreamCall) (rs : List (Result (Unit {0}) Fault)) → AllMove d a calls rs b → IsRun (writer_seen a) (ended_as calls rs) (writer_seen b)
  moves_run a b [] [] h = ap (λ (w : FileSeen W). writer_seen w) (sym h)
  moves_run a b [] (r ∷ rs) h = absurd h
  moves_run a b (call ∷ calls) [] h = absurd h
  moves_run a b (call ∷ calls) (r ∷ rs) h =
      (h.1.0.may, subst (λ (v : Writer). IsRun v (ended_as calls rs) (writer_seen b)) h.1.0.after (moves_run h.0 b calls rs h.1.1))

  taken_first : (call : Call) (ok : Bool) (ps : List (Call × Bool)) → taken ((call, ok) ∷ []) ++ taken ps ≡ taken ((call, ok) ∷ ps)
  taken_first call true ps = ap (λ (cs : List Chunk). cs ++ taken ps) (append-nil (added_by call))
  taken_first call false ps = refl

  pub moves_follow : (a b : FileSeen W) (calls : List StreamCall) (rs : List (Result (Unit {0}) Fault)) → AllMove d a calls rs b → GrowsBy d a b (taken (answered (ended_as calls rs)))
  moves_follow a b [] [] h = record { followed = λ k base cs at. subst (λ (w : FileSeen W). Agrees d w base (cs ++ [])) (sym h) (subst (λ (xs : List Chunk). Agrees d a base xs) (sym (append-nil cs)) at) }
  moves_follow a b [] (r ∷ rs) h = absurd h
  moves_follow a b (call ∷ calls) [] h = absurd h
  moves_follow a b (call ∷ calls) (r ∷ rs) h =
      let one = h.1.0.follows in
      let rest_follows = moves_follow h.0 b calls rs h.1.1 in
      let first = taken (answered ((call_seen call, outcome r) ∷ [])) in
      let rest = taken (answered (ended_as calls rs)) in
      let all : first ++ rest ≡ taken (answered (ended_as (call ∷ calls) (r ∷ rs))) = taken_first (call_seen call) _ (answered (ended_as calls rs)) in
      record {
        followed = λ k base cs at.
            let joined : (cs ++ first) ++ rest ≡ cs ++ taken (answered (ended_as (call ∷ calls) (r ∷ rs))) = append_assoc cs first rest ∙ ap (λ (xs : List Chunk). cs ++ xs) all in
            subst (λ (xs : List Chunk). Agrees d b base xs) joined (rest_follows.followed k base (cs ++ first) (one.followed k base cs at));
      }

  -- what no call changes
  same_then : (a m b : FileSeen W) → IsSameFile a m → IsSameFile m b → IsSameFile a b
  same_then a m b f g = record { order = g.order ∙ f.order; fields = g.fields ∙ f.fields; metadata = g.metadata ∙ f.metadata; chosen = g.chosen ∙ f.chosen; pairs = g.pairs ∙ f.pairs; size = g.size ∙ f.size }

  pub moves_same : (a b : FileSeen W) (calls : List StreamCall) (rs : List (Result (Unit {0}) Fault)) → AllMove d a calls rs b → IsSameFile a b
  moves_same a b [] [] h = subst (λ (w : FileSeen W). IsSameFile a w) (sym h) (record { order = refl; fields = refl; metadata = refl; chosen = refl; pairs = refl; size = refl })
  moves_same a b [] (r ∷ rs) h = absurd h
  moves_same a b (call ∷ calls) [] h = absurd h
  moves_same a b (call ∷ calls) (r ∷ rs) h = same_then a h.0 b h.1.0.same (moves_same h.0 b calls rs h.1.1)

  pub moves_chosen : (a b : FileSeen W) (calls : List StreamCall) (rs : List (Result (Unit {0}) Fault)) → AllMove d a calls rs b → HasChosen a → HasChosen b
  moves_chosen a b [] [] h k = subst (λ (w : FileSeen W). HasChosen w) (sym h) k
  moves_chosen a b [] (r ∷ rs) h k = absurd h
  moves_chosen a b (call ∷ calls) [] h k = absurd h
  moves_chosen a b (call ∷ calls) (r ∷ rs) h k = moves_chosen h.0 b calls rs h.1.1 (h.1.0.chosen k)

-- ---- one call

-- Only the `start` of a new writer reaches the device, and only the
-- `write` or `finish` of a started one.
was_new : {W : Type 0} (s : WriterState) (a b : FileSeen W) (x : _) → StateComesFirst (fault_unless_new s) a (Err (Io x)) b → s ≡ New
was_new New a b x h = refl
was_new Started a b x h = let other = h.0 in absurd cc
was_new Finished a b x h = let other = h.0 in absurd cc
was_new Failed a b x h = let other = h.0 in absurd cc

was_started : {W : Type 0} (s : WriterState) (a b : FileSeen W) (x : _) → StateComesFirst (fault_unless_started s) a (Err (Io x)) b → s ≡ Started
was_started New a b x h = let other = h.0 in absurd cc
was_started Started a b x h = refl
was_started Finished a b x h = let other = h.0 in absurd cc
was_started Failed a b x h = let other = h.0 in absurd cc

writer_after_is : {W : Type 0} (a b : FileSeen W) (s : State) → state_seen b.state ≡ s → b.order ≡ a.order → b.pairs ≡ a.pairs → writer_seen b ≡ record { state = s; order = a.order; pairs = a.pairs }
writer_after_is a b s e f g =
    ap (λ (x : State). record { state = x; order = b.order; pairs = b.pairs }) e ∙ ap (λ (o : Endianness). record { state = s; order = o; pairs = b.pairs }) f
    ∙ ap (λ (ps : Pairs). record { state = s; order = a.order; pairs = ps }) g

-- ids that stay
chosen_stay : {W : Type 0} (a b : FileSeen W) → b.state ≡ a.state → b.ids ≡ a.ids → b.chosen ≡ a.chosen → HasChosen a → HasChosen b
chosen_stay a b e f g h =
    subst (λ (js : IdTrees). IdsAre b.state b.ids js) (sym g) (subst (λ (is : IdTrees). IdsAre b.state is a.chosen) (sym f) (subst (λ (s : WriterState). IdsAre s a.ids a.chosen) (sym e) h))

chosen_failed : {W : Type 0} (b : FileSeen W) → b.state ≡ Failed → HasChosen b
chosen_failed b e = subst (λ (s : WriterState). IdsAre s b.ids b.chosen) (sym e) tt

chosen_started : {W : Type 0} (b : FileSeen W) → b.state ≡ Started → b.ids ≡ b.chosen → HasChosen b
chosen_started b e f = subst (λ (s : WriterState). IdsAre s b.ids b.chosen) (sym e) f

chosen_finished : {W : Type 0} (b : FileSeen W) → b.state ≡ Finished → b.ids ≡ b.chosen → HasChosen b
chosen_finished b e f = subst (λ (s : WriterState). IdsAre s b.ids b.chosen) (sym e) f

chosen_of : {W : Type 0} (a b : FileSeen W) → a.state ≡ Started → b.ids ≡ a.ids → b.chosen ≡ a.chosen → HasChosen a → b.ids ≡ b.chosen
chosen_of a b was f g h = let had : a.ids ≡ a.chosen = subst (λ (s : WriterState). IdsAre s a.ids a.chosen) was h in f ∙ had ∙ sym g

module _ {W : Type 0} (d : Device W) (a b : FileSeen W) where
  remains : Remains d a b → GrowsBy d a b []
  remains h = record { followed = λ k base cs at. subst (λ (xs : List Chunk). Agrees d b base xs) (sym (append-nil cs)) (h.kept k true base cs at) }

  pub start_moves : (r : Result (Unit {0}) Fault) → StateComesFirst (fault_unless_new a.state) a r b → SendsBeginning d a r b → OnOk r (StartsWith a b) → Remains d a b → MakesCall d a Start r b
  start_moves (Ok x) first sends ok means = record {
    may = ap state_seen ok.was;
    after = writer_after_is a b _ (ap state_seen ok.is) sends.step.same.order sends.step.same.pairs;
    follows = remains means;
    same = sends.step.same;
    chosen = λ h. chosen_started b ok.is (ok.ids ∙ sym sends.step.same.chosen);
  }
  start_moves (Err (Io e)) first sends ok means = record {
    may = ap state_seen (was_new a.state a b e first);
    after = writer_after_is a b _ (ap state_seen sends.step.io.0) sends.step.same.order sends.step.same.pairs;
    follows = remains means;
    same = sends.step.same;
    chosen = λ h. chosen_failed b sends.step.io.0;
  }
  start_moves (Err _) first sends ok means = record {
    may = tt;
    after = writer_after_is a b _ (ap state_seen sends.step.refused.state) sends.step.same.order sends.step.same.pairs;
    follows = remains means;
    same = sends.step.same;
    chosen = chosen_stay a b sends.step.refused.state sends.step.refused.ids sends.step.same.chosen;
  }

  pub finish_moves : (r : Result (Unit {0}) Fault) → StateComesFirst (fault_unless_started a.state) a r b → SendsEnding d a r b → OnOk r (EndsWith a b) → Remains d a b → MakesCall d a Finish r b
  finish_moves (Ok x) first sends ok means = record {
    may = ap state_seen ok.was;
    after = writer_after_is a b _ (ap state_seen ok.is) sends.step.same.order sends.step.same.pairs;
    follows = remains means;
    same = sends.step.same;
    chosen = λ h. chosen_finished b ok.is (chosen_of a b ok.was ok.ids sends.step.same.chosen h);
  }
  finish_moves (Err (Io e)) first sends ok means = record {
    may = ap state_seen (was_started a.state a b e first);
    after = writer_after_is a b _ (ap state_seen sends.step.io.0) sends.step.same.order sends.step.same.pairs;
    follows = remains means;
    same = sends.step.same;
    chosen = λ h. chosen_failed b sends.step.io.0;
  }
  finish_moves (Err _) first sends ok means = record {
    may = tt;
    after = writer_after_is a b _ (ap state_seen sends.step.refused.state) sends.step.same.order sends.step.same.pairs;
    follows = remains means;
    same = sends.step.same;
    chosen = chosen_stay a b sends.step.refused.state sends.step.refused.ids sends.step.same.chosen;
  }

  pub write_moves : (chunk : Bor (List AnyArray)) (r : Result (Unit {0}) Fault) → StateComesFirst (fault_unless_started a.state) a r b → SendsColumns d a r b chunk.now → Appends d a r b (chunk_written chunk.now)
      → MakesCall d a (Write chunk) r b
  write_moves chunk (Ok x) first sends means = record {
    may = ap state_seen sends.takes.was;
    after = writer_after_is a b _ (ap state_seen sends.takes.is) sends.step.same.order sends.step.same.pairs;
    follows = record { followed = λ k base cs at. means.appended k true base cs at };
    same = sends.step.same;
    chosen = λ h. chosen_started b sends.takes.is (chosen_of a b sends.takes.was sends.takes.ids sends.step.same.chosen h);
  }
  write_moves chunk (Err (Io e)) first sends means = record {
    may = ap state_seen (was_started a.state a b e first);
    after = writer_after_is a b _ (ap state_seen sends.step.io.0) sends.step.same.order sends.step.same.pairs;
    follows = record { followed = λ k base cs at. subst (λ (xs : List Chunk). Agrees d b base xs) (sym (append-nil cs)) (means.kept k true base cs at) };
    same = sends.step.same;
    chosen = λ h. chosen_failed b sends.step.io.0;
  }
  write_moves chunk (Err _) first sends means = record {
    may = tt;
    after = writer_after_is a b _ (ap state_seen sends.step.refused.state) sends.step.same.order sends.step.same.pairs;
    follows = record { followed = λ k base cs at. subst (λ (xs : List Chunk). Agrees d b base xs) (sym (append-nil cs)) (means.kept k true base cs at) };
    same = sends.step.same;
    chosen = chosen_stay a b sends.step.refused.state sends.step.refused.ids sends.step.same.chosen;
  }

-- ---- calls by what each says of itself

module _ {W : Type 0} (d : Device W) where
  abbrev Made : FileSeen W → StreamCall → Result (Unit {0}) Fault → FileSeen W → Type 0
  Made = IsMade d

  abbrev AllMade : FileSeen W → List StreamCall → List (Result (Unit {0}) Fault) → FileSeen W → Type 0
  AllMade = AreMade d

  pub moves_one : (a b : FileSeen W) (call : StreamCall) (r : Result (Unit {0}) Fault) → Made a call r b → MakesCall d a call r b
  moves_one a b Start r h = start_moves d a b r h.state.first h.device h.state.ok h.content
  moves_one a b (Write chunk) r h = write_moves d a b chunk r h.state h.device h.content
  moves_one a b Finish r h = finish_moves d a b r h.state.first h.device h.state.ok h.content

  pub moves_all : (a b : FileSeen W) (calls : List StreamCall) (rs : List (Result (Unit {0}) Fault)) → AllMade a calls rs b → AllMove d a calls rs b
  moves_all a b [] [] h = h
  moves_all a b [] (r ∷ rs) h = absurd h
  moves_all a b (call ∷ calls) [] h = absurd h
  moves_all a b (call ∷ calls) (r ∷ rs) h = (h.0, (moves_one a h.0 call r h.1.0, moves_all h.0 b calls rs h.1.1))

  -- one call more
  pub made_more : (a m b : FileSeen W) (calls : List StreamCall) (rs : List (Result (Unit {0}) Fault)) (call : StreamCall) (r : Result (Unit {0}) Fault) → AllMade a calls rs m → Made m call r b
      → AllMade a (calls ++ call ∷ []) (rs ++ r ∷ []) b
  made_more a m b [] [] call r h last = (b, (subst (λ (w : FileSeen W). Made w call r b) h last, refl))
  made_more a m b [] (x ∷ rs) call r h last = absurd h
  made_more a m b (c ∷ calls) [] call r h last = absurd h
  made_more a m b (c ∷ calls) (x ∷ rs) call r h last = (h.0, (h.1.0, made_more h.0 m b calls rs call r h.1.1 last))

-- ---- whole files

whole_before : (xs : List ℕ) (n : ℕ) → n ≡ length xs → take n xs ++ replicate (n - length xs) 0 ≡ xs
whole_before xs n h = let none : n - length xs ≡ 0 = omega arith in rw (none, append-nil, take_all n xs (omega arith)) refl

pub vector_before : (v : Vec ℕ Global) → before (vector v) ≡ v.items
vector_before v = whole_before v.items v.len (omega (arith, v.ok))

module _ (bytes xs : List ℕ) (cs : List Chunk) where
  -- The same by other definitions.
  written_as : (o p : Endianness) (fs gs : FieldTrees) (es ds : Pairs) (is js : IdTrees) (ps qs : Pairs) → xs ≡ bytes → o ≡ p → fs ≡ gs → es ≡ ds → is ≡ js → ps ≡ qs → IsWrittenFile bytes p gs ds js qs cs → IsWrittenFile xs o fs es is ps cs
  written_as o p fs gs es ds is js ps qs a b c d e f h = rw (a, b, c, d, e, f) h

-- A writer to empty memory that was finished.
pub file_ended : (a b : FileSeen (Vec ℕ Global)) (v : Vec ℕ Global) → Remains vectors a b → (HasChosen a → HasChosen b) → IsSameFile a b → b.state ≡ Finished → v ≡ b.device → EndsFile a v.items
file_ended a b v remains chosen same is over = record {
  file = λ cs had agrees.
      let there = remains.kept refl true [] cs agrees in
      let held : v.items ≡ there.bytes = sym (vector_before v) ∙ ap (λ (x : Vec ℕ Global). before (vector x)) over ∙ there.held in
      let whole : IsWholeFile true b there.bytes cs = subst (λ (s : WriterState). FileIs true s b there.bytes cs) is there.file in
      let ids : b.ids ≡ b.chosen = subst (λ (s : WriterState). IdsAre s b.ids b.chosen) is (chosen had) in
      written_as there.bytes v.items cs a.order b.order a.fields b.fields a.metadata b.metadata a.chosen b.ids a.pairs b.pairs held (sym same.order) (sym same.fields) (sym same.metadata) (sym (ids ∙ same.chosen)) (sym same.pairs)
      (record { dictionaries = b.dictionaries; blocks = b.blocks; file = whole.file; stream = whole.stream refl });
}

pub finished_now : (a b : FileSeen (Vec ℕ Global)) (v : Vec ℕ Global) → SendsEnding vectors a (Ok tt) b → EndsWith a b → Remains vectors a b → v ≡ b.device → EndsFile a v.items
finished_now a b v sends ok means over = file_ended a b v means (λ h. chosen_finished b ok.is (chosen_of a b ok.was ok.ids sends.step.same.chosen h)) sends.step.same ok.is over

pub finished_before : (a : FileSeen (Vec ℕ Global)) (v : Vec ℕ Global) → a.state ≡ Finished → v ≡ a.device → EndsFile a v.items
finished_before a v is over =
    file_ended a a v (record { kept = λ k is_stream base cs h. h }) (λ h. h) (record { order = refl; fields = refl; metadata = refl; chosen = refl; pairs = refl; size = refl }) is over

-- a new writer, its pairs, and its calls
pub file_written_by : (a b w : FileSeen (Vec ℕ Global)) (bytes : List ℕ) (fs : FieldTrees) (es : Pairs) (is : IdTrees) (order : Endianness) (pairs : Pairs) (cs : List Chunk) → IsFileOf a fs es is order [] → a.state ≡ New → HasNothing vectors a
    → a.device.items ≡ [] → TakesPairs a b pairs → Remains vectors a b → IsSameFile b w → (HasChosen b → HasChosen w) → GrowsBy vectors b w cs → EndsFile w bytes → IsWrittenFile bytes order fs es is pairs cs
file_written_by a b w bytes fs es is order pairs cs of new nothing empty takes remains same chosen follows ends =
    let none : before (vector a.device) ≡ [] = vector_before a.device ∙ empty in
    let first : Agrees vectors a [] [] = subst (λ (xs : List ℕ). Agrees vectors a xs []) none nothing.agrees in
    let had : HasChosen b = subst (λ (s : WriterState). IdsAre s b.ids b.chosen) (sym (takes.state ∙ new)) tt in
    let file = ends.file cs (chosen had) (follows.followed refl [] [] (remains.kept refl true [] [] first)) in
    written_as bytes bytes cs order w.order fs w.fields es w.metadata is w.chosen pairs w.pairs refl (sym (same.order ∙ takes.order ∙ of.order_is)) (sym (same.fields ∙ takes.fields ∙ of.fields_are))
    (sym (same.metadata ∙ takes.metadata ∙ of.metadata_are)) (sym (same.chosen ∙ takes.chosen ∙ of.chosen_are)) (sym (same.pairs ∙ takes.are)) file
