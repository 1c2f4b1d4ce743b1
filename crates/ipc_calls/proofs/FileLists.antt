-- What the calls of a file writer do, one after the other.
use Rattle.std.proofs.Common.{◌≡◌, Bool, true, false, List, [], ◌∷◌, ◌++◌, Result, Ok, Err, refl, sym, ap, ◌∙◌, subst, append_assoc, append-nil}
use Rattle.std.specs.Prelude.{Option}
use Rattle.std.specs.Borrow.{Bor}
use Rattle.lower.specs.TypeTrees.{Pairs}
use Rattle.lower.specs.TypeViews.{pairs_of}
use Rattle.lower_arrays.specs.declared.array.AnyArray.{AnyArray}
use Rattle.lower_types.specs.declared.Endianness.{Endianness}
use Rattle.ipc_base.specs.IdTrees.{IdTrees}
use Rattle.ipc_base.specs.declared.ipc.IpcField.{IpcField}
use Rattle.ipc_devices.specs.declared.fault.Fault.{Fault}
use Rattle.ipc_model.specs.Batches.{Chunk}
use Rattle.ipc_model.specs.WriterStates.{IsRun, MayEnd, Outcome, State, Writer, answered, state_after, was_taken, writer_after}
use Rattle.ipc_model.specs.Writers.{Call, added_by, taken, start_call, write_call, finish_call}
use Rattle.ipc_write.specs.Calls.{outcome, state_seen}
use Rattle.ipc_write.specs.Meaning.{chunk_written}
use Rattle.ipc_write.specs.declared.stream.WriterState.{WriterState}
use Rattle.ipc_file_write.specs.Api.{SetsPairs}
use Rattle.ipc_file_write.specs.Calls.{GrowsBy, HasChosen, IdsAre, writer_seen}
use Rattle.ipc_file_write.specs.FileWriters.{Agrees, FileSeen, IsSameFile, Remains, TakesPairs}
use Rattle.ipc_file_write.proofs.CallLists.{finish_moves, start_moves, write_moves}
use Rattle.ipc_calls.specs.FileCalls.{AreMade, IsMade, KeepsFile, ended_as, pairs_after, last_pairs, stage_of}
use Rattle.ipc_calls.specs.declared.files.FileCall.{FileCall}
use Rattle.ipc_calls.specs.declared.files.FileCall.TheVariants.{SetCustomMetadata, Start, Write, Finish}
use Rattle.ipc_devices.specs.Device.{Device}

-- ---- what a call leaves

-- A call that changes the writer's state: it may end so, it leaves the writer as such a call does,
-- and the file has what it adds.
pub record Moves {W : Type 0} (d : Device W) (a : FileSeen W) (call : Call) (o : Outcome) (b : FileSeen W) : Type 0 where
  pub may : MayEnd call o (state_seen a.state)
  pub after : stage_of b ≡ writer_after call o (stage_of a)
  pub follows : GrowsBy d a b (taken (answered ((call, o) ∷ [])))
  pub keeps : KeepsFile a b a.pairs

module _ {W : Type 0} where
  -- What contracts know of a writer, without its pairs.
  staged : (a b : FileSeen W) (s : State) → state_seen b.state ≡ s → b.order ≡ a.order → stage_of b ≡ record { state = s; order = a.order; pairs = [] }
  staged a b s e f =
      ap (λ (x : State). record { state = x; order = b.order; pairs = [] }) e ∙ ap (λ (o : Endianness). record { state = s; order = o; pairs = [] }) f

  keeps_same : (a b : FileSeen W) → IsSameFile a b → (HasChosen a → HasChosen b) → KeepsFile a b a.pairs
  keeps_same a b same chosen =
      record { order = same.order; fields = same.fields; metadata = same.metadata; chosen = same.chosen; size = same.size; pairs_are = same.pairs; has_chosen = chosen }

  keeps_then : (a m b : FileSeen W) (ps qs : Pairs) → KeepsFile a m ps → KeepsFile m b qs → KeepsFile a b qs
  keeps_then a m b ps qs f g = record {
    order = g.order ∙ f.order;
    fields = g.fields ∙ f.fields;
    metadata = g.metadata ∙ f.metadata;
    chosen = g.chosen ∙ f.chosen;
    size = g.size ∙ f.size;
    pairs_are = g.pairs_are;
    has_chosen = λ h. g.has_chosen (f.has_chosen h);
  }

  -- Ids that stay.
  chosen_stay : (a b : FileSeen W) → b.state ≡ a.state → b.ids ≡ a.ids → b.chosen ≡ a.chosen → HasChosen a → HasChosen b
  chosen_stay a b e f g h =
      subst (λ (js : IdTrees). IdsAre b.state b.ids js) (sym g) (subst (λ (is : IdTrees). IdsAre b.state is a.chosen) (sym f) (subst (λ (s : WriterState). IdsAre s a.ids a.chosen) (sym e) h))

  -- The pairs are set.
  keeps_ok : (a b : FileSeen W) (pairs : Pairs) → TakesPairs a b pairs → KeepsFile a b pairs
  keeps_ok a b pairs takes = record {
    order = takes.order;
    fields = takes.fields;
    metadata = takes.metadata;
    chosen = takes.chosen;
    size = takes.size;
    pairs_are = takes.are;
    has_chosen = chosen_stay a b takes.state takes.ids takes.chosen;
  }

  keeps_all : (a b : FileSeen W) → b ≡ a → KeepsFile a b a.pairs
  keeps_all a b e =
      subst (λ (w : FileSeen W). KeepsFile a w a.pairs) (sym e) (record { order = refl; fields = refl; metadata = refl; chosen = refl; size = refl; pairs_are = refl; has_chosen = λ h. h })

module _ {W : Type 0} (d : Device W) where
  -- ---- calls that move the writer

  moves_as : (a b : FileSeen W) (call : Call) (o : Outcome) → MayEnd call o (state_seen a.state) → writer_seen b ≡ writer_after call o (writer_seen a) → GrowsBy d a b (taken (answered ((call, o) ∷ [])))
      → IsSameFile a b → (HasChosen a → HasChosen b) → Moves d a call o b
  moves_as a b call o may after follows same chosen =
      record { may = may; after = staged a b (state_after call o (state_seen a.state)) (ap (λ (w : Writer). w.state) after) same.order; follows = follows; keeps = keeps_same a b same chosen }

  -- ---- pairs that are set

  -- No other part of a writer changes if its pairs are set or refused.
  stage_stays : (a b : FileSeen W) (pairs : Pairs) (r : Result (Unit {0}) Fault) → SetsPairs d a pairs r b → stage_of b ≡ stage_of a
  stage_stays a b pairs (Ok x) h = staged a b (state_seen a.state) (ap state_seen h.state.ok.state) h.state.ok.order
  stage_stays a b pairs (Err e) h = ap (λ (w : FileSeen W). stage_of w) h.state.kept

  -- ---- chunks

  taken_first : (call : Call) (ok : Bool) (ps : List (Call × Bool)) → taken ((call, ok) ∷ []) ++ taken ps ≡ taken ((call, ok) ∷ ps)
  taken_first call true ps = ap (λ (cs : List Chunk). cs ++ taken ps) (append-nil (added_by call))
  taken_first call false ps = refl

  grows_then : (a m b : FileSeen W) (call : Call) (o : Outcome) (rest : List (Call × Outcome)) → GrowsBy d a m (taken (answered ((call, o) ∷ []))) → GrowsBy d m b (taken (answered rest))
      → GrowsBy d a b (taken (answered ((call, o) ∷ rest)))
  grows_then a m b call o rest one others =
      let own = taken (answered ((call, o) ∷ [])) in
      let more = taken (answered rest) in
      let all : own ++ more ≡ taken (answered ((call, o) ∷ rest)) = taken_first call (was_taken o) (answered rest) in
      record {
        followed = λ k base cs at.
            let joined : (cs ++ own) ++ more ≡ cs ++ taken (answered ((call, o) ∷ rest)) = append_assoc cs own more ∙ ap (λ (xs : List Chunk). cs ++ xs) all in
            subst (λ (xs : List Chunk). Agrees d b base xs) joined (others.followed k base (cs ++ own) (one.followed k base cs at));
      }

  grows_behind : (a m b : FileSeen W) (added : List Chunk) → Remains d a m → GrowsBy d m b added → GrowsBy d a b added
  grows_behind a m b added remains others = record { followed = λ k base cs at. others.followed k base cs (remains.kept k true base cs at) }

  -- ---- runs

  runs_then : (a m b : FileSeen W) (call : Call) (o : Outcome) (rest : List (Call × Outcome)) → Moves d a call o m → IsRun (stage_of m) rest (stage_of b) → IsRun (stage_of a) ((call, o) ∷ rest) (stage_of b)
  runs_then a m b call o rest moved run = (moved.may, subst (λ (w : Writer). IsRun w rest (stage_of b)) moved.after run)

-- ---- calls by what each says of itself

module _ {W : Type 0} (d : Device W) where
  abbrev Made : FileSeen W → FileCall → Result (Unit {0}) Fault → FileSeen W → Type 0
  Made = IsMade d

  abbrev AllMade : FileSeen W → List FileCall → List (Result (Unit {0}) Fault) → FileSeen W → Type 0
  AllMade = AreMade d

  start_one : (a b : FileSeen W) (r : Result (Unit {0}) Fault) → Made a Start r b → Moves d a start_call (outcome r) b
  start_one a b r h =
      let m = start_moves d a b r h.state.first h.device h.state.ok h.content in
      moves_as d a b start_call (outcome r) m.may m.after m.follows m.same m.chosen

  write_one : (a b : FileSeen W) (chunk : Bor (List AnyArray)) (ids : Option (Bor (List IpcField))) (r : Result (Unit {0}) Fault) → Made a (Write chunk ids) r b → Moves d a (write_call (chunk_written chunk.now)) (outcome r) b
  write_one a b chunk ids r h =
      let m = write_moves d a b chunk r h.state h.device h.content in
      moves_as d a b (write_call (chunk_written chunk.now)) (outcome r) m.may m.after m.follows m.same m.chosen

  finish_one : (a b : FileSeen W) (r : Result (Unit {0}) Fault) → Made a Finish r b → Moves d a finish_call (outcome r) b
  finish_one a b r h =
      let m = finish_moves d a b r h.state.first h.device h.state.ok h.content in
      moves_as d a b finish_call (outcome r) m.may m.after m.follows m.same m.chosen

  -- ---- lists

  pub made_run : (a b : FileSeen W) (calls : List FileCall) (rs : List (Result (Unit {0}) Fault)) → AllMade a calls rs b → IsRun (stage_of a) (ended_as calls rs) (stage_of b)
  made_run a b [] [] h = ap (λ (w : FileSeen W). stage_of w) (sym h)
  made_run a b [] (r ∷ rs) h = absurd h
  made_run a b (call ∷ calls) [] h = absurd h
  made_run a b (SetCustomMetadata pairs ∷ calls) (r ∷ rs) h =
      subst (λ (w : Writer). IsRun w (ended_as calls rs) (stage_of b)) (stage_stays d a h.0 (pairs_of pairs.now.entries) r h.1.0) (made_run h.0 b calls rs h.1.1)
  made_run a b (Start ∷ calls) (r ∷ rs) h = runs_then d a h.0 b start_call (outcome r) (ended_as calls rs) (start_one a h.0 r h.1.0) (made_run h.0 b calls rs h.1.1)
  made_run a b (Write chunk ids ∷ calls) (r ∷ rs) h =
      runs_then d a h.0 b (write_call (chunk_written chunk.now)) (outcome r) (ended_as calls rs) (write_one a h.0 chunk ids r h.1.0) (made_run h.0 b calls rs h.1.1)
  made_run a b (Finish ∷ calls) (r ∷ rs) h = runs_then d a h.0 b finish_call (outcome r) (ended_as calls rs) (finish_one a h.0 r h.1.0) (made_run h.0 b calls rs h.1.1)

  pub made_follow : (a b : FileSeen W) (calls : List FileCall) (rs : List (Result (Unit {0}) Fault)) → AllMade a calls rs b → GrowsBy d a b (taken (answered (ended_as calls rs)))
  made_follow a b [] [] h = record { followed = λ k base cs at. subst (λ (w : FileSeen W). Agrees d w base (cs ++ [])) (sym h) (subst (λ (xs : List Chunk). Agrees d a base xs) (sym (append-nil cs)) at) }
  made_follow a b [] (r ∷ rs) h = absurd h
  made_follow a b (call ∷ calls) [] h = absurd h
  made_follow a b (SetCustomMetadata pairs ∷ calls) (r ∷ rs) h = grows_behind d a h.0 b (taken (answered (ended_as calls rs))) h.1.0.content (made_follow h.0 b calls rs h.1.1)
  made_follow a b (Start ∷ calls) (r ∷ rs) h =
      let one = start_one a h.0 r h.1.0 in grows_then d a h.0 b start_call (outcome r) (ended_as calls rs) one.follows (made_follow h.0 b calls rs h.1.1)
  made_follow a b (Write chunk ids ∷ calls) (r ∷ rs) h =
      let one = write_one a h.0 chunk ids r h.1.0 in grows_then d a h.0 b (write_call (chunk_written chunk.now)) (outcome r) (ended_as calls rs) one.follows (made_follow h.0 b calls rs h.1.1)
  made_follow a b (Finish ∷ calls) (r ∷ rs) h =
      let one = finish_one a h.0 r h.1.0 in grows_then d a h.0 b finish_call (outcome r) (ended_as calls rs) one.follows (made_follow h.0 b calls rs h.1.1)

  keeps_one : (a b : FileSeen W) (call : FileCall) (r : Result (Unit {0}) Fault) → Made a call r b → KeepsFile a b (pairs_after call r a.pairs)
  keeps_one a b (SetCustomMetadata pairs) (Ok x) h = keeps_ok a b (pairs_of pairs.now.entries) h.state.ok
  keeps_one a b (SetCustomMetadata pairs) (Err e) h = keeps_all a b h.state.kept
  keeps_one a b Start r h = let one = start_one a b r h in one.keeps
  keeps_one a b (Write chunk ids) r h = let one = write_one a b chunk ids r h in one.keeps
  keeps_one a b Finish r h = let one = finish_one a b r h in one.keeps

  pub made_keep : (a b : FileSeen W) (calls : List FileCall) (rs : List (Result (Unit {0}) Fault)) → AllMade a calls rs b → KeepsFile a b (last_pairs calls rs a.pairs)
  made_keep a b [] [] h = keeps_all a b h
  made_keep a b [] (r ∷ rs) h = absurd h
  made_keep a b (call ∷ calls) [] h = absurd h
  made_keep a b (call ∷ calls) (r ∷ rs) h =
      let one = keeps_one a h.0 call r h.1.0 in
      let rest : KeepsFile h.0 b (last_pairs calls rs (pairs_after call r a.pairs)) = subst (λ (ps : Pairs). KeepsFile h.0 b (last_pairs calls rs ps)) one.pairs_are (made_keep h.0 b calls rs h.1.1) in
      keeps_then a h.0 b (pairs_after call r a.pairs) (last_pairs calls rs (pairs_after call r a.pairs)) one rest

  -- one call more
  pub made_more : (a m b : FileSeen W) (calls : List FileCall) (rs : List (Result (Unit {0}) Fault)) (call : FileCall) (r : Result (Unit {0}) Fault) → AllMade a calls rs m → Made m call r b
      → AllMade a (calls ++ call ∷ []) (rs ++ r ∷ []) b
  made_more a m b [] [] call r h last = (b, (subst (λ (w : FileSeen W). Made w call r b) h last, refl))
  made_more a m b [] (x ∷ rs) call r h last = absurd h
  made_more a m b (c ∷ calls) [] call r h last = absurd h
  made_more a m b (c ∷ calls) (x ∷ rs) call r h last = (h.0, (h.1.0, made_more h.0 m b calls rs call r h.1.1 last))
