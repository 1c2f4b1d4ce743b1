-- What calls do, one after the other.
use Rattle.std.proofs.Common.{◌≡◌, ℕ, Bool, true, false, List, [], ◌∷◌, ◌++◌, Result, Ok, Err, refl, sym, ap, ◌∙◌, subst, append_assoc, append-nil}
use Rattle.std.specs.Prelude.{Option, OnErr, Vec}
use Rattle.std.specs.declared.alloc.Global.{Global}
use Rattle.ipc_devices.specs.declared.fault.Fault.{Fault}
use Rattle.ipc_devices.specs.declared.fault.Fault.TheVariants.{Io}
use Rattle.lower.specs.TypeTrees.{FieldTrees, Pairs}
use Rattle.lower_types.specs.declared.Endianness.{Endianness}
use Rattle.ipc_model.specs.Batches.{Chunk}
use Rattle.ipc_model.specs.Streams.{Head}
use Rattle.ipc_model.specs.WriterStates.{IsRun, MayEnd, answered, state_after}
use Rattle.ipc_model.specs.Writers.{Call, added_by, taken}
use Rattle.ipc_base.specs.IdTrees.{IdTrees}
use Rattle.ipc_base.specs.declared.ipc.IpcField.{IpcField}
use Rattle.ipc_devices.specs.Device.{Device}
use Rattle.ipc_schema_write.specs.WriterAnswers.{written_head_as}
use Rattle.ipc_write.specs.Agreement.{Agrees, GrowsBy}
use Rattle.ipc_write.specs.Calls.{AreMade, HandsIds, IsMade, call_seen, ended_as, outcome, state_seen, writer_in}
use Rattle.ipc_write.specs.Writers.{StateComesFirst, WriterSeen, chosen_ids, fault_unless_new, fault_unless_started}
use Rattle.ipc_write.specs.declared.calls.StreamCall.{StreamCall}
use Rattle.ipc_write.specs.declared.calls.StreamCall.TheVariants.{Start, Write, Finish}
use Rattle.ipc_write.specs.declared.stream.WriterState.{WriterState}
use Rattle.ipc_write.specs.declared.stream.WriterState.TheVariants.{New, Started, Finished, Failed}

-- What holds whatever the result is.
pub on_err : {X E : Type 0} (r : Result X E) (P : Type 0) → P → OnErr r P
on_err (Ok x) P p = tt
on_err (Err e) P p = p

-- ---- states

-- Only the `start` of a new writer reaches the device, and only the
-- `write` or `finish` of a started one.
was_new : {W : Type 0} (s : WriterState) (a b : WriterSeen W) (x : _) → StateComesFirst (fault_unless_new s) a (Err (Io x)) b → s ≡ New
was_new New a b x h = refl
was_new Started a b x h = let other = h.0 in absurd cc
was_new Finished a b x h = let other = h.0 in absurd cc
was_new Failed a b x h = let other = h.0 in absurd cc

was_started : {W : Type 0} (s : WriterState) (a b : WriterSeen W) (x : _) → StateComesFirst (fault_unless_started s) a (Err (Io x)) b → s ≡ Started
was_started New a b x h = let other = h.0 in absurd cc
was_started Started a b x h = refl
was_started Finished a b x h = let other = h.0 in absurd cc
was_started Failed a b x h = let other = h.0 in absurd cc

module _ {W : Type 0} (d : Device W) (fs : FieldTrees) (es : Pairs) (is : IdTrees) where
  abbrev Made : WriterSeen W → StreamCall → Result (Unit {0}) Fault → WriterSeen W → Type 0
  Made = IsMade d fs es is

  abbrev AllMade : WriterSeen W → List StreamCall → List (Result (Unit {0}) Fault) → WriterSeen W → Type 0
  AllMade = AreMade d fs es is

  abbrev head : Endianness → Head
  head o = written_head_as o fs es is

  -- No call changes the byte order.
  order_stays : (a b : WriterSeen W) (call : StreamCall) (r : Result (Unit {0}) Fault) → Made a call r b → b.order ≡ a.order
  order_stays a b Start r h = h.device.step.order
  order_stays a b (Write chunk) r h = h.device.step.order
  order_stays a b Finish r h = h.device.order

  -- How a call changes the state.
  moves : (a b : WriterSeen W) (call : StreamCall) (r : Result (Unit {0}) Fault) → Made a call r b
      → MayEnd (call_seen call) (outcome r) (state_seen a.state) × (state_seen b.state ≡ state_after (call_seen call) (outcome r) (state_seen a.state))
  moves a b Start (Ok x) h = (ap state_seen h.state.ok.was, ap state_seen h.state.ok.is)
  moves a b Start (Err (Io e)) h = (ap state_seen (was_new a.state a b e h.state.first), ap state_seen h.device.step.io.0)
  moves a b Start (Err _) h = (tt, ap state_seen h.device.step.refused.state)
  moves a b (Write chunk) (Ok x) h = (ap state_seen h.state.ok.was, ap state_seen h.state.ok.is)
  moves a b (Write chunk) (Err (Io e)) h = (ap state_seen (was_started a.state a b e h.state.first), ap state_seen h.device.step.io.0)
  moves a b (Write chunk) (Err _) h = (tt, ap state_seen h.device.step.refused.state)
  moves a b Finish (Ok x) h = (ap state_seen h.state.ok.0, ap state_seen h.state.ok.1)
  moves a b Finish (Err (Io e)) h = (ap state_seen (was_started a.state a b e h.state.first), ap state_seen h.device.io.0)
  moves a b Finish (Err _) h = (tt, ap state_seen h.device.refused.state)

  pub made_run : (a b : WriterSeen W) (calls : List StreamCall) (rs : List (Result (Unit {0}) Fault)) → AllMade a calls rs b → IsRun (writer_in a.order (state_seen a.state)) (ended_as calls rs) (writer_in b.order (state_seen b.state))
  made_run a b [] [] h = ap (λ (w : WriterSeen W). writer_in w.order (state_seen w.state)) (sym h)
  made_run a b [] (r ∷ rs) h = absurd h
  made_run a b (call ∷ calls) [] h = absurd h
  made_run a b (call ∷ calls) (r ∷ rs) h =
      let moved = moves a h.0 call r h.1.0 in
      let rest = subst (λ s. IsRun (writer_in h.0.order s) (ended_as calls rs) (writer_in b.order (state_seen b.state))) moved.1 (made_run h.0 b calls rs h.1.1) in
      (moved.0, subst (λ (o : Endianness). IsRun (writer_in o (state_after (call_seen call) (outcome r) (state_seen a.state))) (ended_as calls rs) (writer_in b.order (state_seen b.state))) (order_stays a h.0 call r h.1.0) rest)

  pub made_order : (a b : WriterSeen W) (calls : List StreamCall) (rs : List (Result (Unit {0}) Fault)) → AllMade a calls rs b → b.order ≡ a.order
  made_order a b [] [] h = ap (λ (w : WriterSeen W). w.order) h
  made_order a b [] (r ∷ rs) h = absurd h
  made_order a b (call ∷ calls) [] h = absurd h
  made_order a b (call ∷ calls) (r ∷ rs) h = made_order h.0 b calls rs h.1.1 ∙ order_stays a h.0 call r h.1.0

  -- ---- chunks

  -- a call that adds nothing
  adds_none : (b : WriterSeen W) (base : List ℕ) (o : Endianness) (chunks : List Chunk) → Agrees d b base (head o) chunks → Agrees d b base (head o) (chunks ++ [])
  adds_none b base o chunks h = subst (λ (cs : List Chunk). Agrees d b base (head o) cs) (sym (append-nil chunks)) h

  follows_one : (a b : WriterSeen W) (call : StreamCall) (r : Result (Unit {0}) Fault) → Made a call r b → GrowsBy d a b (head a.order) (taken (answered ((call_seen call, outcome r) ∷ [])))
  follows_one a b Start (Ok x) h = record { followed = λ k base chunks at. adds_none b base a.order chunks (h.content.begun k base chunks at) }
  follows_one a b Start (Err (Io e)) h = record { followed = λ k base chunks at. adds_none b base a.order chunks (h.content.kept k base (head a.order) chunks at) }
  follows_one a b Start (Err _) h = record { followed = λ k base chunks at. adds_none b base a.order chunks (h.content.kept k base (head a.order) chunks at) }
  follows_one a b (Write chunk) (Ok x) h = record { followed = λ k base chunks at. h.content.appended k base (head a.order) chunks at }
  follows_one a b (Write chunk) (Err (Io e)) h = record { followed = λ k base chunks at. adds_none b base a.order chunks (h.content.kept k base (head a.order) chunks at) }
  follows_one a b (Write chunk) (Err _) h = record { followed = λ k base chunks at. adds_none b base a.order chunks (h.content.kept k base (head a.order) chunks at) }
  follows_one a b Finish (Ok x) h = record { followed = λ k base chunks at. adds_none b base a.order chunks (h.content.kept k base (head a.order) chunks at) }
  follows_one a b Finish (Err (Io e)) h = record { followed = λ k base chunks at. adds_none b base a.order chunks (h.content.kept k base (head a.order) chunks at) }
  follows_one a b Finish (Err _) h = record { followed = λ k base chunks at. adds_none b base a.order chunks (h.content.kept k base (head a.order) chunks at) }

  taken_first : (call : Call) (ok : Bool) (ps : List (Call × Bool)) → taken ((call, ok) ∷ []) ++ taken ps ≡ taken ((call, ok) ∷ ps)
  taken_first call true ps = ap (λ cs. cs ++ taken ps) (append-nil (added_by call))
  taken_first call false ps = refl

  pub made_follow : (a b : WriterSeen W) (calls : List StreamCall) (rs : List (Result (Unit {0}) Fault)) → AllMade a calls rs b → GrowsBy d a b (head a.order) (taken (answered (ended_as calls rs)))
  made_follow a b [] [] h = record { followed = λ k base chunks at. subst (λ (w : WriterSeen W). Agrees d w base (head a.order) (chunks ++ [])) (sym h) (adds_none a base a.order chunks at) }
  made_follow a b [] (r ∷ rs) h = absurd h
  made_follow a b (call ∷ calls) [] h = absurd h
  made_follow a b (call ∷ calls) (r ∷ rs) h =
      let one = follows_one a h.0 call r h.1.0 in
      let rest_follows : GrowsBy d h.0 b (head a.order) (taken (answered (ended_as calls rs))) =
      subst (λ (o : Endianness). GrowsBy d h.0 b (head o) (taken (answered (ended_as calls rs)))) (order_stays a h.0 call r h.1.0) (made_follow h.0 b calls rs h.1.1) in
      let first = taken (answered ((call_seen call, outcome r) ∷ [])) in
      let rest = taken (answered (ended_as calls rs)) in
      let all : first ++ rest ≡ taken (answered (ended_as (call ∷ calls) (r ∷ rs))) = taken_first (call_seen call) _ (answered (ended_as calls rs)) in
      record {
        followed = λ k base chunks at.
            let joined : (chunks ++ first) ++ rest ≡ chunks ++ taken (answered (ended_as (call ∷ calls) (r ∷ rs))) = append_assoc chunks first rest ∙ ap (λ cs. chunks ++ cs) all in
            subst (λ (cs : List Chunk). Agrees d b base (head a.order) cs) joined (rest_follows.followed k base (chunks ++ first) (one.followed k base chunks at));
      }

  -- ---- one call more

  pub made_more : (a m b : WriterSeen W) (calls : List StreamCall) (rs : List (Result (Unit {0}) Fault)) (call : StreamCall) (r : Result (Unit {0}) Fault) → AllMade a calls rs m → Made m call r b
      → AllMade a (calls ++ call ∷ []) (rs ++ r ∷ []) b
  made_more a m b [] [] call r h last = (b, (subst (λ (w : WriterSeen W). Made w call r b) h last, refl))
  made_more a m b [] (x ∷ rs) call r h last = absurd h
  made_more a m b (c ∷ calls) [] call r h last = absurd h
  made_more a m b (c ∷ calls) (x ∷ rs) call r h last = (h.0, (h.1.0, made_more h.0 m b calls rs call r h.1.1 last))

-- A call with the ids that it was passed is one with those that are chosen.
pub made_with : {W : Type 0} (d : Device W) (fs : FieldTrees) (es : Pairs) (all handed : Option (Vec IpcField Global)) (a b : WriterSeen W) (call : StreamCall)
    (r : Result (Unit {0}) Fault) → HandsIds call all handed → IsMade d fs es (chosen_ids handed fs) a call r b → IsMade d fs es (chosen_ids all fs) a call r b
made_with d fs es all handed a b Start r same h =
    subst (λ (is : IdTrees). IsMade d fs es is a Start r b) (same fs) h
made_with d fs es all handed a b (Write chunk) r same h = h
made_with d fs es all handed a b Finish r same h = h
