-- What the calls of a stream writer do, one after the other.
use Rattle.std.proofs.Common.{◌≡◌, ℕ, Bool, true, false, List, [], ◌∷◌, ◌++◌, Result, Ok, Err, refl, sym, ap, ◌∙◌, subst, append_assoc, append-nil}
use Rattle.std.specs.Prelude.{Option, None, Some, Vec, option_map}
use Rattle.std.specs.declared.alloc.Global.{Global}
use Rattle.lower.specs.TypeTrees.{FieldTrees, Pairs}
use Rattle.lower_types.specs.declared.Endianness.{Endianness}
use Rattle.ipc_base.specs.IdTrees.{IdTrees, all_ids_view}
use Rattle.ipc_base.specs.declared.ipc.IpcField.{IpcField}
use Rattle.ipc_devices.specs.declared.fault.Fault.{Fault}
use Rattle.ipc_devices.specs.declared.fault.Fault.TheVariants.{Io}
use Rattle.ipc_model.specs.Batches.{Chunk}
use Rattle.ipc_model.specs.Streams.{Head}
use Rattle.ipc_model.specs.WriterStates.{IsRun, MayEnd, Outcome, State, answered, state_after, was_taken}
use Rattle.ipc_model.specs.Writers.{Call, added_by, taken}
use Rattle.ipc_write.specs.Agreement.{Agrees, StreamIs}
use Rattle.ipc_write.specs.Api.{StartsStream}
use Rattle.ipc_write.specs.Calls.{outcome, state_seen, writer_in}
use Rattle.ipc_write.specs.Writers.{StateComesFirst, WriterSeen, chosen_ids, fault_unless_new, fault_unless_started}
use Rattle.ipc_write.specs.declared.stream.WriterState.{WriterState}
use Rattle.ipc_write.specs.declared.stream.WriterState.TheVariants.{New, Started, Finished, Failed}
use Rattle.ipc_calls.specs.StreamCalls.{AreMade, IsMade, LeadsTo, call_seen, ended_as, head_after, head_begun, head_left, ids_for}
use Rattle.ipc_calls.specs.declared.streams.WriterCall.{WriterCall}
use Rattle.ipc_calls.specs.declared.streams.WriterCall.TheVariants.{Start, Write, Finish}
use Rattle.ipc_devices.specs.Device.{Device}

-- ---- ids

-- The ids of a stream are those that are passed, or the default ones.
chosen_is : (copy : Option (Vec IpcField Global)) (fs : FieldTrees) → chosen_ids copy fs ≡ ids_for (option_map (λ (v : Vec IpcField Global). all_ids_view v.items) copy) fs
chosen_is None fs = refl
chosen_is (Some given) fs = refl

-- A `start` with a copy of some ids is one with these ids.
pub start_as : {W : Type 0} (d : Device W) (a b : WriterSeen W) (fs : FieldTrees) (es : Pairs) (ids : Option IdTrees) (copy : Option (Vec IpcField Global))
    (r : Result (Unit {0}) Fault) → option_map (λ (v : Vec IpcField Global). all_ids_view v.items) copy ≡ ids → StartsStream d a fs es (chosen_ids copy fs) r b
    → StartsStream d a fs es (ids_for ids fs) r b
start_as d a b fs es ids copy r same h =
    let are : chosen_ids copy fs ≡ ids_for ids fs = chosen_is copy fs ∙ ap (λ (is : Option IdTrees). ids_for is fs) same in
    subst (λ (is : IdTrees). StartsStream d a fs es is r b) are h

-- ---- states

-- Only the `start` of a new writer reaches the device, and only the
-- `write` or `finish` of a started one.
was_new : {W : Type 0} (s : WriterState) (a b : WriterSeen W) (x : _) → StateComesFirst (fault_unless_new s) a (Err (Io x)) b → s ≡ New
was_new New a b x h = refl
was_new Started a b x h = let other = h.0 in absurd cc
was_new Finished a b x h = let other = h.0 in absurd cc
was_new Failed a b x h = let other = h.0 in absurd cc

was_started : {W : Type 0} (s : WriterState) (a b : WriterSeen W) (x : _) → StateComesFirst (fault_unless_started s) a (Err (Io x)) b → s ≡ Started
was_started New a b x h = let other = h.0 in absurd cc
was_started Started a b x h = refl
was_started Finished a b x h = let other = h.0 in absurd cc
was_started Failed a b x h = let other = h.0 in absurd cc

-- ---- heads

-- A stream of which nothing was written agrees with any head.
other_head : {W : Type 0} (s : WriterState) (w : WriterSeen W) (bytes : List ℕ) (g h : Head) (chunks : List Chunk) → s ≡ New → StreamIs s w bytes g chunks → StreamIs s w bytes h chunks
other_head New w bytes g h chunks e stream = stream
other_head Started w bytes g h chunks e stream = absurd cc
other_head Finished w bytes g h chunks e stream = absurd cc
other_head Failed w bytes g h chunks e stream = absurd cc

under_head : {W : Type 0} (d : Device W) (a : WriterSeen W) (base : List ℕ) (g h : Head) (chunks : List Chunk) → a.state ≡ New → Agrees d a base g chunks → Agrees d a base h chunks
under_head d a base g h chunks new at = record { bytes = at.bytes; held = at.held; stream = other_head a.state a at.bytes g h chunks new at.stream }

-- ---- chunks

taken_first : (call : Call) (ok : Bool) (ps : List (Call × Bool)) → taken ((call, ok) ∷ []) ++ taken ps ≡ taken ((call, ok) ∷ ps)
taken_first call true ps = ap (λ (cs : List Chunk). cs ++ taken ps) (append-nil (added_by call))
taken_first call false ps = refl

-- a call that adds nothing
adds_none : {W : Type 0} (d : Device W) (b : WriterSeen W) (base : List ℕ) (h : Head) (chunks : List Chunk) → Agrees d b base h chunks → Agrees d b base h (chunks ++ [])
adds_none d b base h chunks at = subst (λ (cs : List Chunk). Agrees d b base h cs) (sym (append-nil chunks)) at

-- One call, and others after it.
leads_then : {W : Type 0} (d : Device W) (a m b : WriterSeen W) (first left : Head → Head) (call : Call) (o : Outcome) (rest : List (Call × Outcome))
    → LeadsTo d a m first (taken (answered ((call, o) ∷ []))) → LeadsTo d m b left (taken (answered rest))
    → LeadsTo d a b (λ (h : Head). left (first h)) (taken (answered ((call, o) ∷ rest)))
leads_then d a m b first left call o rest one others =
    let own = taken (answered ((call, o) ∷ [])) in
    let more = taken (answered rest) in
    let all : own ++ more ≡ taken (answered ((call, o) ∷ rest)) = taken_first call (was_taken o) (answered rest) in
    record {
      followed = λ k base head chunks at.
          let joined : (chunks ++ own) ++ more ≡ chunks ++ taken (answered ((call, o) ∷ rest)) = append_assoc chunks own more ∙ ap (λ (cs : List Chunk). chunks ++ cs) all in
          subst (λ (cs : List Chunk). Agrees d b base (left (first head)) cs) joined (others.followed k base (first head) (chunks ++ own) (one.followed k base head chunks at));
    }

module _ {W : Type 0} (d : Device W) where
  abbrev Made : WriterSeen W → WriterCall → Result (Unit {0}) Fault → WriterSeen W → Type 0
  Made = IsMade d

  abbrev AllMade : WriterSeen W → List WriterCall → List (Result (Unit {0}) Fault) → WriterSeen W → Type 0
  AllMade = AreMade d

  -- No call changes the byte order.
  order_stays : (a b : WriterSeen W) (call : WriterCall) (r : Result (Unit {0}) Fault) → Made a call r b → b.order ≡ a.order
  order_stays a b (Start schema ids) r h = h.device.step.order
  order_stays a b (Write chunk ids) r h = h.device.step.order
  order_stays a b Finish r h = h.device.order

  -- How a call changes the state.
  moves : (a b : WriterSeen W) (call : WriterCall) (r : Result (Unit {0}) Fault) → Made a call r b
      → MayEnd (call_seen call) (outcome r) (state_seen a.state) × (state_seen b.state ≡ state_after (call_seen call) (outcome r) (state_seen a.state))
  moves a b (Start schema ids) (Ok x) h = (ap state_seen h.state.ok.was, ap state_seen h.state.ok.is)
  moves a b (Start schema ids) (Err (Io e)) h = (ap state_seen (was_new a.state a b e h.state.first), ap state_seen h.device.step.io.0)
  moves a b (Start schema ids) (Err _) h = (tt, ap state_seen h.device.step.refused.state)
  moves a b (Write chunk ids) (Ok x) h = (ap state_seen h.state.ok.was, ap state_seen h.state.ok.is)
  moves a b (Write chunk ids) (Err (Io e)) h = (ap state_seen (was_started a.state a b e h.state.first), ap state_seen h.device.step.io.0)
  moves a b (Write chunk ids) (Err _) h = (tt, ap state_seen h.device.step.refused.state)
  moves a b Finish (Ok x) h = (ap state_seen h.state.ok.0, ap state_seen h.state.ok.1)
  moves a b Finish (Err (Io e)) h = (ap state_seen (was_started a.state a b e h.state.first), ap state_seen h.device.io.0)
  moves a b Finish (Err _) h = (tt, ap state_seen h.device.refused.state)

  pub made_run : (a b : WriterSeen W) (calls : List WriterCall) (rs : List (Result (Unit {0}) Fault)) → AllMade a calls rs b
      → IsRun (writer_in a.order (state_seen a.state)) (ended_as calls rs) (writer_in b.order (state_seen b.state))
  made_run a b [] [] h = ap (λ (w : WriterSeen W). writer_in w.order (state_seen w.state)) (sym h)
  made_run a b [] (r ∷ rs) h = absurd h
  made_run a b (call ∷ calls) [] h = absurd h
  made_run a b (call ∷ calls) (r ∷ rs) h =
      let moved = moves a h.0 call r h.1.0 in
      let rest = subst (λ (s : State). IsRun (writer_in h.0.order s) (ended_as calls rs) (writer_in b.order (state_seen b.state))) moved.1 (made_run h.0 b calls rs h.1.1) in
      (moved.0, subst (λ (o : Endianness). IsRun (writer_in o (state_after (call_seen call) (outcome r) (state_seen a.state))) (ended_as calls rs) (writer_in b.order (state_seen b.state))) (order_stays a h.0 call r h.1.0) rest)

  -- ---- what a call adds, and to which head

  leads_one : (a b : WriterSeen W) (call : WriterCall) (r : Result (Unit {0}) Fault) → Made a call r b
      → LeadsTo d a b (λ (h : Head). head_after a.order call r h) (taken (answered ((call_seen call, outcome r) ∷ [])))
  leads_one a b (Start schema ids) (Ok x) h = record {
    followed = λ k base head chunks at.
        let begun = head_begun a.order schema ids in
        adds_none d b base begun chunks (h.content.begun k base chunks (under_head d a base head begun chunks h.state.ok.was at));
  }
  leads_one a b (Start schema ids) (Err (Io e)) h = record { followed = λ k base head chunks at. adds_none d b base head chunks (h.content.kept k base head chunks at) }
  leads_one a b (Start schema ids) (Err _) h = record { followed = λ k base head chunks at. adds_none d b base head chunks (h.content.kept k base head chunks at) }
  leads_one a b (Write chunk ids) (Ok x) h = record { followed = λ k base head chunks at. h.content.appended k base head chunks at }
  leads_one a b (Write chunk ids) (Err (Io e)) h = record { followed = λ k base head chunks at. adds_none d b base head chunks (h.content.kept k base head chunks at) }
  leads_one a b (Write chunk ids) (Err _) h = record { followed = λ k base head chunks at. adds_none d b base head chunks (h.content.kept k base head chunks at) }
  leads_one a b Finish (Ok x) h = record { followed = λ k base head chunks at. adds_none d b base head chunks (h.content.kept k base head chunks at) }
  leads_one a b Finish (Err (Io e)) h = record { followed = λ k base head chunks at. adds_none d b base head chunks (h.content.kept k base head chunks at) }
  leads_one a b Finish (Err _) h = record { followed = λ k base head chunks at. adds_none d b base head chunks (h.content.kept k base head chunks at) }

  pub made_lead : (a b : WriterSeen W) (calls : List WriterCall) (rs : List (Result (Unit {0}) Fault)) → AllMade a calls rs b
      → LeadsTo d a b (λ (h : Head). head_left a.order calls rs h) (taken (answered (ended_as calls rs)))
  made_lead a b [] [] h = record { followed = λ k base head chunks at. subst (λ (w : WriterSeen W). Agrees d w base head (chunks ++ [])) (sym h) (adds_none d a base head chunks at) }
  made_lead a b [] (r ∷ rs) h = absurd h
  made_lead a b (call ∷ calls) [] h = absurd h
  made_lead a b (call ∷ calls) (r ∷ rs) h =
      let rest : LeadsTo d h.0 b (λ (g : Head). head_left a.order calls rs g) (taken (answered (ended_as calls rs))) =
      subst (λ (o : Endianness). LeadsTo d h.0 b (λ (g : Head). head_left o calls rs g) (taken (answered (ended_as calls rs)))) (order_stays a h.0 call r h.1.0) (made_lead h.0 b calls rs h.1.1) in
      leads_then d a h.0 b (λ (g : Head). head_after a.order call r g) (λ (g : Head). head_left a.order calls rs g) (call_seen call) (outcome r) (ended_as calls rs) (leads_one a h.0 call r h.1.0) rest

  -- ---- one call more

  pub made_more : (a m b : WriterSeen W) (calls : List WriterCall) (rs : List (Result (Unit {0}) Fault)) (call : WriterCall) (r : Result (Unit {0}) Fault) → AllMade a calls rs m → Made m call r b
      → AllMade a (calls ++ call ∷ []) (rs ++ r ∷ []) b
  made_more a m b [] [] call r h last = (b, (subst (λ (w : WriterSeen W). Made w call r b) h last, refl))
  made_more a m b [] (x ∷ rs) call r h last = absurd h
  made_more a m b (c ∷ calls) [] call r h last = absurd h
  made_more a m b (c ∷ calls) (x ∷ rs) call r h last = (h.0, (h.1.0, made_more h.0 m b calls rs call r h.1.1 last))
