-- What the end of a session leaves.
use Rattle.std.proofs.Common.{◌≡◌, ℕ, ◌-◌, ◌≤◌, Bool, IsTrue, List, [], ◌++◌, length, take, Result, Ok, Err, OnOk, refl, sym, ap, ◌∙◌, subst, arith, append-nil, length-drop, length-take-le}
use Rattle.std.proofs.lemmas.List.{take_all}
use Rattle.lower_arrays.specs.declared.array.AnyArray.{AnyArray}
use Rattle.ipc_devices.specs.Device.{Device, Memory, before}
use Rattle.ipc_devices.specs.declared.fault.Fault.{Fault}
use Rattle.ipc_model.specs.Batches.{Chunk}
use Rattle.ipc_model.specs.Streams.{Head}
use Rattle.ipc_write.specs.declared.stream.WriterState.TheVariants.{Finished, Started}
use Rattle.ipc_file_write.specs.AppendLaws.{NoMore, Onward}
use Rattle.ipc_file_write.specs.Api.{FinishesFile}
use Rattle.ipc_file_write.specs.FileWriters.{EndsWith, FileSeen, HoldsBytes, IsOpenFile, IsWholeFile, ReachesEnd, Remains, SendsEnding, head_of_file}
use Rattle.ipc_file_write.proofs.Elsewhere.{over, whole_over}
use Rattle.ipc_file_write.proofs.FileStates.{at_state}
use Rattle.ipc_file_write.proofs.Onward.{onward_both}
use Rattle.ipc_sessions.specs.Sessions.{IsEndedFile, taken_of}
use Rattle.ipc_sessions.specs.Steps.{AreWritten, EndsSession, Leaves, TakesChunks}
use Rattle.ipc_sessions.proofs.Writes.{done_all, no_more_step, onward_step, takes_all}

-- ---- there is nothing after the end

-- The bytes before an offset that is inside.
pub front_before : (m : Memory) → m.place ≤ length m.whole → before m ≡ take m.place m.whole
front_before m inside =
    let none : m.place - length m.whole ≡ 0 = omega (arith, inside) in
    rw none (append-nil (take m.place m.whole))

all-before : (m : Memory) (bytes : List ℕ) (size : ℕ) → m.place ≤ length m.whole → before m ≡ bytes → NoMore m size → size ≤ m.place → m.whole ≡ bytes
all-before m bytes size inside held more reached =
    let all : length m.whole ≤ m.place = omega (arith, more, reached, length-drop m.place m.whole) in
    sym (take_all m.place m.whole all) ∙ sym (front_before m inside) ∙ held

length-before : (m : Memory) (bytes : List ℕ) → m.place ≤ length m.whole → before m ≡ bytes → m.place ≡ length bytes
length-before m bytes inside held = omega (arith, ap length (sym (front_before m inside) ∙ held), length-take-le m.place m.whole inside)

-- ---- a session

module _ {W : Type 0} (d : Device W) (a b c : FileSeen W) (cs : List Chunk) (took : TakesChunks d a b cs) where
  onward-all : (r : Result (Unit {0}) Fault) → SendsEnding d b r c → IsTrue d.is_memory → (d.memory a.device).place ≤ length (d.memory a.device).whole → Onward (d.memory a.device) (d.memory c.device)
  onward-all r sent k inside =
      let first = took.onward k inside in
      onward_both (d.memory a.device) (d.memory b.device) (d.memory c.device) first (onward_step d b c r sent.bytes sent.step k first.there)

  module _ (r : Result (Unit {0}) Fault) (sent : SendsEnding d b r c) (ends : EndsWith b c) (reaches : ReachesEnd d b c) (remains : Remains d b c) (k : IsTrue d.is_memory) (is_stream : Bool) (then : List Chunk)
      (h : HoldsBytes is_stream (d.memory a.device) a [] then) (inside : (d.memory a.device).place ≤ length (d.memory a.device).whole) (more : NoMore (d.memory a.device) a.size) where
    ended : IsEndedFile is_stream (d.memory c.device).whole (head_of_file a).schema a.pairs (then ++ cs)
    ended =
        let first = took.onward k inside in
        let second = onward_step d b c r sent.bytes sent.step k first.there in
        let held = took.holds k is_stream [] then h in
        let kept = remains.kept k is_stream [] (then ++ cs) held in
        let opened : IsOpenFile is_stream b held.bytes (then ++ cs) = at_state is_stream b.state Started b held.bytes (then ++ cs) ends.was held.file in
        let whole : IsWholeFile is_stream c kept.bytes (then ++ cs) = at_state is_stream c.state Finished c kept.bytes (then ++ cs) ends.is kept.file in
        let at : b.place ≤ (d.memory b.device).place = omega (arith, opened.place, length-before (d.memory b.device) held.bytes first.there held.held) in
        let reached = reaches.reaches k at in
        let left = no_more_step d b c r sent.bytes sent.step k a.size (took.more k a.size more) in
        let all : (d.memory c.device).whole ≡ kept.bytes = all-before (d.memory c.device) kept.bytes a.size second.there kept.held left (omega (arith, reached, took.same.size)) in
        let same = sent.step.same in
        let head : head_of_file c ≡ head_of_file b = rw (same.order, same.fields, same.metadata, ends.ids) refl in
        let head_then : head_of_file b ≡ head_of_file a = rw (took.same.order, took.same.fields, took.same.metadata, took.ids ends.was) refl in
        record {
          writer = over tt c;
          whole = whole_over c tt is_stream (d.memory c.device).whole (then ++ cs) (subst (λ (xs : List ℕ). IsWholeFile is_stream c xs (then ++ cs)) (sym all) whole);
          schema_is = ap (λ (x : Head). x.schema) (head ∙ head_then);
          pairs_are = ends.pairs ∙ took.same.pairs;
        }

  pub session_leaves : (r : Result (Unit {0}) Fault) → SendsEnding d b r c → OnOk r (EndsWith b c) → OnOk r (ReachesEnd d b c) → Remains d b c → Leaves d a c.device r cs
  session_leaves (Ok x) sent ends reaches remains = record {
    onward = λ k inside. onward-all (Ok x) sent k inside;
    ended = λ k is_stream then h inside more. ended (Ok x) sent ends reaches remains k is_stream then h inside more;
  }
  session_leaves (Err e) sent ends reaches remains = record { onward = λ k inside. onward-all (Err e) sent k inside; ended = λ k. tt }

-- No call of a device failed, after others that didn't.
pub done_from : {W : Type 0} (failures : W → ℕ) (r : Result (Unit {0}) Fault) (left mid first : W) → OnOk r (failures left ≡ failures mid) → failures mid ≡ failures first → OnOk r (failures left ≡ failures first)
done_from failures (Ok x) left mid first e f = e ∙ f
done_from failures (Err x) left mid first e f = tt

session_done : {W : Type 0} (d : Device W) (a b c : FileSeen W) (r : Result (Unit {0}) Fault) → (b.state ≡ Started → d.failures b.device ≡ d.failures a.device)
    → SendsEnding d b r c → OnOk r (EndsWith b c) → OnOk r (d.failures c.device ≡ d.failures a.device)
session_done d a b c (Ok x) before sent ends = sent.step.done ∙ before ends.was
session_done d a b c (Err e) before sent ends = tt

pub ends_session : {W : Type 0} (d : Device W) (a b c : FileSeen W) (chunks : List (List AnyArray)) (answers : List (Result (Unit {0}) Fault)) (r : Result (Unit {0}) Fault)
    → AreWritten d a chunks answers b → FinishesFile d b r c → EndsSession d a chunks answers r c.device
ends_session d a b c chunks answers r writes does = record {
  last = b;
  writes = writes;
  finished = c;
  ends = does;
  left_is = refl;
  leaves = session_leaves d a b c (taken_of chunks answers) (takes_all d a b chunks answers writes) r does.device does.state.ok does.bounds does.content;
  done = session_done d a b c r (done_all d a b chunks answers writes) does.device does.state.ok;
  names = does.device.step.names ∙ (takes_all d a b chunks answers writes).names;
  flushed = does.device.flushed;
}
