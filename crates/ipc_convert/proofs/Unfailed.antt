-- If chunks were read, or a whole stream was, no call of the device failed.
use Rattle.std.proofs.Common.{◌≡◌, ℕ, Bool, true, false, List, [], ◌∷◌, Result, Ok, OnOk, refl, ap, subst, ◌∙◌}
use Rattle.ipc_devices.specs.Gives.{Fails, Gives, GivesFails, Stop, going}
use Rattle.ipc_devices.specs.declared.fault.Fault.{Fault}
use Rattle.ipc_model.specs.Batches.{Chunk}
use Rattle.ipc_model.specs.Streams.{End, faulty, marked, waits}
use Rattle.ipc_model.specs.WholeStreams.{Stream}
use Rattle.ipc_readers.specs.Metadata.{MetadataGave}
use Rattle.ipc_readers.specs.Streams.{IsUnread, device_of, is_over}
use Rattle.ipc_readers.specs.declared.read.stream.metadata.StreamMetadata.{StreamMetadata}
use Rattle.ipc_readers.specs.declared.read.stream.reader.StreamReader.{StreamReader}
use Rattle.ipc_convert.specs.Copies.{TakenToEnd, TakesStream}
use Rattle.ipc_convert.specs.Sources.{CameOn, EndedSo, is_end, last_stop}
use Rattle.ipc_convert.specs.declared.chunks.Ending.{Ending}

-- ---- the schema of a stream

pub front_unfailed : {R : Type 0} (gives : Gives R) (failures : R → ℕ) → GivesFails gives failures → (input device : R) (m : StreamMetadata) (r : StreamReader R) → MetadataGave gives input (Ok m) device
    → IsUnread device m r → failures (device_of r) ≡ failures input
front_unfailed gives failures law input device m r front begins =
    let same : Fails going (failures input) (failures device) = subst (λ (s : Stop). Fails s (failures input) (failures device)) front.stops (law input front.run.bytes front.stop device front.run.gave) in
    ap failures begins.reader ∙ same

-- ---- a stream, chunk by chunk

module _ {R : Type 0} (gives : Gives R) (failures : R → ℕ) (law : GivesFails gives failures) (a b : StreamReader R) where
  one_came : (o : Bool) (c : Chunk) → is_over a ≡ o → CameOn gives a (c ∷ []) b → failures (device_of b) ≡ failures (device_of a)
  one_came true c is h = let none : c ∷ [] ≡ [] = (h.over is).0 in absurd cc
  one_came false c is h = let one = h.gave is in law (device_of a) one.bytes going (device_of b) one.gave

  pub came_unfailed : (c : Chunk) → CameOn gives a (c ∷ []) b → failures (device_of b) ≡ failures (device_of a)
  came_unfailed c h = one_came (is_over a) c refl h

  at_last : (over : Bool) (old new : ℕ) → Fails (last_stop over) old new → new ≡ old
  at_last true old new h = h
  at_last false old new h = h

  one_ended : (o : Bool) (ending : Ending) → is_over a ≡ o → EndedSo gives a ending b → failures (device_of b) ≡ failures (device_of a)
  one_ended true ending is h = ap failures (h.over is).1
  one_ended false ending is h =
      let none = h.gave is in
      at_last (is_end ending) (failures (device_of a)) (failures (device_of b)) (law (device_of a) none.bytes (last_stop (is_end ending)) (device_of b) none.gave)

  pub ended_unfailed : (ending : Ending) → EndedSo gives a ending b → failures (device_of b) ≡ failures (device_of a)
  ended_unfailed ending h = one_ended (is_over a) ending refl h

-- ---- a whole stream

taken_unfailed : (end : End) (stream : Stream) (bytes : List ℕ) (stop : Stop) (old new : ℕ) → TakenToEnd end stream bytes stop → Fails stop old new → new ≡ old
taken_unfailed marked stream bytes stop old new whole h = subst (λ (s : Stop). Fails s old new) whole.1 h
taken_unfailed (waits known begun) stream bytes stop old new whole h = subst (λ (s : Stop). Fails s old new) whole h
taken_unfailed faulty stream bytes stop old new whole h = absurd whole

pub takes_unfailed : {R : Type 0} (gives : Gives R) (failures : R → ℕ) → GivesFails gives failures → (a b : R) → TakesStream gives a b → failures b ≡ failures a
takes_unfailed gives failures law a b h =
    taken_unfailed h.stream.meant.end h.stream h.bytes h.stop (failures a) (failures b) h.whole (law a h.bytes h.stop b h.gave)

-- ---- from call to call

-- What stays in five states of a device that is passed on and returned.
pub stays_handed : {W X : Type 0} (part : W → X) (first u v w x last : W) → u ≡ first → part v ≡ part u → part w ≡ part v → part x ≡ part w → last ≡ x → part last ≡ part first
stays_handed part first u v w x last begins one two three ends = ap part ends ∙ three ∙ two ∙ one ∙ ap part begins

-- what holds of a copy that was Ok
pub where_ok : (P : Type 0) (copied : Result Ending Fault) (ending : Ending) → copied ≡ Ok ending → OnOk copied P → P
where_ok P copied ending is h = subst (λ (r : Result Ending Fault). OnOk r P) is h
