-- Of memory: the bytes that were read were ahead. Of any device: which calls failed.
use Rattle.std.proofs.Common.{◌≡◌, ℕ, zero, suc, ◌≤◌, List, [], ◌++◌, length, Option, None, Result, Ok, Err, Bool, IsTrue, true, false, refl, arith, ap, sym, subst}
use Rattle.ipc_devices.specs.Device.{Device, Memory, Rises, after}
use Rattle.ipc_devices.specs.Faults.{OnIo}
use Rattle.ipc_devices.specs.Gives.{Stop, going, ended, failed, AnswerStop, Fails, Gives, GivesAhead, GivesFails}
use Rattle.ipc_devices.specs.declared.fault.Fault.{Fault}
use Rattle.ipc_devices.specs.declared.fault.Fault.TheVariants as Faults
use Rattle.ipc_devices.specs.declared.fault.Fault.TheVariants.{Ended, Schema as BadSchema}
use Rattle.ipc_devices.specs.declared.fault.SchemaFault.TheVariants.{NotASchema}
use Rattle.ipc_devices.proofs.Gave.{to_memory}
use Rattle.ipc_devices.proofs.Stops.{answer_risen, fault_risen, not_below, nothing_claimed}
use Rattle.ipc_model.specs.Frame.{Frame, message, mark, waiting, broken, frame}
use Rattle.ipc_model.specs.Streams.{Known, done, faulty}
use Rattle.ipc_readers.specs.ChosenStreams.{Request, chosen_item}
use Rattle.ipc_readers.specs.Frames.{due, frame_fault}
use Rattle.ipc_readers.specs.Metadata.{GivesMetadata, MetadataGave, RefusesMetadata, metadata_at}
use Rattle.ipc_readers.specs.Runs.{Answer, FailsLaw}
use Rattle.ipc_readers.specs.Streams.{BlamesFront, GivesItem, ItemGave, ItemsGave, ItemStop, IsWithinMessage, NextStep, ReadsItem, request_of, begun_of, device_of, is_over, known_of, last_found, next_result}
use Rattle.ipc_readers.specs.declared.read.stream.metadata.StreamMetadata.{StreamMetadata}
use Rattle.ipc_readers.specs.declared.read.stream.reader.StreamReader.{StreamReader}
use Rattle.ipc_readers.specs.declared.read.stream.reader.StreamState.{StreamState}
use Rattle.ipc_readers.specs.declared.read.stream.reader.Found.{Found}
use Rattle.ipc_readers.specs.declared.read.stream.reader.Found.TheVariants as fronts

-- ---- messages

-- Nothing is claimed of what is left at an end.
item_at_end : (h : Request) (s : Known) (xs : List ℕ) (l : Known) (q zs ys : List ℕ) (r : Result Found Fault) → ItemStop r ended → ReadsItem h s xs r l q zs → ReadsItem h s xs r l q ys
item_at_end h s xs l q zs ys (Ok (fronts.Chunk chunk)) e g = absurd (cc e)
item_at_end h s xs l q zs ys (Ok fronts.Dictionary) e g = absurd (cc e)
item_at_end h s xs l q zs ys (Ok fronts.Waiting) e g = g
item_at_end h s xs l q zs ys (Ok fronts.Mark) e g = absurd (cc e)
item_at_end h s xs l q zs ys (Err x) e g = g

-- a device's failure says nothing of the bytes
item_at_failure : (h : Request) (s : Known) (xs : List ℕ) (l : Known) (q ys : List ℕ) (r : Result Found Fault) → ItemStop r failed → ReadsItem h s xs r l q ys
item_at_failure h s xs l q ys (Ok (fronts.Chunk chunk)) e = absurd (cc e)
item_at_failure h s xs l q ys (Ok fronts.Dictionary) e = absurd (cc e)
item_at_failure h s xs l q ys (Ok fronts.Waiting) e = absurd (cc e)
item_at_failure h s xs l q ys (Ok fronts.Mark) e = absurd (cc e)
item_at_failure h s xs l q ys (Err x) e = nothing_claimed x ((chosen_item h s xs ≡ done faulty) × BlamesFront h s xs (frame xs) x) e

pub item_ahead : {S : Type 0} (gives : Gives S) (d : Device S) → GivesAhead d gives → IsTrue d.is_memory
    → (h : Request) (k l : Known) (p q : List ℕ) (r : Result Found Fault) (a b : S) → ItemGave gives h k p a r l q b
    → GivesItem h k (p ++ after (d.memory a)) r l q (q ++ after (d.memory b))
item_ahead gives d law t h k l p q r a b g =
    to_memory gives d law t (λ xs. IsWithinMessage (p ++ xs)) (λ all rest. GivesItem h k (p ++ all) r l q (q ++ rest)) (ItemStop r) a b
    (λ xs ys e i. record { each = λ s at. item_at_end h s (p ++ xs) l q (q ++ []) (q ++ ys) r e (i.each s at) })
    (λ xs ys e. record { each = λ s at. item_at_failure h s (p ++ xs) l q (q ++ ys) r e }) g

-- ---- the schema message

same_refusal : (xs : List ℕ) (f : Frame) (e : Fault) (zs ys : List ℕ) → GivesMetadata xs f (Err e) zs → GivesMetadata xs f (Err e) ys
same_refusal xs (message m behind) e zs ys g = g
same_refusal xs (mark behind) e zs ys g = g
same_refusal xs (waiting begun) e zs ys g = g
same_refusal xs broken e zs ys g = g

no_refusal : (xs : List ℕ) (f : Frame) (e : Fault) (ys : List ℕ) → AnswerStop {X = StreamMetadata} (Err e) failed → GivesMetadata xs f (Err e) ys
no_refusal xs (message m behind) e ys s = nothing_claimed e ((metadata_at m ≡ None) × RefusesMetadata e m) s
no_refusal xs (mark behind) e ys s = nothing_claimed e (e ≡ BadSchema NotASchema) s
no_refusal xs (waiting begun) e ys s = nothing_claimed e (e ≡ Ended) s
no_refusal xs broken e ys s = nothing_claimed e (e ≡ frame_fault xs) s

metadata_at_end : (xs : List ℕ) (f : Frame) (r : Result StreamMetadata Fault) (zs ys : List ℕ) → AnswerStop r ended → GivesMetadata xs f r zs → GivesMetadata xs f r ys
metadata_at_end xs f (Ok x) zs ys s g = absurd (cc s)
metadata_at_end xs f (Err e) zs ys s g = same_refusal xs f e zs ys g

metadata_at_failure : (xs : List ℕ) (f : Frame) (r : Result StreamMetadata Fault) (ys : List ℕ) → AnswerStop r failed → GivesMetadata xs f r ys
metadata_at_failure xs f (Ok x) ys s = absurd (cc s)
metadata_at_failure xs f (Err e) ys s = no_refusal xs f e ys s

pub metadata_ahead : {S : Type 0} (gives : Gives S) (d : Device S) → GivesAhead d gives → IsTrue d.is_memory
    → (r : Result StreamMetadata Fault) (a b : S) → MetadataGave gives a r b → GivesMetadata (after (d.memory a)) (frame (after (d.memory a))) r (after (d.memory b))
metadata_ahead gives d law k r a b g =
    to_memory gives d law k (λ xs. length xs ≤ due xs) (λ all rest. GivesMetadata all (frame all) r rest) (AnswerStop r) a b
    (λ xs ys s i. metadata_at_end xs (frame xs) r [] ys s i)
    (λ xs ys s. metadata_at_failure xs (frame xs) r ys s) g

-- ---- counts of failures

item_risen : (r : Result (Option StreamState) Fault) (s : Stop) (old new : ℕ) → ItemStop (last_found r) s → Fails s old new → OnIo r (Rises old new)
item_risen (Ok x) s old new h f = tt
item_risen (Err e) s old new h f = fault_risen (Option StreamState) e s old new h f

-- A failure after a call that didn't fail.
risen_behind : (r : Result (Option StreamState) Fault) (old mid new : ℕ) → mid ≡ old → OnIo r (Rises mid new) × (mid ≤ new) → OnIo r (Rises old new) × (old ≤ new)
risen_behind r old mid new e h = subst (λ (n : ℕ). OnIo r (Rises n new) × (n ≤ new)) e h

items_fail : {S : Type 0} (gives : Gives S) (failures : S → ℕ) → GivesFails gives failures → (h : Request) (n : ℕ) (k l : Known) (p q : List ℕ) (r : Result (Option StreamState) Fault) (a b : S)
    → ItemsGave gives h n k p a r l q b → OnIo r (Rises (failures a) (failures b)) × (failures a ≤ failures b)
items_fail gives failures fails h zero k l p q r a b g =
    let i = g.0 in
    let f = fails a i.run.bytes i.stop b i.run.gave in
    (item_risen r i.stop (failures a) (failures b) i.stops f, not_below i.stop (failures a) (failures b) f)
items_fail gives failures fails h (suc n) k l p q r a b g =
    let c = g.2 in
    let i = g.3 in
    let f : Fails going (failures a) (failures c) = subst (λ (x : Stop). Fails x (failures a) (failures c)) i.stops (fails a i.run.bytes i.stop c i.run.gave) in
    risen_behind r (failures a) (failures c) (failures b) f (items_fail gives failures fails h n g.0 l g.1 q r c b g.4)

module _ {R : Type 0} (gives : Gives R) (d : Device R) (fails : GivesFails gives d.failures)
    (a : StreamReader R) (r : Answer) (b : StreamReader R) (step : NextStep gives d a r b) where
  by_over : (over : Bool) → is_over a ≡ over → OnIo (next_result r) (Rises (d.failures (device_of a)) (d.failures (device_of b))) × (d.failures (device_of a) ≤ d.failures (device_of b))
  by_over true e =
      let none : r ≡ None = (step.state.over e).0 in
      let same : d.failures (device_of b) ≡ d.failures (device_of a) = ap d.failures (step.state.over e).2 in
      (subst (λ (x : Answer). OnIo (next_result x) (Rises (d.failures (device_of a)) (d.failures (device_of b)))) (sym none) tt, omega (arith, same))
  by_over false e =
      let g = step.gave e in
      items_fail gives d.failures fails (request_of a) g.passed (known_of a) (known_of b) (begun_of a) (begun_of b) (next_result r) (device_of a) (device_of b) g.items

pub next_fails : {R : Type 0} (gives : Gives R) (d : Device R) → GivesFails gives d.failures → (a : StreamReader R)
    → FailsLaw gives d a
next_fails gives d fails a r b step = by_over gives d fails a r b step (is_over a) refl

-- An error of metadata that is a device's: a call of it failed.
pub metadata_fails : {S : Type 0} (gives : Gives S) (failures : S → ℕ) → GivesFails gives failures → (r : Result StreamMetadata Fault) (a b : S) → MetadataGave gives a r b
    → OnIo r (Rises (failures a) (failures b))
metadata_fails gives failures fails r a b g =
    answer_risen StreamMetadata r g.stop (failures a) (failures b) g.stops (fails a g.run.bytes g.stop b g.run.gave)

-- ---- a device's error, seen in another result

pub other_answer : (X Y : Type 0) (e : Fault) (P : Type 0) → OnIo {X = X} (Err e) P → OnIo {X = Y} (Err e) P
other_answer X Y (Faults.OutOfSpec k) P h = tt
other_answer X Y Faults.Ended P h = tt
other_answer X Y (Faults.NotYetImplemented n) P h = tt
other_answer X Y (Faults.Schema k) P h = tt
other_answer X Y (Faults.Argument k) P h = tt
other_answer X Y (Faults.State k) P h = tt
other_answer X Y Faults.TooManyDictionaries P h = tt
other_answer X Y (Faults.Io e) P h = h
other_answer X Y Faults.Memory P h = tt
other_answer X Y (Faults.Lower e) P h = tt

-- a device that counts no failures fails in none
never_fails : Rises 0 0 → ⊥
never_fails h = omega (arith, h)

pub no_failure : (X Y : Type 0) (e : Fault) → OnIo {X = X} (Err e) (Rises 0 0) → OnIo {X = Y} (Err e) ⊥
no_failure X Y (Faults.OutOfSpec k) h = tt
no_failure X Y Faults.Ended h = tt
no_failure X Y (Faults.NotYetImplemented n) h = tt
no_failure X Y (Faults.Schema k) h = tt
no_failure X Y (Faults.Argument k) h = tt
no_failure X Y (Faults.State k) h = tt
no_failure X Y Faults.TooManyDictionaries h = tt
no_failure X Y (Faults.Io e) h = never_fails h
no_failure X Y Faults.Memory h = tt
no_failure X Y (Faults.Lower e) h = tt
