-- The result of reading the schema message within a limit.
use Rattle.std.proofs.Common.{◌≡◌, ℕ, ◌<◌, ◌≤◌, List, [], length, Option, Some, None, Result, Ok, Err, refl, subst, inr}
use Rattle.std.specs.Option.{option_map}
use Rattle.std.specs.Result.{result_ok}
use Rattle.ipc_devices.proofs.Claims.{claimed, claims_through}
use Rattle.ipc_devices.proofs.Gave.{gave_as}
use Rattle.ipc_devices.proofs.Stops.{fault_going, fault_stop}
use Rattle.ipc_devices.specs.Faults.{OnIo, OwnFault}
use Rattle.ipc_devices.specs.Gives.{going, ended, stop_of, FaultStop, Gives, Gave}
use Rattle.ipc_devices.specs.declared.fault.Fault.{Fault}
use Rattle.ipc_devices.specs.declared.fault.Fault.TheVariants.{Argument, Ended, Schema as BadSchema}
use Rattle.ipc_devices.specs.declared.fault.ArgFault.TheVariants.{TooLarge}
use Rattle.ipc_devices.specs.declared.fault.SchemaFault.TheVariants.{NotASchema}
use Rattle.ipc_devices.specs.declared.fault.TableFault.{TableFault}
use Rattle.ipc_table_views.specs.MessageSlots.{message_version}
use Rattle.ipc_table_views.specs.Spot.{Spot}
use Rattle.ipc_table_views.specs.Tables.{root_at}
use Rattle.ipc_table_views.specs.declared.schema.MetadataVersion.{MetadataVersion}
use Rattle.ipc_model.specs.Batches.{Schema}
use Rattle.ipc_model.specs.Frame.{Frame, message, mark, waiting, broken, frame}
use Rattle.ipc_model.specs.Schemas.{given, schema_of}
use Rattle.ipc_schema.specs.Reading.{RefusesMessage}
use Rattle.ipc_readers.proofs.MetadataRuns.{broken_says, made_says, mark_says, none_begun_yet, refused_says, schema_going, schema_refused, waiting_says}
use Rattle.ipc_readers.specs.Frames.{FrameGave, GivesFrame, IsFrame, IsFramingFault, due, frame_fault, frame_stop}
use Rattle.ipc_readers.specs.Metadata.{GivesMetadata, MetadataSeen, RefusesMetadata, metadata_at, metadata_seen, table_version, version_at, version_slot}
use Rattle.ipc_readers.specs.declared.read.begun.Frame as read
use Rattle.ipc_readers.specs.declared.read.begun.Frame.TheVariants as frames
use Rattle.ipc_readers.specs.declared.read.stream.metadata.StreamMetadata.{StreamMetadata}
use Rattle.ipc_costs.specs.Costs.{schema_cost}
use Rattle.ipc_limits.specs.Metadata.{AsUnlimited, JudgesCost, MetadataGaveWithin}

-- ---- errors that don't come from the limit

IsOther : Fault → Type 0
IsOther e = e ≡ Argument TooLarge → ⊥

framing-other : (e : Fault) → OwnFault e (IsFramingFault e) → IsOther e
unfolding IsOther
framing-other e h is = subst (λ (e : Fault). OwnFault e (IsFramingFault e)) is h

schema-other : (m : List ℕ) (e : Fault) → RefusesMessage e m → IsOther e
unfolding IsOther
schema-other m e h is = subst (λ (e : Fault). RefusesMessage e m) is h

version-other : (m : List ℕ) (e : Fault) → version_at m ≡ Err e → IsOther e
unfolding IsOther version_at
version-other m e h is = at (root_at m) h
  where
    slot : (r : Result MetadataVersion TableFault) → version_slot r ≡ Err e → ⊥
    slot (Ok v) h = cc
    slot (Err d) h = cc

    at : (r : Result Spot TableFault) → table_version r ≡ Err e → ⊥
    at (Ok t) h = slot (message_version t) h
    at (Err d) h = cc

-- ---- what the limit says of a result

judged : (limit : ℕ) (m behind : List ℕ) (e : Fault) → IsOther e → OwnFault e (schema_cost m ≤ limit) → JudgesCost limit (message m behind) (Err e)
unfolding IsOther
judged limit m behind (Argument TooLarge) n h = absurd (n refl)
judged limit m behind _ n h = h

unjudged_mark : (limit : ℕ) (behind : List ℕ) (e : Fault) → IsOther e → JudgesCost limit (mark behind) (Err e)
unfolding IsOther
unjudged_mark limit behind (Argument TooLarge) n = absurd (n refl)
unjudged_mark limit behind _ n = tt

unjudged_waiting : (limit : ℕ) (bytes : List ℕ) (e : Fault) → IsOther e → JudgesCost limit (waiting bytes) (Err e)
unfolding IsOther
unjudged_waiting limit bytes (Argument TooLarge) n = absurd (n refl)
unjudged_waiting limit bytes _ n = tt

unjudged_broken : (limit : ℕ) (e : Fault) → IsOther e → JudgesCost limit broken (Err e)
unfolding IsOther
unjudged_broken limit (Argument TooLarge) n = absurd (n refl)
unjudged_broken limit _ n = tt

broken_judged : (limit : ℕ) (xs : List ℕ) (f : Frame) (e : Fault) → IsOther e → OwnFault e ((f ≡ broken) × (e ≡ frame_fault xs)) → JudgesCost limit f (Err e)
broken_judged limit xs (message m behind) e n h =
    judged limit m behind e n (claims_through e ((message m behind ≡ broken) × (e ≡ frame_fault xs)) (schema_cost m ≤ limit) (λ x. let no = x.0 in absurd (cc no)) h)
broken_judged limit xs (mark behind) e n h = unjudged_mark limit behind e n
broken_judged limit xs (waiting bytes) e n h = unjudged_waiting limit bytes e n
broken_judged limit xs broken e n h = unjudged_broken limit e n

mark_judged : (limit : ℕ) (f : Frame) (m q rest : List ℕ) → IsFrame f frames.Mark m q rest → JudgesCost limit f (Err (BadSchema NotASchema))
mark_judged limit (message m' behind) m q rest h = absurd h
mark_judged limit (mark behind) m q rest h = tt
mark_judged limit (waiting bytes) m q rest h = absurd h
mark_judged limit broken m q rest h = absurd h

waiting_judged : (limit : ℕ) (f : Frame) (m q rest : List ℕ) → IsFrame f frames.Waiting m q rest → JudgesCost limit f (Err Ended)
waiting_judged limit (message m' behind) m q rest h = absurd h
waiting_judged limit (mark behind) m q rest h = absurd h
waiting_judged limit (waiting bytes) m q rest h = tt
waiting_judged limit broken m q rest h = absurd h

read_judged : (limit : ℕ) (f : Frame) (m q rest : List ℕ) (e : Fault) → IsOther e → OwnFault e (schema_cost m ≤ limit) → IsFrame f frames.Message m q rest → JudgesCost limit f (Err e)
read_judged limit (message m' behind) m q rest e n own h = judged limit m' behind e n (subst (λ (l : List ℕ). OwnFault e (schema_cost l ≤ limit)) h.0 own)
read_judged limit (mark behind) m q rest e n own h = absurd h
read_judged limit (waiting bytes) m q rest e n own h = absurd h
read_judged limit broken m q rest e n own h = absurd h

large_judged : (limit : ℕ) (f : Frame) (m q rest : List ℕ) → limit < schema_cost m → IsFrame f frames.Message m q rest → JudgesCost limit f (Err (Argument TooLarge))
large_judged limit (message m' behind) m q rest large h = subst (λ (l : List ℕ). limit < schema_cost l) h.0 large
large_judged limit (mark behind) m q rest large h = absurd h
large_judged limit (waiting bytes) m q rest large h = absurd h
large_judged limit broken m q rest large h = absurd h

made_judged : (limit : ℕ) (f : Frame) (m q rest : List ℕ) (x : StreamMetadata) → schema_cost m ≤ limit → IsFrame f frames.Message m q rest → JudgesCost limit f (Ok x)
made_judged limit (message m' behind) m q rest x small h = subst (λ (l : List ℕ). schema_cost l ≤ limit) h.0 small
made_judged limit (mark behind) m q rest x small h = absurd h
made_judged limit (waiting bytes) m q rest x small h = absurd h
made_judged limit broken m q rest x small h = absurd h

as_unlimited : (xs : List ℕ) (f : Frame) (e : Fault) (rest : List ℕ) → GivesMetadata xs f (Err e) rest → AsUnlimited xs f (Err e) rest
as_unlimited xs f (Argument TooLarge) rest h = tt
as_unlimited xs f _ rest h = h

no_version : (m : List ℕ) (e : Fault) → version_at m ≡ Err e → metadata_at m ≡ None
unfolding metadata_at
no_version m e is = at (schema_of m) (version_at m) is
  where
    at : (o : Option Schema) (r : Result MetadataVersion Fault) → r ≡ Err e → given {B = MetadataSeen} o (λ schema. option_map (λ version. (schema, version)) (result_ok r)) ≡ None
    at None r is = refl
    at (Some s) r is = rw is refl

-- ---- what was given

module _ {S : Type 0} (gives : Gives S) (limit : ℕ) (a b : S) (m q : List ℕ) where
  frame_judged : (r : Result read.Frame Fault) (s : Result StreamMetadata Fault)
      → ((all rest : List ℕ) → GivesFrame (frame all) (frame_fault all) r m q rest → JudgesCost limit (frame all) s × AsUnlimited all (frame all) s rest)
      → (p : List ℕ) → p ≡ [] → FrameGave gives p a r m q b
      → Gave gives (λ xs. length xs ≤ due xs) (λ all rest. JudgesCost limit (frame all) s × AsUnlimited all (frame all) s rest) a (frame_stop r) b
  frame_judged r s says p none g = gave_as gives (λ xs. length xs ≤ due xs) (λ xs. length xs ≤ due xs)
      (λ all rest. GivesFrame (frame all) (frame_fault all) r m q rest) (λ all rest. JudgesCost limit (frame all) s × AsUnlimited all (frame all) s rest) a (frame_stop r) b
      (λ xs v k. v) (λ all rest k. says all rest k) (subst (λ (l : List ℕ). FrameGave gives l a r m q b) none g)

  pub within_breaks : (p : List ℕ) (e : Fault) → p ≡ [] → OwnFault e (IsFramingFault e) → FrameGave gives p a (Err e) m q b → MetadataGaveWithin gives limit a (Err e) b
  within_breaks p e none only g = record {
    stop = stop_of e;
    stops = fault_stop e;
    run =
        frame_judged (Err e) (Err e)
        (λ all rest k. (broken_judged limit all (frame all) e (framing-other e only) k, as_unlimited all (frame all) e rest (broken_says all (frame all) e rest k))) p none g;
  }

  pub within_marked : (p : List ℕ) → p ≡ [] → FrameGave gives p a (Ok frames.Mark) m q b → MetadataGaveWithin gives limit a (Err (BadSchema NotASchema)) b
  within_marked p none g = record {
    stop = going;
    stops = tt;
    run =
        frame_judged (Ok frames.Mark) (Err (BadSchema NotASchema))
        (λ all rest k. (mark_judged limit (frame all) m q rest k, mark_says all (frame all) m q rest k)) p none g;
  }

  pub within_waits : (p : List ℕ) → p ≡ [] → FrameGave gives p a (Ok frames.Waiting) m q b → MetadataGaveWithin gives limit a (Err Ended) b
  within_waits p none g = record {
    stop = ended;
    stops = tt;
    run =
        frame_judged (Ok frames.Waiting) (Err Ended)
        (λ all rest k. (waiting_judged limit (frame all) m q rest k, waiting_says all (frame all) m q rest k)) p none g;
  }

  pub within_large : (p : List ℕ) → p ≡ [] → limit < schema_cost m → FrameGave gives p a (Ok frames.Message) m q b → MetadataGaveWithin gives limit a (Err (Argument TooLarge)) b
  within_large p none large g = record {
    stop = going;
    stops = tt;
    run = frame_judged (Ok frames.Message) (Err (Argument TooLarge)) (λ all rest k. (large_judged limit (frame all) m q rest large k, tt)) p none g;
  }

  refused : (p : List ℕ) (e : Fault) → p ≡ [] → schema_cost m ≤ limit → IsOther e → FaultStop e going → OwnFault e ((metadata_at m ≡ None) × RefusesMetadata e m)
      → FrameGave gives p a (Ok frames.Message) m q b → MetadataGaveWithin gives limit a (Err e) b
  refused p e none small other stopped why g = record {
    stop = going;
    stops = stopped;
    run =
        frame_judged (Ok frames.Message) (Err e)
        (λ all rest k. (
          read_judged limit (frame all) m q rest e other (claimed e (schema_cost m ≤ limit) small) k,
          as_unlimited all (frame all) e rest (refused_says all (frame all) m q rest e why k),
        )) p none g;
  }

  pub within_refused : (p : List ℕ) (e : Fault) → p ≡ [] → schema_cost m ≤ limit → RefusesMessage e m → FrameGave gives p a (Ok frames.Message) m q b
      → MetadataGaveWithin gives limit a (Err e) b
  within_refused p e none small h g = refused p e none small (schema-other m e h) (schema_going m e h) (schema_refused m e h) g

  pub within_unversioned : (p : List ℕ) (e : Fault) → p ≡ [] → schema_cost m ≤ limit → version_at m ≡ Err e → OnIo {X = MetadataVersion} (Err e) ⊥
      → FrameGave gives p a (Ok frames.Message) m q b → MetadataGaveWithin gives limit a (Err e) b
  within_unversioned p e none small h device g =
      refused p e none small (version-other m e h) (fault_going MetadataVersion e device) (claimed e ((metadata_at m ≡ None) × RefusesMetadata e m) (no_version m e h, inr h)) g

  pub within_made : (p : List ℕ) (x : StreamMetadata) → p ≡ [] → schema_cost m ≤ limit → metadata_at m ≡ Some (metadata_seen x) → FrameGave gives p a (Ok frames.Message) m q b
      → MetadataGaveWithin gives limit a (Ok x) b
  within_made p x none small some g = record {
    stop = going;
    stops = refl;
    run =
        frame_judged (Ok frames.Message) (Ok x)
        (λ all rest k. (made_judged limit (frame all) m q rest x small k, made_says all (frame all) m q rest x some k)) p none g;
  }

pub ruleset metadata_runs = (none_begun_yet, within_breaks, within_marked, within_waits, within_large, within_refused, within_unversioned, within_made)
