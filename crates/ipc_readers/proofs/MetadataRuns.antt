-- What reads of the schema message give.
use Rattle.std.proofs.Common.{◌≡◌, ℕ, ◌≤◌, List, [], length, Some, None, Result, Ok, Err, refl, subst, inl}
use Rattle.ipc_devices.proofs.Claims.{claims_through}
use Rattle.ipc_devices.specs.Device.{Device, IsAnswered}
use Rattle.ipc_devices.specs.Faults.{IfIo, OwnFault}
use Rattle.ipc_devices.specs.Gives.{going, ended, stop_of, FaultStop, Gives, Gave}
use Rattle.ipc_devices.specs.declared.fault.Fault.{Fault}
use Rattle.ipc_devices.specs.declared.fault.Fault.TheVariants.{Ended, Io, Memory, OutOfSpec, Schema as BadSchema}
use Rattle.ipc_devices.specs.declared.fault.OutOfSpecKind.TheVariants.{MissingFields}
use Rattle.ipc_devices.specs.declared.fault.SchemaFault.TheVariants.{NotASchema}
use Rattle.ipc_devices.proofs.Gave.{gave_as}
use Rattle.ipc_devices.proofs.Stops.{fault_stop}
use Rattle.ipc_model.specs.Frame.{Frame, message, mark, waiting, broken, frame}
use Rattle.ipc_model.specs.Schemas.{schema_of}
use Rattle.ipc_schema.specs.Reading.{RefusesMessage}
use Rattle.ipc_readers.specs.Frames.{FrameGave, GivesFrame, IsFrame, begun_bytes, due, frame_fault, frame_stop}
use Rattle.ipc_readers.specs.Metadata.{GivesMetadata, MetadataGave, RefusesMetadata, metadata_at, metadata_seen}
use Rattle.ipc_readers.specs.declared.read.begun.Begun.{Begun}
use Rattle.ipc_readers.specs.declared.read.begun.Frame as read
use Rattle.ipc_readers.specs.declared.read.begun.Frame.TheVariants as frames
use Rattle.ipc_readers.specs.declared.read.stream.metadata.StreamMetadata.{StreamMetadata}

pub none_begun_yet : (b : Begun) → b.count ≡ 0 → begun_bytes b ≡ []
none_begun_yet b h = rw h refl

-- ---- what a frame says of the metadata

pub broken_says : (xs : List ℕ) (f : Frame) (e : Fault) (rest : List ℕ) → OwnFault e ((f ≡ broken) × (e ≡ frame_fault xs)) → GivesMetadata xs f (Err e) rest
broken_says xs (message m behind) e rest h =
    claims_through e ((message m behind ≡ broken) × (e ≡ frame_fault xs)) ((metadata_at m ≡ None) × RefusesMetadata e m) (λ x. let no = x.0 in absurd (cc no)) h
broken_says xs (mark behind) e rest h = claims_through e ((mark behind ≡ broken) × (e ≡ frame_fault xs)) (e ≡ BadSchema NotASchema) (λ x. let no = x.0 in absurd (cc no)) h
broken_says xs (waiting bytes) e rest h = claims_through e ((waiting bytes ≡ broken) × (e ≡ frame_fault xs)) (e ≡ Ended) (λ x. let no = x.0 in absurd (cc no)) h
broken_says xs broken e rest h = claims_through e ((broken ≡ broken) × (e ≡ frame_fault xs)) (e ≡ frame_fault xs) (λ x. x.1) h

pub mark_says : (xs : List ℕ) (f : Frame) (m q rest : List ℕ) → IsFrame f frames.Mark m q rest → GivesMetadata xs f (Err (BadSchema NotASchema)) rest
mark_says xs (message m' behind) m q rest h = absurd h
mark_says xs (mark behind) m q rest h = refl
mark_says xs (waiting bytes) m q rest h = absurd h
mark_says xs broken m q rest h = absurd h

pub waiting_says : (xs : List ℕ) (f : Frame) (m q rest : List ℕ) → IsFrame f frames.Waiting m q rest → GivesMetadata xs f (Err Ended) rest
waiting_says xs (message m' behind) m q rest h = absurd h
waiting_says xs (mark behind) m q rest h = absurd h
waiting_says xs (waiting bytes) m q rest h = refl
waiting_says xs broken m q rest h = absurd h

pub refused_says : (xs : List ℕ) (f : Frame) (m q rest : List ℕ) (e : Fault) → OwnFault e ((metadata_at m ≡ None) × RefusesMetadata e m) → IsFrame f frames.Message m q rest
    → GivesMetadata xs f (Err e) rest
refused_says xs (message m' behind) m q rest e none h = subst (λ (l : List ℕ). OwnFault e ((metadata_at l ≡ None) × RefusesMetadata e l)) h.0 none
refused_says xs (mark behind) m q rest e none h = absurd h
refused_says xs (waiting bytes) m q rest e none h = absurd h
refused_says xs broken m q rest e none h = absurd h

pub made_says : (xs : List ℕ) (f : Frame) (m q rest : List ℕ) (x : StreamMetadata) → metadata_at m ≡ Some (metadata_seen x) → IsFrame f frames.Message m q rest
    → GivesMetadata xs f (Ok x) rest
made_says xs (message m' behind) m q rest x some h = (subst (λ (l : List ℕ). metadata_at l ≡ Some (metadata_seen x)) h.0 some, h.2)
made_says xs (mark behind) m q rest x some h = absurd h
made_says xs (waiting bytes) m q rest x some h = absurd h
made_says xs broken m q rest x some h = absurd h

-- ---- why a schema message is refused

no_metadata : (m : List ℕ) → schema_of m ≡ None → metadata_at m ≡ None
unfolding metadata_at
no_metadata m e = rw e refl

no_schema : (m : List ℕ) (e : Fault) → RefusesMessage e m → OwnFault e (schema_of m ≡ None)
no_schema m (BadSchema NotASchema) h = h.1
no_schema m (OutOfSpec MissingFields) h = h.1
no_schema m Memory h = tt
no_schema m (Io e) h = tt
no_schema m (BadSchema k) h = h
no_schema m _ h = absurd h

pub schema_refused : (m : List ℕ) (e : Fault) → RefusesMessage e m → OwnFault e ((metadata_at m ≡ None) × RefusesMetadata e m)
schema_refused m e h = claims_through e (schema_of m ≡ None) ((metadata_at m ≡ None) × RefusesMetadata e m) (λ none. (no_metadata m none, inl h)) (no_schema m e h)

pub schema_going : (m : List ℕ) (e : Fault) → RefusesMessage e m → FaultStop e going
schema_going m (Io e) h = absurd h
schema_going m _ h = tt

-- The error of a refused schema is no device's.
pub schema_answered : {S : Type 0} (d : Device S) (m : List ℕ) (e : Fault) → RefusesMessage e m → IfIo {X = StreamMetadata} (Err e) (IsAnswered d)
schema_answered d m (Io e) h = absurd h
schema_answered d m _ h = tt

-- ---- what was given

module _ {S : Type 0} (gives : Gives S) (a b : S) (m q : List ℕ) where
  frame_says : (r : Result read.Frame Fault) (s : Result StreamMetadata Fault) → ((all rest : List ℕ) → GivesFrame (frame all) (frame_fault all) r m q rest → GivesMetadata all (frame all) s rest)
      → FrameGave gives [] a r m q b → Gave gives (λ xs. length xs ≤ due xs) (λ all rest. GivesMetadata all (frame all) s rest) a (frame_stop r) b
  frame_says r s says g = gave_as gives (λ xs. length xs ≤ due xs) (λ xs. length xs ≤ due xs)
      (λ all rest. GivesFrame (frame all) (frame_fault all) r m q rest) (λ all rest. GivesMetadata all (frame all) s rest) a (frame_stop r) b
      (λ xs v k. v) (λ all rest k. says all rest k) g

  unbegun : (p : List ℕ) (r : Result read.Frame Fault) → p ≡ [] → FrameGave gives p a r m q b → FrameGave gives [] a r m q b
  unbegun p r e g = subst (λ (l : List ℕ). FrameGave gives l a r m q b) e g

  pub metadata_breaks : (p : List ℕ) (e : Fault) → p ≡ [] → FrameGave gives p a (Err e) m q b → MetadataGave gives a (Err e) b
  metadata_breaks p e none g = record {
    stop = stop_of e;
    stops = fault_stop e;
    run = frame_says (Err e) (Err e) (λ all rest k. broken_says all (frame all) e rest k) (unbegun p (Err e) none g);
  }

  pub metadata_marked : (p : List ℕ) → p ≡ [] → FrameGave gives p a (Ok frames.Mark) m q b → MetadataGave gives a (Err (BadSchema NotASchema)) b
  metadata_marked p none g = record {
    stop = going;
    stops = tt;
    run = frame_says (Ok frames.Mark) (Err (BadSchema NotASchema)) (λ all rest k. mark_says all (frame all) m q rest k) (unbegun p (Ok frames.Mark) none g);
  }

  pub metadata_waits : (p : List ℕ) → p ≡ [] → FrameGave gives p a (Ok frames.Waiting) m q b → MetadataGave gives a (Err Ended) b
  metadata_waits p none g = record {
    stop = ended;
    stops = tt;
    run = frame_says (Ok frames.Waiting) (Err Ended) (λ all rest k. waiting_says all (frame all) m q rest k) (unbegun p (Ok frames.Waiting) none g);
  }

  pub metadata_refused : (p : List ℕ) (e : Fault) → p ≡ [] → FaultStop e going → OwnFault e ((metadata_at m ≡ None) × RefusesMetadata e m) → FrameGave gives p a (Ok frames.Message) m q b
      → MetadataGave gives a (Err e) b
  metadata_refused p e none own refused g = record {
    stop = going;
    stops = own;
    run = frame_says (Ok frames.Message) (Err e) (λ all rest k. refused_says all (frame all) m q rest e refused k) (unbegun p (Ok frames.Message) none g);
  }

  pub metadata_made : (p : List ℕ) (x : StreamMetadata) → p ≡ [] → metadata_at m ≡ Some (metadata_seen x) → FrameGave gives p a (Ok frames.Message) m q b
      → MetadataGave gives a (Ok x) b
  metadata_made p x none some g = record {
    stop = going;
    stops = refl;
    run = frame_says (Ok frames.Message) (Ok x) (λ all rest k. made_says all (frame all) m q rest x some k) (unbegun p (Ok frames.Message) none g);
  }

pub ruleset metadata_runs = (none_begun_yet, metadata_breaks, metadata_marked, metadata_waits, metadata_refused, metadata_made, schema_going, schema_refused)
