-- What reads of a body give.
use Rattle.std.proofs.Common.{◌≡◌, ◌⊎◌, ℕ, ◌≤◌, List, [], ◌++◌, length, Option, Result, Err, ap, ◌∙◌, subst, arith, append-nil}
use Rattle.lower_arrays.specs.declared.array.AnyArray.{AnyArray}
use Rattle.ipc_devices.proofs.Claims.{claims_through}
use Rattle.ipc_devices.specs.Faults.{OnIo, OwnFault}
use Rattle.ipc_devices.specs.declared.fault.Fault.{Fault}
use Rattle.ipc_devices.specs.declared.fault.Fault.TheVariants.{Ended}
use Rattle.ipc_table_views.specs.Spot.{Spot}
use Rattle.ipc_model.specs.Streams.{Header, Known}
use Rattle.ipc_readers.proofs.Bodies.{cut_body, header}
use Rattle.ipc_readers.specs.ChosenStreams.{Request}
use Rattle.ipc_readers.specs.Streams.{BodyGave, GivesBody, GivesHeld, RefusesBody}
use Rattle.ipc_devices.specs.Gives.{going, stop_of, Follows, Gives, GivesInOrder, GivesNothing, StopsBefore}
use Rattle.ipc_devices.proofs.Stops.{fault_stop, fault_going, answer_going}

-- The body was read.
pub body_read : {S : Type 0} (gives : Gives S) (h : Request) (k : Known) (tag : ℕ) (t : Spot) (n : ℕ) (a b : S) (body : List ℕ) (r : Result (Option (List AnyArray)) Fault) (l : Known)
    → length body ≡ n → gives a body going b → OnIo r ⊥ → GivesHeld h k tag t body r l → BodyGave gives h k (header tag t n) a r l b
body_read gives h k tag t n a b body r l size gave own held = record {
  stop = going;
  stops = answer_going (Option (List AnyArray)) r own;
  run = record {
    bytes = body;
    gave = gave;
    within = omega (arith, size);
    holds = λ ys _. subst (λ (n : ℕ). GivesBody h k (header tag t n) (body ++ ys) r l ys) size (held.each ys);
  };
}

-- An error before the body was read.
pub body_stopped : {S : Type 0} (gives : Gives S) (h : Request) (k : Known) (m : Header) (a b : S) (e : Fault) (l : Known) → (m.tag ≡ 3) ⊎ (m.tag ≡ 2) → OwnFault e (e ≡ Ended)
    → StopsBefore gives a m.body e b → BodyGave gives h k m a (Err e) l b
body_stopped gives h k m a b e l kind only s = record {
  stop = stop_of e;
  stops = fault_stop e;
  run = record {
    bytes = s.0;
    gave = s.2;
    within = omega (arith, s.1);
    holds = λ ys f. record {
      each = λ x at. cut_body h x m (s.0 ++ ys) e kind
          (claims_through e (e ≡ Ended) ((e ≡ Ended) × (m.body ≤ length (s.0 ++ ys) → ⊥))
          (λ own. (
            own,
            λ long.
                let none : ys ≡ [] = subst (λ (x : Fault). Follows (stop_of x) ys) own f in
                let all : s.0 ++ ys ≡ s.0 = ap (λ l. s.0 ++ l) none ∙ append-nil s.0 in
                omega (arith, s.1, long, ap length all),
          ))
          only);
    };
  };
}

-- What is read after a call that gave nothing.
pub stopped_behind : {S : Type 0} (gives : Gives S) → GivesInOrder gives → (a b c : S) (n : ℕ) (e : Fault) → gives a [] going b → StopsBefore gives b n e c
    → StopsBefore gives a n e c
stopped_behind gives law a b c n e none s = (s.0, s.1, law a [] b s.0 (stop_of e) c none s.2)

-- a refusal before anything was read
pub body_refused : {S : Type 0} (gives : Gives S) → GivesNothing gives → (h : Request) (k : Known) (tag : ℕ) (t : Spot) (n : ℕ) (a : S) (e : Fault) → OnIo {X = Unit} (Err e) ⊥
    → RefusesBody h k tag t e → BodyGave gives h k (header tag t n) a (Err e) k a
body_refused gives nothing h k tag t n a e own refused = record {
  stop = going;
  stops = fault_going Unit e own;
  run = record { bytes = []; gave = nothing a; within = omega arith; holds = λ ys _. refused.each n ys };
}
