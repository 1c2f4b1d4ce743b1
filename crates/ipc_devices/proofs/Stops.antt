-- How an error leaves the device.
use Rattle.std.proofs.Common.{ℕ, ◌≤◌, Result, Ok, Err, refl, subst, arith}
use Rattle.ipc_devices.specs.Device.{Rises}
use Rattle.ipc_devices.specs.Faults.{OnIo, OwnFault}
use Rattle.ipc_devices.specs.declared.fault.Fault.{Fault}
use Rattle.ipc_devices.specs.declared.fault.Fault.TheVariants as Faults
use Rattle.ipc_devices.specs.Gives.{Stop, going, ended, failed, stop_of, Fails, FaultStop, AnswerStop}

pub fault_stop : (e : Fault) → FaultStop e (stop_of e)
fault_stop (Faults.OutOfSpec k) = tt
fault_stop Faults.Ended = tt
fault_stop (Faults.NotYetImplemented n) = tt
fault_stop (Faults.Schema s) = tt
fault_stop (Faults.Argument a) = tt
fault_stop (Faults.State s) = tt
fault_stop Faults.TooManyDictionaries = tt
fault_stop (Faults.Io e) = refl
fault_stop Faults.Memory = tt
fault_stop (Faults.Lower e) = tt

-- no device failed
pub fault_going : (X : Type 0) (e : Fault) → OnIo {X = X} (Err e) ⊥ → FaultStop e going
fault_going X (Faults.OutOfSpec k) h = tt
fault_going X Faults.Ended h = tt
fault_going X (Faults.NotYetImplemented n) h = tt
fault_going X (Faults.Schema s) h = tt
fault_going X (Faults.Argument a) h = tt
fault_going X (Faults.State s) h = tt
fault_going X Faults.TooManyDictionaries h = tt
fault_going X (Faults.Io e) h = absurd h
fault_going X Faults.Memory h = tt
fault_going X (Faults.Lower e) h = tt

pub answer_going : (X : Type 0) (r : Result X Fault) → OnIo r ⊥ → AnswerStop r going
answer_going X (Ok x) h = refl
answer_going X (Err e) h = fault_going X e h

-- After a device's error nothing is claimed.
pub nothing_claimed : (e : Fault) (P : Type 0) → FaultStop e failed → OwnFault e P
nothing_claimed (Faults.OutOfSpec k) P s = absurd s
nothing_claimed Faults.Ended P s = absurd s
nothing_claimed (Faults.NotYetImplemented n) P s = absurd s
nothing_claimed (Faults.Schema k) P s = absurd s
nothing_claimed (Faults.Argument k) P s = absurd s
nothing_claimed (Faults.State k) P s = absurd s
nothing_claimed Faults.TooManyDictionaries P s = absurd s
nothing_claimed (Faults.Io e) P s = tt
nothing_claimed Faults.Memory P s = absurd s
nothing_claimed (Faults.Lower e) P s = absurd s

-- ---- counts of failures

pub not_below : (s : Stop) (old new : ℕ) → Fails s old new → old ≤ new
not_below going old new f = omega (arith, f)
not_below ended old new f = omega (arith, f)
not_below failed old new f = f.1

pub fault_risen : (X : Type 0) (e : Fault) (s : Stop) (old new : ℕ) → FaultStop e s → Fails s old new → OnIo {X = X} (Err e) (Rises old new)
fault_risen X (Faults.OutOfSpec k) s old new h f = tt
fault_risen X Faults.Ended s old new h f = tt
fault_risen X (Faults.NotYetImplemented n) s old new h f = tt
fault_risen X (Faults.Schema k) s old new h f = tt
fault_risen X (Faults.Argument k) s old new h f = tt
fault_risen X (Faults.State k) s old new h f = tt
fault_risen X Faults.TooManyDictionaries s old new h f = tt
fault_risen X (Faults.Io e) s old new h f = (subst (λ (x : Stop). Fails x old new) h f).0
fault_risen X Faults.Memory s old new h f = tt
fault_risen X (Faults.Lower e) s old new h f = tt

pub answer_risen : (X : Type 0) (r : Result X Fault) (s : Stop) (old new : ℕ) → AnswerStop r s → Fails s old new → OnIo r (Rises old new)
answer_risen X (Ok x) s old new h f = tt
answer_risen X (Err e) s old new h f = fault_risen X e s old new h f
