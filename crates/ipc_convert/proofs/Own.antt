-- What an error claims that is neither of allocation nor of a device.
use Rattle.ipc_devices.specs.Faults.{OwnFault}
use Rattle.ipc_devices.specs.declared.fault.Fault.{Fault}
use Rattle.ipc_devices.specs.declared.fault.Fault.TheVariants.{Argument, Ended, Io, Lower, Memory, NotYetImplemented, OutOfSpec, Schema, State, TooManyDictionaries}

-- A claim of an error holds if it follows from each of the error's claims.
pub own : (e : Fault) (Q : Type 0) → (((P : Type 0) → OwnFault e P → P) → Q) → OwnFault e Q
own (OutOfSpec k) Q f = f (λ P p. p)
own Ended Q f = f (λ P p. p)
own (NotYetImplemented n) Q f = f (λ P p. p)
own (Schema s) Q f = f (λ P p. p)
own (Argument a) Q f = f (λ P p. p)
own (State s) Q f = f (λ P p. p)
own TooManyDictionaries Q f = f (λ P p. p)
own (Io e) Q f = tt
own Memory Q f = tt
own (Lower e) Q f = f (λ P p. p)
