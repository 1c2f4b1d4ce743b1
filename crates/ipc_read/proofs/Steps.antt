-- Steps of a device that end in an error.
use Rattle.std.proofs.Common.{arith, ◌≡◌, ℕ, ◌+◌, ◌≤◌, Result, Ok, Err, sym, subst, ◌∙◌}
use Rattle.std.proofs.lemmas.Bool.{false≢true}
use Rattle.std.specs.Result.{IsErr, IsErrAnd}
use Rattle.std.specs.declared.io.Error.{Error}
use Rattle.ipc_devices.proofs.Acts.{answered_err}
use Rattle.ipc_devices.specs.Device.{Device, IsAnswered, Memory, Rises}
use Rattle.ipc_devices.specs.Faults.{IfIo, OnIo, UnlessIo}
use Rattle.ipc_devices.specs.declared.fault.Fault.{Fault}
use Rattle.ipc_devices.specs.declared.fault.Fault.TheVariants as Faults
use Rattle.ipc_read_flat.specs.Steps.{Step}
use Rattle.ipc_read_flat.specs.declared.read.body.Body.{Body}

on_io : (X Y : Type 0) (e : Fault) (P Q : Type 0) → (P → Q) → OnIo {X = X} (Err e) P → OnIo {X = Y} (Err e) Q
on_io X Y (Faults.OutOfSpec k) P Q f h = tt
on_io X Y Faults.Ended P Q f h = tt
on_io X Y (Faults.NotYetImplemented n) P Q f h = tt
on_io X Y (Faults.Schema s) P Q f h = tt
on_io X Y (Faults.Argument a) P Q f h = tt
on_io X Y (Faults.State s) P Q f h = tt
on_io X Y Faults.TooManyDictionaries P Q f h = tt
on_io X Y (Faults.Io e) P Q f h = f h
on_io X Y Faults.Memory P Q f h = tt
on_io X Y (Faults.Lower e) P Q f h = tt

io_through : (X Y : Type 0) (r : Result Y Fault) (e : Fault) (P Q : Type 0) → IsErr r × IsErrAnd r (λ f. f ≡ e) → (P → Q) → OnIo {X = X} (Err e) P → OnIo {X = Y} r Q
io_through X Y (Ok x) e P Q is f h = tt
io_through X Y (Err u) e P Q is f h = subst (λ (v : Fault). OnIo {X = Y} (Err v) Q) (sym is.1) (on_io X Y e P Q f h)

-- The same if no device failed.
unless_io : (X Y : Type 0) (e : Fault) (P Q : Type 0) → (P → Q) → UnlessIo {X = X} (Err e) P → UnlessIo {X = Y} (Err e) Q
unless_io X Y (Faults.OutOfSpec k) P Q f h = f h
unless_io X Y Faults.Ended P Q f h = f h
unless_io X Y (Faults.NotYetImplemented n) P Q f h = f h
unless_io X Y (Faults.Schema s) P Q f h = f h
unless_io X Y (Faults.Argument a) P Q f h = f h
unless_io X Y (Faults.State s) P Q f h = f h
unless_io X Y Faults.TooManyDictionaries P Q f h = f h
unless_io X Y (Faults.Io e) P Q f h = tt
unless_io X Y Faults.Memory P Q f h = f h
unless_io X Y (Faults.Lower e) P Q f h = f h

unless_io_through : (X Y : Type 0) (r : Result Y Fault) (e : Fault) (P Q : Type 0) → IsErr r × IsErrAnd r (λ f. f ≡ e) → (P → Q) → UnlessIo {X = X} (Err e) P → UnlessIo {X = Y} r Q
unless_io_through X Y (Ok x) e P Q is f h = absurd (false≢true is.0)
unless_io_through X Y (Err u) e P Q is f h = subst (λ (v : Fault). UnlessIo {X = Y} (Err v) Q) (sym is.1) (unless_io X Y e P Q f h)

-- What is known of a device's error.
if_io_through : (X Y : Type 0) (r : Result Y Fault) (e : Fault) (P : Error → Type 0) → IsErr r × IsErrAnd r (λ f. f ≡ e) → IfIo {X = X} (Err e) P → IfIo {X = Y} r P
if_io_through X Y (Ok x) e P is h = tt
if_io_through X Y (Err u) e P is h = subst (λ (v : Fault). IfIo {X = Y} (Err v) P) (sym is.1) (answered_err X Y e P h)

rises_from : (a b c : ℕ) → a ≤ b → Rises b c → Rises a c
rises_from a b c le h = omega (arith, le, h)

-- A part of a step that ended in an error ends it.
pub step_err :
    {R X Y : Type 0} (d : Device R) (s : Body R) (n m : ℕ) (a0 a b : R) (e : Fault) (r : Result Y Fault)
    → IsErr r × IsErrAnd r (λ f. f ≡ e) → d.failures a0 ≤ d.failures a → d.failures a ≡ d.failures a0 → d.names a ≡ d.names a0 → d.given a + n ≤ d.given a0 + m
    → Step {R = R} {X = X} d s n a (Err e) b → Step {R = R} {X = Y} d s m a0 r b
step_err {R} {X} {Y} d s n m a0 a b e r is le same names lt st = record {
  stands = st.stands;
  monotone = omega (arith, le, st.monotone);
  failed = io_through X Y r e (Rises (d.failures a) (d.failures b)) (Rises (d.failures a0) (d.failures b)) is (λ h. rises_from (d.failures a0) (d.failures a) (d.failures b) le h) st.failed;
  told = unless_io_through X Y r e (d.failures b ≡ d.failures a) (d.failures b ≡ d.failures a0) is (λ h. h ∙ same) st.told;
  bounded = omega (arith, st.bounded, lt);
  names = st.names ∙ names;
  answered = if_io_through X Y r e (IsAnswered d) is st.answered;
}
