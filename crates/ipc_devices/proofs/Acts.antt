-- Several facts about a result, as one, and what a call did to its device.
use Rattle.std.proofs.Common.{arith, ◌≡◌, ℕ, ◌≤◌, Result, Ok, Err, IfOk, IfErr, IsTrue, refl, sym, subst, ◌∙◌}
use Rattle.std.specs.declared.io.Error.{Error}
use Rattle.ipc_devices.specs.Acts.{IsIoOf, ReadsDevice}
use Rattle.ipc_devices.specs.Device.{Device, IsAnswered, Rises}
use Rattle.ipc_devices.specs.Faults.{IfIo, IsIo, OnIo, UnlessIo}
use Rattle.ipc_devices.specs.declared.fault.Fault.{Fault}
use Rattle.ipc_devices.specs.declared.fault.Fault.TheVariants.{Io}

pub both_errs : {X E : Type 0} (P Q : E → Type 0) (r : Result X E) → IfErr r P → IfErr r Q → IfErr r (λ e. P e × Q e)
both_errs P Q (Ok x) p q = tt
both_errs P Q (Err e) p q = (p, q)

pub both_oks : {X E : Type 0} (P Q : X → Type 0) (r : Result X E) → IfOk r P → IfOk r Q → IfOk r (λ x. P x × Q x)
both_oks P Q (Ok x) p q = (p, q)
both_oks P Q (Err e) p q = tt

-- What follows of each error, by what is known of it.
pub each_err : {X E : Type 0} {P Q : E → Type 0} (r : Result X E) → IfErr r P → ((e : E) → P e → Q e) → IfErr r Q
each_err (Ok x) p f = tt
each_err (Err e) p f = f e p

-- What follows of each value, by what is known of it.
pub each_ok : {X E : Type 0} {P Q : X → Type 0} (r : Result X E) → IfOk r P → ((x : X) → P x → Q x) → IfOk r Q
each_ok (Ok x) p f = f x p
each_ok (Err e) p f = tt

-- What holds whatever the result is.
pub always_told : {X : Type 0} (r : Result X Fault) (P : Type 0) → P → UnlessIo r P
always_told (Ok x) P p = p
always_told (Err (Io e)) P p = tt
always_told (Err _) P p = p

-- A result that is no device's error, so that what such an error says needn't be shown.
pub never_io : {X : Type 0} (r : Result X Fault) (P : Type 0) → OnIo r ⊥ → OnIo r P
never_io (Ok x) P h = tt
never_io (Err (Io e)) P h = absurd h
never_io (Err _) P h = tt

-- The same of what holds of a device's error.
pub none_answered : {X : Type 0} (r : Result X Fault) (P : Error → Type 0) → OnIo r ⊥ → IfIo r P
none_answered (Ok x) P h = tt
none_answered (Err (Io e)) P h = absurd h
none_answered (Err _) P h = tt

-- What is known of a device's error, of a result of another type.
pub answered_err : (X Y : Type 0) (e : Fault) (P : Error → Type 0) → IfIo {X = X} (Err e) P → IfIo {X = Y} (Err e) P
answered_err X Y (Io e) P h = h
answered_err X Y _ P h = tt

-- An error that a device returned in a known state.
pub answered_in : {X S : Type 0} (d : Device S) (b : S) (r : Result X Fault) → IfIo r (λ e. d.answered b e) → IfIo r (IsAnswered d)
answered_in d b (Ok x) h = tt
answered_in d b (Err (Io e)) h = (b, h)
answered_in d b (Err _) h = tt

-- An error that a device returned is `Io`.
pub is_io : {S : Type 0} (d : Device S) (e : Fault) → IsIoOf d e → IsIo e
is_io d (Io x) h = tt
is_io d _ h = absurd h

-- What a device's error says doesn't depend on what an Ok holds.
same_error : (X : Type 0) (e : Fault) (P : Type 0) → OnIo {X = Unit {0}} (Err e) P → OnIo {X = X} (Err e) P
same_error X (Io e) P p = p
same_error X _ P p = tt

-- A result whose only error is a known one, which is no device's.
pub other_fault : {X : Type 0} (r : Result X Fault) (f : Fault) (P : Type 0) → OnIo {X = Unit {0}} (Err f) P → IfErr r (λ e. e ≡ f) → OnIo r P
other_fault {X} (Ok x) f P p h = tt
other_fault {X} (Err e) f P p h = same_error X e P (subst (λ (g : Fault). OnIo {X = Unit {0}} (Err g) P) (sym h) p)

-- What is known of an error only if K holds.
pub when_err : {X E : Type 0} (P : E → Type 0) (r : Result X E) (K : Type 0) → (K → IfErr r P) → IfErr r (λ e. K → P e)
when_err P (Ok x) K f = tt
when_err P (Err e) K f = f

-- A call that was Ok, and then an error that is no device's.
pub device_refused : {R X : Type 0} (d : Device R) (a b : R) (r : Result X Fault) → d.failures a ≤ d.failures b → d.failures b ≡ d.failures a
    → (IsTrue d.is_read_only → (d.memory b).whole ≡ (d.memory a).whole) → d.names b ≡ d.names a → OnIo r ⊥ → ReadsDevice d a r b
device_refused d a b r more same still named h = record {
  monotone = more;
  failed = never_io r (Rises (d.failures a) (d.failures b)) h;
  told = always_told r (d.failures b ≡ d.failures a) same;
  whole = still;
  names = named;
  answered = none_answered r (IsAnswered d) h;
}

-- A call of the device itself that failed.
pub device_failed : {R X : Type 0} (d : Device R) (a b : R) (e : Error) → d.failures a ≤ d.failures b → Rises (d.failures a) (d.failures b)
    → (IsTrue d.is_read_only → (d.memory b).whole ≡ (d.memory a).whole) → d.names b ≡ d.names a → d.answered b e → ReadsDevice {X = X} d a (Err (Io e)) b
device_failed d a b e more rises still named own = record { monotone = more; failed = rises; told = tt; whole = still; names = named; answered = (b, own) }

-- A call whose error, if the device returned it, it returned in the last state.
pub device_read : {R X : Type 0} (d : Device R) (a : R) (r : Result X Fault) (b : R) → d.failures a ≤ d.failures b → OnIo r (Rises (d.failures a) (d.failures b)) → UnlessIo r (d.failures b ≡ d.failures a)
    → (IsTrue d.is_read_only → (d.memory b).whole ≡ (d.memory a).whole) → d.names b ≡ d.names a → IfIo r (λ e. d.answered b e) → ReadsDevice d a r b
device_read d a r b more failed told still named own = record { monotone = more; failed = failed; told = told; whole = still; names = named; answered = answered_in d b r own }

-- A call that didn't use its device.
pub idle_device : {R X : Type 0} (d : Device R) (a : R) (r : Result X Fault) → OnIo r ⊥ → ReadsDevice d a r a
idle_device d a r h = device_refused d a a r (omega arith) refl (λ k. refl) refl h

-- An error that is passed on with a result of another type.
pub device_err : {R X Y : Type 0} (d : Device R) (a : R) (e : Fault) (b : R) → ReadsDevice {X = X} d a (Err e) b → ReadsDevice {X = Y} d a (Err e) b
device_err d a e b h = record { monotone = h.monotone; failed = h.failed; told = h.told; whole = h.whole; names = h.names; answered = h.answered }

-- A call after one that was Ok.
pub device_after : {R X Y : Type 0} (d : Device R) (a b : R) (y : Y) (r : Result X Fault) (c : R) → ReadsDevice d a (Ok y) b → ReadsDevice d b r c → ReadsDevice d a r c
device_after d a b y r c one two = record {
  monotone = omega (arith, one.monotone, two.monotone);
  failed = subst (λ (n : ℕ). OnIo r (Rises n (d.failures c))) one.told two.failed;
  told = subst (λ (n : ℕ). UnlessIo r (d.failures c ≡ n)) one.told two.told;
  whole = λ k. two.whole k ∙ one.whole k;
  names = two.names ∙ one.names;
  answered = two.answered;
}

-- After a call that was Ok, a result that is no device's error.
pub device_then : {R X Y : Type 0} (d : Device R) (a b : R) (y : Y) (r : Result X Fault) → ReadsDevice d a (Ok y) b → OnIo r ⊥ → ReadsDevice d a r b
device_then d a b y r one h = device_after d a b y r b one (idle_device d b r h)

-- A call that reads, after a seek.
pub device_sought : {R X : Type 0} (d : Device R) (a b : R) (r : Result X Fault) (c : R) → d.failures a ≤ d.failures b → d.failures b ≡ d.failures a
    → (IsTrue d.is_read_only → (d.memory b).whole ≡ (d.memory a).whole) → d.names b ≡ d.names a → ReadsDevice d b r c → ReadsDevice d a r c
device_sought d a b r c more same still named h = device_after d a b (tt {0}) r c (device_refused {X = Unit {0}} d a b (Ok (tt {0})) more same still named (tt {0})) h
