-- Why a program ended with an error.
use Rattle.std.proofs.Common.{◌≡◌, ◌∙◌, ◌⊎◌, inl, inr, subst, sym, Option, None, Some, IfSome, IsSome, Result, Ok, Err, IfErr, IfOk}
use Rattle.std.proofs.lemmas.Bool.{false≢true}
use Rattle.ipc_devices.specs.Faults.{IsIo, OwnFault}
use Rattle.ipc_devices.specs.declared.fault.Fault.{Fault}
use Rattle.ipc_devices.specs.declared.fault.Fault.TheVariants.{Io}

-- A device's error claims nothing.
pub io_aside : (e : Fault) (P : Type 0) → IsIo e → OwnFault e P
io_aside (Io x) P io = tt
io_aside _ P io = absurd io

-- The result of a copy, or else a device's error.
pub copied_or_io : (copied result : Result (Unit {0}) Fault) (P : Fault → Type 0) → IfErr copied (λ e. OwnFault e (P e)) → IfErr result (λ e. (copied ≡ Err e) ⊎ IsIo e) → IfErr result (λ e. OwnFault e (P e))
copied_or_io copied (Ok x) P why fault = tt
copied_or_io copied (Err e) P why (inl is) = subst (λ (r : Result (Unit {0}) Fault). IfErr r (λ y. OwnFault y (P y))) is why
copied_or_io copied (Err e) P why (inr io) = io_aside e (P e) io

-- What holds of a form holds of what the arguments request.
pub of_asked : {Asked : Type 0} (P : Asked → Type 0) (asked : Option Asked) (form : Asked) → Some form ≡ asked → P form → IfSome asked P
of_asked {Asked = Asked} P asked form is holds = subst (λ (o : Option Asked). IfSome o P) is holds

-- Arguments of a form request something.
pub not_none : {Asked : Type 0} {asked : Option Asked} (form : Asked) → Some form ≡ asked → asked ≡ None → ⊥
not_none form is none = let both : Some form ≡ None = is ∙ none in absurd cc

-- What is there isn't none.
pub some_none : {X : Type 0} (o : Option X) → IsSome o → o ≡ None → ⊥
some_none None there none = false≢true there
some_none (Some x) there none = absurd cc

-- What holds of the arguments that were passed on holds of the known ones.
pub of_known : {E X : Type 0} (P : X → Type 0) (words : Result X E) (r : Result X Fault) (known : X) → IfOk words (λ w. r ≡ Ok w) → r ≡ Ok known → P known → IfOk words P
of_known P (Ok w) r known given is h =
    let same : Ok known ≡ Ok w = sym is ∙ given in
    let both : known ≡ w = cc in
    subst P both h
of_known P (Err e) r known given is h = tt
