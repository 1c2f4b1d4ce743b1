-- Which device returned an error of a copy.
use Rattle.std.proofs.Common.{◌≡◌, ◌⊎◌, Result, Ok, Err, OnOk, inl, inr, sym, subst}
use Rattle.std.specs.declared.io.Error.{Error}
use Rattle.lower.specs.TypeTrees.{Pairs}
use Rattle.ipc_devices.proofs.Acts.{answered_err}
use Rattle.ipc_devices.specs.Faults.{IfIo, OnIo}
use Rattle.ipc_devices.specs.declared.fault.Fault.{Fault}
use Rattle.ipc_devices.specs.declared.fault.Fault.TheVariants as faults
use Rattle.ipc_file_write.specs.FileWriters.{FileSeen, TakesNoPairs}
use Rattle.ipc_convert.specs.declared.chunks.Ending.{Ending}

-- It was that of the source.
pub of_source : (e : Fault) (P Q : Error → Type 0) → IfIo {X = Unit {0}} (Err e) P → IfIo {X = Unit {0}} (Err e) (λ x. P x ⊎ Q x)
of_source (faults.Io x) P Q h = inl h
of_source _ P Q h = tt

-- It was that of the sink.
pub of_sink : (e : Fault) (P Q : Error → Type 0) → IfIo {X = Unit {0}} (Err e) Q → IfIo {X = Unit {0}} (Err e) (λ x. P x ⊎ Q x)
of_sink (faults.Io x) P Q h = inr h
of_sink _ P Q h = tt

-- An error of allocation is none of a device.
pub memory_answers_none : (e : Fault) (P : Error → Type 0) → e ≡ faults.Memory → IfIo {X = Unit {0}} (Err e) P
memory_answers_none e P is = subst (λ (x : Fault). IfIo {X = Unit {0}} (Err x) P) (sym is) tt

-- Nor is an error that names a condition.
pub none_of_devices : (e : Fault) (P : Error → Type 0) → OnIo {X = Unit {0}} (Err e) ⊥ → IfIo {X = Unit {0}} (Err e) P
none_of_devices (faults.Io x) P h = absurd h
none_of_devices _ P h = tt

-- Nor is an error of pairs.
pub pairs_answer_none : {W : Type 0} (w : FileSeen W) (pairs : Pairs) (e : Fault) (P : Error → Type 0) → TakesNoPairs w pairs e → IfIo {X = Unit {0}} (Err e) P
pairs_answer_none w pairs (faults.Io x) P h = absurd h
pairs_answer_none w pairs _ P h = tt

-- A file that was finished, whatever became of the chunks: they failed, or the end did.
pub either_answered :
    (copied : Result Ending Fault) (e : Fault) (A : Type 0) (P Q : Error → Type 0) → (copied ≡ Err e) ⊎ ((ending : Ending) × (copied ≡ Ok ending) × A)
    → IfIo copied (λ x. P x ⊎ Q x) → IfIo {X = Unit {0}} (Err e) (λ x. OnOk copied (Q x)) → IfIo {X = Unit {0}} (Err e) (λ x. P x ⊎ Q x)
either_answered copied e A P Q by failed ends = elim by [
  | inl refused ↦ answered_err Ending (Unit {0}) e (λ x. P x ⊎ Q x) (subst (λ (o : Result Ending Fault). IfIo o (λ x. P x ⊎ Q x)) refused failed)
  | inr all ↦ of_sink e P Q (subst (λ (o : Result Ending Fault). IfIo {X = Unit {0}} (Err e) (λ x. OnOk o (Q x))) all.1 ends)
]
