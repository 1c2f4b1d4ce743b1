-- Why a file is refused, and how many bytes are read of it.
use Rattle.std.proofs.Common.{◌≡◌, ◌⊎◌, ℕ, ◌+◌, ◌-◌, ◌^◌, ◌≤◌, nat_lt, if◌then◌else◌, Bool, true, false, List, length, take, drop, Some, Result, Ok, Err, IfErr, IsTrue, sym, ap, ◌∙◌, subst, arith, bytes_eq, inl, inr}
use Rattle.std.specs.Int.{w32, from_le_bytes}
use Rattle.std.proofs.lemmas.Bool.{true≢false}
use Rattle.std.proofs.lemmas.List.{take_all, take-take, length-drop}
use Rattle.std.proofs.lemmas.Slice.Eq.{bytes_eq-Decides}
use Rattle.ipc_devices.proofs.Claims.{claimed, claims_through}
use Rattle.ipc_devices.specs.Device.{Memory, after}
use Rattle.ipc_devices.specs.Faults.{OwnFault}
use Rattle.ipc_devices.specs.declared.fault.Fault.{Fault}
use Rattle.ipc_devices.specs.declared.fault.Fault.TheVariants as faults
use Rattle.ipc_devices.specs.declared.fault.OutOfSpecKind.TheVariants.{InvalidFooter, NegativeFooterLength}
use Rattle.ipc_table_views.specs.Tables.{root_at}
use Rattle.ipc_model.specs.Files.{last, magic}
use Rattle.ipc_files.specs.Files.{FileReason, FooterGiven, GivesFooter, HeadReason, TailReason, feather, footer_bytes, footer_length}
use Rattle.ipc_files.specs.Footers.{RootFault}
use Rattle.ipc_files.proofs.Tails.{footer-ends, footer-measured}

-- a tail that states no length
no_length : (a b : Bool) (n : ℕ) (e : Fault) → (if a then (if b then Ok n else Err (faults.OutOfSpec NegativeFooterLength)) else Err (faults.OutOfSpec InvalidFooter)) ≡ Err e
    → (e ≡ faults.OutOfSpec NegativeFooterLength) ⊎ (e ≡ faults.OutOfSpec InvalidFooter)
no_length true true n e h = absurd cc
no_length true false n e h = inl cc
no_length false b n e h = inr cc

by_tail : (tail : List ℕ) (e : Fault) → footer_length tail ≡ Err e → (e ≡ faults.OutOfSpec NegativeFooterLength) ⊎ (e ≡ faults.OutOfSpec InvalidFooter)
unfolding footer_length
by_tail tail e h = no_length (bytes_eq (drop 4 tail) magic) (nat_lt (from_le_bytes w32 (take 4 tail)) (2 ^ 31)) (from_le_bytes w32 (take 4 tail)) e h

pub tail_reason : (bytes : List ℕ) (e : Fault) → 10 ≤ length bytes → footer_length (last 10 bytes) ≡ Err e → OwnFault e (TailReason bytes e)
tail_reason bytes e long h = elim (by_tail (last 10 bytes) e h) [
  | inl is ↦ subst (λ (f : Fault). OwnFault f (TailReason bytes f)) (sym is) (long, h ∙ ap Err is)
  | inr is ↦ subst (λ (f : Fault). OwnFault f (TailReason bytes f)) (sym is) (long, h ∙ ap Err is)
]

-- The last 10 bytes, if they are read.
pub tail_read : (whole buf : List ℕ) (m : Memory) (end : ℕ) → m.whole ≡ whole → m.place ≡ end - 10 → end ≡ length whole → 10 ≤ length whole → buf ≡ take 10 (after m) → buf ≡ last 10 whole
tail_read whole buf m end same at is long h =
    let here : m.place ≡ length whole - 10 = omega (arith, at, is) in
    let there : after m ≡ last 10 whole = ap (λ (xs : List ℕ). drop m.place xs) same ∙ ap (λ (n : ℕ). drop n whole) here in
    h ∙ ap (λ (xs : List ℕ). take 10 xs) there ∙ take_all 10 (last 10 whole) (omega (arith, length-drop (length whole - 10) whole, long))

-- A head that begins with other bytes.
pub not_feather : (front head : List ℕ) (b : Bool) → head ≡ take 6 front → b ≡ bytes_eq feather (take 4 head) → b ≡ false → take 4 front ≡ feather → ⊥
not_feather front head b h test unlike e =
    let same : take 4 head ≡ feather = ap (λ (xs : List ℕ). take 4 xs) h ∙ take-take 4 6 front (omega arith) ∙ e in
    true≢false (sym ((bytes_eq-Decides feather (take 4 head)).1 (sym same)) ∙ sym test ∙ unlike)

-- ---- a file whose footer is read

pub ends_reason : {X : Type 0} (r : Result X Fault) (start : ℕ) (whole : List ℕ) (e : Fault) → r ≡ Err e → GivesFooter start whole (Err e) → IfErr r (λ e. OwnFault e (FileReason start whole e))
ends_reason r start whole e is h = rw is (claims_through e _ (FileReason start whole e) (λ x. at x.1) h)
  where
    at : HeadReason (drop start whole) e ⊎ TailReason whole e → FileReason start whole e
    at (inl head) = inl head
    at (inr tail) = inr (inl tail)

pub footer_reason : {X : Type 0} (r : Result X Fault) (start : ℕ) (whole footer : List ℕ) → footer_bytes start whole ≡ Some footer → IfErr r (λ e. RootFault e (root_at footer))
    → IfErr r (λ e. OwnFault e (FileReason start whole e))
footer_reason (Ok x) start whole footer is h = tt
footer_reason (Err e) start whole footer is h =
    let (n, fits, stated, same) = footer-ends start whole footer is in
    claimed e (FileReason start whole e) (inr (inr (n, fits, stated, subst (λ (xs : List ℕ). RootFault e (root_at xs)) same h)))

-- ---- how many bytes are read

pub footer_taken : (known : Bool) (whole seen : List ℕ) (n old new : ℕ) → (IsTrue known → seen ≡ whole) → (IsTrue known → footer_length (last 10 seen) ≡ Ok n) → new ≤ old + (16 + n)
    → FooterGiven known whole old new
footer_taken known whole seen n old new same stated few =
    record { footer = n; stated = λ k. ap (λ (xs : List ℕ). footer_length (last 10 xs)) (sym (same k)) ∙ stated k; most = few }

pub footer_given : (known : Bool) (start : ℕ) (whole footer : List ℕ) (old new : ℕ) → (IsTrue known → footer_bytes start whole ≡ Some footer)
    → (new ≤ old + 16) ⊎ FooterGiven known whole old new → FooterGiven known whole old new
footer_given known start whole footer old new is (inl few) =
    record { footer = length footer; stated = λ k. footer-measured start whole footer (is k); most = omega (arith, few) }
footer_given known start whole footer old new is (inr all) = all
