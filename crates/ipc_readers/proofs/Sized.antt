-- The bytes after a prefix.
use Rattle.std.proofs.Common.{◌≡◌, ℕ, ◌<◌, ◌≤◌, ◌^◌, List, [], ◌++◌, length, refl, ◌∙◌, arith, append-nil, length-append}
use Rattle.std.proofs.lemmas.Bool.Decides.{nat_tests}
use Rattle.std.proofs.lemmas.Bool.{le-ltb, lt-ltb}
use Rattle.std.proofs.lemmas.List.{take_at, drop_at}
use Rattle.ipc_devices.specs.Faults.{OwnFault}
use Rattle.ipc_devices.specs.declared.fault.Fault.{Fault}
use Rattle.ipc_devices.specs.declared.fault.Fault.TheVariants as Faults
use Rattle.ipc_devices.specs.declared.fault.OutOfSpecKind.TheVariants.{NegativeFooterLength}
use Rattle.ipc_model.specs.Frame.{message, mark, broken, sized}
use Rattle.ipc_model.proofs.Frames.{sized_is, message_same}
use Rattle.ipc_devices.specs.Gives.{Follows, stop_of}
use Rattle.ipc_readers.specs.Frames.{due_sized, sized_fault}

pub sized_negative : (n : ℕ) (ys : List ℕ) → 2 ^ 31 ≤ n → sized n ys ≡ broken
unfolding sized
sized_negative n ys h = grind (arith, nat_tests)

-- A negative length is reported as such, another one as more than there is.
pub fault_negative : (n : ℕ) → 2 ^ 31 ≤ n → Faults.OutOfSpec NegativeFooterLength ≡ sized_fault n
fault_negative n h = rw (le-ltb n (2 ^ 31) h) refl

fault_ended : (n : ℕ) → n < 2 ^ 31 → Faults.Ended ≡ sized_fault n
fault_ended n h = rw (lt-ltb n (2 ^ 31) h) refl

pub sized_mark : (ys : List ℕ) → sized 0 ys ≡ mark ys
unfolding sized
sized_mark ys = refl

pub sized_short : (n : ℕ) (xs : List ℕ) → 0 < n → n < 2 ^ 31 → length xs < n → sized n xs ≡ broken
unfolding sized
sized_short n xs some small short = grind (arith, nat_tests)

pub sized_whole : (n : ℕ) (m ys : List ℕ) → length m ≡ n → 0 < n → n < 2 ^ 31 → sized n (m ++ ys) ≡ message m ys
sized_whole n m ys e some small =
    sized_is n (m ++ ys) (omega (arith, e, length-append m ys)) some small ∙ message_same _ _ _ _ (take_at m ys n e) (drop_at m ys n e)

pub due_is : (n : ℕ) → n < 2 ^ 31 → due_sized n ≡ n
due_is n h = grind (arith, nat_tests)

short_here : (n : ℕ) (xs ys : List ℕ) → 0 < n → n < 2 ^ 31 → length xs < n → ys ≡ [] → sized n (xs ++ ys) ≡ broken
short_here n xs ys some small short e = rw (e, append-nil) (sized_short n xs some small short)

-- the bytes ended inside of a message
pub ended_inside : (e : Fault) (n : ℕ) (xs ys : List ℕ) → OwnFault e (e ≡ Faults.Ended) → 0 < n → n < 2 ^ 31 → length xs < n → Follows (stop_of e) ys
    → OwnFault e ((sized n (xs ++ ys) ≡ broken) × (e ≡ sized_fault n))
ended_inside Faults.Ended n xs ys h some small short f = (short_here n xs ys some small short f, fault_ended n small)
ended_inside (Faults.OutOfSpec k) n xs ys h some small short f = absurd (cc h)
ended_inside (Faults.NotYetImplemented k) n xs ys h some small short f = absurd (cc h)
ended_inside (Faults.Schema k) n xs ys h some small short f = absurd (cc h)
ended_inside (Faults.Argument k) n xs ys h some small short f = absurd (cc h)
ended_inside (Faults.State k) n xs ys h some small short f = absurd (cc h)
ended_inside Faults.TooManyDictionaries n xs ys h some small short f = absurd (cc h)
ended_inside (Faults.Io k) n xs ys h some small short f = tt
ended_inside Faults.Memory n xs ys h some small short f = tt
ended_inside (Faults.Lower k) n xs ys h some small short f = absurd (cc h)
