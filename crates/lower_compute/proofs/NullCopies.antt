-- Arrays of nulls, run by run.
use Rattle.std.proofs.Common.{arith, refl, ◌≡◌, ℕ, List, Bool, true, false, length, get_or, sym, ap, ◌∙◌}
use Rattle.lower.specs.Physical.{physical}
use Rattle.lower.specs.declared.datatypes.physical_type.PhysicalType.TheVariants.{Null}
use Rattle.lower.specs.declared.error.Error.{Error}
use Rattle.lower.specs.declared.error.Error.TheVariants.{OutOfSpec}
use Rattle.lower.specs.declared.error.Rule.TheVariants.{PhysicalType as WrongType}
use Rattle.lower_flat_arrays.specs.Validities.{is_valid}
use Rattle.lower_flat_arrays.specs.Columns.{Slot, null_slot, slot_where}
use Rattle.lower_flat_arrays.specs.Nulls.{NullSeen, BreaksNull}
use Rattle.lower_arrays.specs.Layouts.{Parts, nothing, Layout, level, children, len_of, type_of}
use Rattle.lower_arrays.specs.Slots.{value_at, slot_at, children_at}
use Rattle.lower_compute.specs.declared.runs.Run.{Run}
use Rattle.lower_compute.specs.Runs.{origins, origin_at}
use Rattle.lower_compute.specs.Copies.{AllHaveTypeOf, AreWithin, IsCopy}
use Rattle.lower_compute.proofs.KindFacts.{kind}
use Rattle.lower_compute.proofs.Likes.{kinds}
use Rattle.lower_compute.proofs.CopySlots.{slot_split, first_there, copy_made}

pub null_kept : (a : NullSeen) (e : Error) → physical a.type ≡ Null → BreaksNull a e → ⊥
null_kept a (OutOfSpec WrongType) lies breaks = breaks lies
null_kept a (OutOfSpec _) lies breaks = breaks

no_value : (p : Parts) (fs : List (ℕ → Slot)) (i : ℕ) → kind p ≡ 0 → value_at p fs i ≡ null_slot
no_value nothing fs i e = refl
no_value _ fs i e = absurd (omega (arith, e))

null_where : (b : Bool) → slot_where b null_slot ≡ null_slot
null_where true = refl
null_where false = refl

-- each slot is null
null_slots : (l : Layout) (i : ℕ) → kind (level l).parts ≡ 0 → slot_at l i ≡ null_slot
null_slots l i e =
    slot_split l i
    ∙ ap (slot_where (is_valid (level l).validity i)) (no_value (level l).parts (children_at (children l)) i e)
    ∙ null_where (is_valid (level l).validity i)

-- so as many nulls are a copy
pub nulls_copied : (m : Layout) (ls : List Layout) (runs : List Run) → AllHaveTypeOf m ls → AreWithin ls runs → kind (level m).parts ≡ 0 → (l : Layout) → kind (level l).parts ≡ 0
    → type_of l ≡ type_of m → len_of l ≡ length (origins runs) → IsCopy m ls runs l
nulls_copied m ls runs like within em l el type len =
    copy_made ls runs within (type_of m) l type len (λ d i lt.
    let k = (origin_at runs i).0 in
    null_slots l i el ∙ sym (null_slots (get_or ls k d) (origin_at runs i).1 (kinds m ls like k d (first_there ls runs within i lt) ∙ em)))
