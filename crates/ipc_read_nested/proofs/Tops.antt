-- The slots of a column that was read.
use Rattle.std.proofs.Common.{◌≡◌, ℕ, ℤ, Option, Result, Ok, Err, ap, ◌∙◌}
use Rattle.lower.specs.TypeTrees.{TypeTree}
use Rattle.lower_arrays.specs.Layouts.{Layout, type_of}
use Rattle.lower_arrays.specs.Slots.{slots}
use Rattle.ipc_devices.specs.Faults.{Answers}
use Rattle.ipc_devices.specs.declared.fault.Fault.{Fault}
use Rattle.ipc_model.proofs.ReadSlots.{read_slots_law}
use Rattle.ipc_model.specs.Kinds.{Kind}
use Rattle.ipc_model.specs.Entries.{Entries, Limit}
use Rattle.ipc_model.specs.Columns.{IsWell}
use Rattle.ipc_model.specs.ReadArrays.{array_at, AreValues}
use Rattle.ipc_read_nested.proofs.ColumnLevels.{array_type}
use Rattle.ipc_read_nested.specs.ReadColumns.{IsColumn}

pub slots_answered :
    {X : Type 0} (r : Result X Fault) (seen : X → Layout) (s : Entries) (vs : Option ℤ → Layout) (t : Kind) (u : TypeTree) (a b : ℕ) (limit : Limit) → AreValues s vs
    → Answers r (IsWell s t a b limit) (λ x. seen x ≡ array_at s vs t u a b limit) → Answers r (IsWell s t a b limit) (λ x. IsColumn s vs t u a b limit (seen x))
slots_answered (Ok x) seen s vs t u a b limit values h = (
  h.0,
  record {
    array = h.1;
    type = ap type_of h.1 ∙ array_type s vs t u a b limit;
    slots = ap slots h.1 ∙ read_slots_law s vs t u a b limit values h.0;
  },
)
slots_answered (Err e) seen s vs t u a b limit values h = h
