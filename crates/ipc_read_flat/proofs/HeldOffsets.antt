-- The one offset of an array whose buffer of offsets is empty.
use Rattle.std.proofs.Common.{◌≡◌, ℕ, List, [], ◌∷◌, true, Result, Ok, Err, IfOk}
use Rattle.lower_types.specs.NumberTypes.{width_of}
use Rattle.lower_types.specs.declared.PrimitiveType.{PrimitiveType}
use Rattle.ipc_devices.specs.declared.fault.Fault.{Fault}
use Rattle.ipc_model.specs.Columns.{is_omitted}
use Rattle.ipc_model.specs.Entries.{Entries}
use Rattle.ipc_model.specs.Kinds.{OffsetWidth, offset_width}
use Rattle.ipc_read_flat.specs.HeldListed.{HoldsOffsets}
use Rattle.ipc_read_flat.proofs.HeldLevels.{only_offset}

pub zero_within :
    (s : Entries) (form : OffsetWidth) (b w k : ℕ) (p : PrimitiveType) → w ≡ width_of p → w ≡ offset_width form → is_omitted s b k ≡ true → (r : Result (List ℕ) Fault)
    → IfOk r (λ os. os ≡ 0 ∷ []) → IfOk r (λ os. HoldsOffsets s form b p os)
zero_within s form b w k p wide named omitted (Ok os) one = only_offset s form b w k p os wide named omitted one
zero_within s form b w k p wide named omitted (Err e) one = tt
