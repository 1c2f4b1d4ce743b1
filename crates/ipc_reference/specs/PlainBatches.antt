-- The slots of a batch's columns.
-- (Arrow columnar format, "RecordBatch message".)
use Rattle.std.specs.Prelude.{ℕ, Bool, if◌then◌else◌, List, map, Option, None, Some, Vec}
use Rattle.std.specs.declared.alloc.Global.{Global}
use Rattle.lower_arrays.specs.Slots.{Slot}
use Rattle.ipc_model.specs.Batches.{kind_at, own, rows_at, slots_of_column, is_batch}
use Rattle.ipc_model.specs.Entries.{Entries, Limit}
use Rattle.ipc_model.specs.Kinds.{Kinds}
use Rattle.ipc_model.specs.Tests.{with_rows, is_well}
use Rattle.ipc_reference.specs.PlainSlots.{slots_view}
use Rattle.ipc_reference.specs.declared.slots.PlainSlot.{PlainSlot}

-- What the program's columns mean.
abbrev pub columns_view : List (Vec PlainSlot Global) → List (List Slot)
columns_view vs = map (λ v. slots_view v.items) vs

-- Column j is well formed, with k slots.
abbrev pub reads : Entries → Kinds → Limit → ℕ → ℕ → Bool
reads s ts limit k j = with_rows (is_well (own s ts j) (kind_at ts j) 0 0 limit) (rows_at s ts limit j) k

-- The slots of the chosen columns, if the entries are a valid batch.
abbrev pub columns_of : Entries → ℕ → Kinds → List ℕ → Limit → Option (List (List Slot))
columns_of s most ts js limit =
    if is_batch s most ts js limit then Some (map (λ j. slots_of_column s ts limit j) js) else None
