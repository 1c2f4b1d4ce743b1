-- The column at a position, if it is well formed.
-- (Arrow columnar format, "Physical Memory Layout".)
use Rattle.std.specs.Prelude.{ℕ, if◌then◌else◌, List, Option, None, Some}
use Rattle.lower_arrays.specs.Slots.{Slot}
use Rattle.ipc_model.specs.Columns.{column}
use Rattle.ipc_model.specs.Entries.{Entries, Limit}
use Rattle.ipc_model.specs.Kinds.{Kind}
use Rattle.ipc_model.specs.Tests.{is_well}

-- The slots that are read of the column at node a and buffer b, if it is well formed.
abbrev pub read : Kind → ℕ → ℕ → Limit → Entries → Option (List Slot)
read t a b limit s = if is_well s t a b limit then Some (column s t a b limit) else None
