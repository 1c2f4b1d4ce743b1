-- Limits by which the same slots are read.
use Rattle.std.specs.Prelude.{◌≡◌, ℕ, pos, ◌*◌, ◌^◌, ◌<◌, List, slice_index_or, Option, None, Some, SomeIff}
use Rattle.ipc_table_views.specs.declared.message.FieldNode.{FieldNode}
use Rattle.ipc_model.specs.Entries.{Entries, Limit, rows, times, size}

-- The lengths of nodes fit in signed 64-bit integers.
pub record AreSmall (ns : List FieldNode) : Type 0 where
  pub each : (a : ℕ) → size (slice_index_or ns a (record { length = pos 0; null_count = pos 0 })).length < 2 ^ 63

-- The limit of a child with n slots for each of its parent's; none if it doesn't fit in 64 bits.
abbrev pub IsTimes : Limit → ℕ → Option ℕ → Type 0
IsTimes None n r = r ≡ None
IsTimes (Some l) n r = SomeIff r (l * n < 2 ^ 64) (l * n)

-- By both limits equally many slots of each node are read, also for each multiple of both.
pub record SameRows (s : Entries) (l m : Limit) : Type 0 where
  pub each : (n a : ℕ) → 0 < n → rows s a (times l n) ≡ rows s a (times m n)
