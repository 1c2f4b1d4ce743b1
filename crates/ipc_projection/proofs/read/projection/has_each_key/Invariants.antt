use Rattle.std.proofs.Common.{ℕ, ◌<◌, nat_eq, IsSome}
use Rattle.std.specs.HashMap.{get}
use Rattle.ipc_projection.proofs.read.projection.has_each_key.Given as goal

abbrev pub invariant-loop-column : goal.invariant-loop-column
invariant-loop-column l = (i : ℕ) → i < l.column-counter → IsSome (get nat_eq l.map i)
