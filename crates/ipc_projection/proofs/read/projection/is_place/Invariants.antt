use Rattle.std.proofs.Common.{◌≡◌, ℕ, ◌<◌, nat_eq, Some}
use Rattle.std.specs.HashMap.{get}
use Rattle.ipc_projection.proofs.read.projection.is_place.Given as goal

abbrev pub invariant-loop-column : goal.invariant-loop-column
invariant-loop-column l = (k : ℕ) → k < l.column → get nat_eq l.map k ≡ Some l.place → ⊥
