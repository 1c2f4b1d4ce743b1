use Rattle.std.proofs.Common.{ℕ, ◌<◌}
use Rattle.ipc_projection.specs.Steps.{IsApart}
use Rattle.ipc_projection.proofs.read.projection.has_places_apart.Given as goal

abbrev pub invariant-loop-column : goal.invariant-loop-column
invariant-loop-column l = (i : ℕ) → i < l.column → IsApart l.map l.columns i
