use Rattle.std.proofs.Common.{ℕ, ◌<◌}
use Rattle.ipc_projection.specs.Steps.{IsPlace}
use Rattle.ipc_projection.proofs.read.projection.has_each_place.Given as goal

abbrev pub invariant-loop-place : goal.invariant-loop-place
invariant-loop-place l = (p : ℕ) → p < l.place → IsPlace l.map l.columns p
