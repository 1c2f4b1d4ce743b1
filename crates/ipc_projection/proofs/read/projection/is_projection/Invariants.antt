use Rattle.std.proofs.Common.{◌↔◌, Some, length}
use Rattle.ipc_model.specs.Batches.{IsProjection}
use Rattle.ipc_projection.proofs.read.projection.is_projection.Given as goal

abbrev pub invariant-loop-column : goal.invariant-loop-column
invariant-loop-column l = IsProjection (Some l.rest) l.columns ↔ IsProjection (Some l.projection) l.columns

abbrev pub decreases-loop-column : goal.decreases-loop-column
decreases-loop-column l = length l.rest
