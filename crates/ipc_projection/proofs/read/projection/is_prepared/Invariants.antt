use Rattle.std.proofs.Common.{◌↔◌, ◌<◌, length}
use Rattle.std.specs.List.{AllByRecursion}
use Rattle.ipc_projection.specs.Projections.{IsIncreasingFrom, IsPrepared}
use Rattle.ipc_projection.proofs.read.projection.is_prepared.Given as goal

abbrev pub invariant-loop-column : goal.invariant-loop-column
invariant-loop-column l = (AllByRecursion (λ j. j < l.columns) l.rest × IsIncreasingFrom l.least l.rest) ↔ IsPrepared l.projection l.columns

abbrev pub decreases-loop-column : goal.decreases-loop-column
decreases-loop-column l = length l.rest
