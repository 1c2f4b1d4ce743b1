use Rattle.std.proofs.Common.{length}
use Rattle.ipc_projection.specs.Placing.{Placing}
use Rattle.ipc_projection.proofs.read.projection.placed.Given as goal

abbrev pub invariant-loop-column : goal.invariant-loop-column
invariant-loop-column g l = Placing l.map l.fn.columns.items l.columns.items l.places.items

abbrev pub decreases-loop-column : goal.decreases-loop-column
decreases-loop-column g l = length l.columns.items
