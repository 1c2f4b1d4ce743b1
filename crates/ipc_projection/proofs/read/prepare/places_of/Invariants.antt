use Rattle.ipc_projection.proofs.Preparing.{HasFirst}
use Rattle.ipc_projection.proofs.read.prepare.places_of.Given as goal

abbrev pub invariant-loop-column : goal.invariant-loop-column
invariant-loop-column l = HasFirst l.places l.pairs l.column
