use Rattle.ipc_projection.proofs.AskedOrder.{ordered}
use Rattle.ipc_projection.proofs.read.asked.AskedColumns.in_order.Goals as goal

pub returns-clause-order : goal.returns-clause-order
returns-clause-order c =
    rw (← c.self.view_is) (ordered _ c.self.inside.places c.args.chunk c.apply_projection.result c.self.invariant c.apply_projection.ensures.columns)
