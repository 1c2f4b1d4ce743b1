use Rattle.std.proofs.Common.{sym}
use Rattle.ipc_projection.proofs.Items.{step_past}
use Rattle.ipc_projection.proofs.read.projection.ProjectionIterIterator.next.Goals as goal

pub returns-then-self-column-clause-steps : goal.returns-then-self-column-clause-steps
returns-then-self-column-clause-steps g c =
    step_past g.I.Iterator.next_gives c.args.self.now c.self.inside.iter c.next.new.self c.self.inside.count c.in-Some.column.now c.self.inside.projection.now
    c.in-Some.others.now c.in_ok-item.item (sym c.self.view_is) c.in-Some.ensures.cases.0 c.self.invariant c.if-self-column.true c.in_ok-item.ensures.steps
