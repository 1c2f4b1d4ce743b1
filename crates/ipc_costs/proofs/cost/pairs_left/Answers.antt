use Rattle.std.proofs.Common.{◌≡◌, None, rules, arith}
use Rattle.ipc_costs.specs.Costs.{pair_cost}
use Rattle.ipc_costs.proofs.Steps.{all_refused}
use Rattle.ipc_costs.proofs.cost.pairs_left.Goals as goal

pub returns-in_err-left : goal.returns-in_err-left
returns-in_err-left c =
    let none : c.from_residual.result ≡ None = search rules in
    rw none (all_refused pair_cost c.args.tables.now c.loop-i.i c.args.tables.now.count c.loop-i.left c.args.left
    (omega (arith, c.loop-i-test.true, c.len-i-end.ensures)) c.loop-i.invariant c.in_err-left.ensures)
