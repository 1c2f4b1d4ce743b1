use Rattle.std.proofs.Common.{◌≡◌, None, rules}
use Rattle.ipc_costs.specs.Costs.{field_cost}
use Rattle.ipc_costs.proofs.Steps.{all_refused}
use Rattle.ipc_costs.proofs.cost.+fields.Goals as goal

pub fields_left-returns-in_err-left : goal.fields_left-returns-in_err-left
fields_left-returns-in_err-left t c =
    let none : c.from_residual.result ≡ None = search rules in
    rw none (all_refused (λ s. field_cost c.args.levels s) c.args.tables.now c.loop-i.i c.args.count c.loop-i.left c.args.left
    c.loop-i-test.true c.loop-i.invariant c.in_err-left.ensures)
