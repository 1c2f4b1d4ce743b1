use Rattle.std.proofs.Common.{◌≡◌, ◌+◌}
use Rattle.ipc_costs.specs.Costs.{pair_cost, tables_cost}
use Rattle.ipc_costs.proofs.cost.pairs_left.Given as goal

abbrev pub invariant-loop-i : goal.invariant-loop-i
invariant-loop-i l = l.left + tables_cost pair_cost l.tables 0 l.i ≡ l.initial.left
