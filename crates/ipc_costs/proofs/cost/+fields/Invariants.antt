use Rattle.std.proofs.Common.{◌≡◌, ◌+◌, ◌*◌}
use Rattle.ipc_costs.specs.Costs.{field_cost, tables_cost}
use Rattle.ipc_costs.proofs.cost.+fields.Given as goal

abbrev pub decreases-field_left : goal.decreases-field_left
decreases-field_left l = 4 * l.levels

abbrev pub decreases-field_table_left : goal.decreases-field_table_left
decreases-field_table_left l = 4 * l.levels + 1

abbrev pub decreases-fields_left : goal.decreases-fields_left
decreases-fields_left l = 4 * l.levels + 2

abbrev pub decreases-typed_left : goal.decreases-typed_left
decreases-typed_left l = 4 * l.levels + 3

abbrev pub invariant-fields_left-loop-i : goal.invariant-fields_left-loop-i
invariant-fields_left-loop-i l = l.left + tables_cost (λ s. field_cost l.levels s) l.tables 0 l.i ≡ l.initial.left
