use Rattle.std.proofs.Common.{◌≡◌, map, take}
use Rattle.std.specs.Ordering.{bool_cmp}
use Rattle.lower_aggregate.specs.Compared.{passes}
use Rattle.lower_aggregate.proofs.comparison.boolean.compare_scalar.Given as goal

abbrev pub invariant-loop-index : goal.invariant-loop-index
invariant-loop-index l = l.bits ≡ map (λ x. passes l.operator (bool_cmp x l.rhs)) (take l.index l.lhs.values)
