use Rattle.std.proofs.Common.{◌≡◌, map, take}
use Rattle.lower_aggregate.specs.Compared.{passes}
use Rattle.lower_aggregate.proofs.comparison.primitive.compare_scalar.Given as goal

abbrev pub invariant-loop-value : goal.invariant-loop-value
invariant-loop-value g l = l.bits ≡ map (λ x. passes l.operator (g.T.Ord.cmp x l.rhs)) (take l.value-index l.values)
