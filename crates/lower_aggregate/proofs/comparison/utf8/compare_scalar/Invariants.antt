use Rattle.std.proofs.Common.{◌≡◌, map}
use Rattle.std.specs.List.{range_with_len}
use Rattle.std.specs.Ordering.{nat_cmp}
use Rattle.std.specs.Cmp.Lexicographic.{slice_cmp}
use Rattle.lower_flat_arrays.specs.Spans.{span}
use Rattle.lower_aggregate.specs.Compared.{passes}
use Rattle.lower_aggregate.proofs.comparison.utf8.compare_scalar.Given as goal

abbrev pub invariant-loop-index : goal.invariant-loop-index
invariant-loop-index g l = l.bits ≡ map (λ k. passes l.operator (slice_cmp nat_cmp (span l.lhs.offsets l.lhs.values k) l.rhs)) (range_with_len 0 l.index)
