use Rattle.std.proofs.Common.{IsTrue, ◌↔◌}
use Rattle.lower_flat_arrays.specs.SameValues.{HasSameNumbers}
use Rattle.lower_flat_arrays.proofs.equality.has_same_numbers.Given as goal

abbrev pub invariant-loop-index : goal.invariant-loop-index
invariant-loop-index g l = IsTrue l.are_same ↔ HasSameNumbers g.T.NativeType.number l.lhs l.rhs l.index
