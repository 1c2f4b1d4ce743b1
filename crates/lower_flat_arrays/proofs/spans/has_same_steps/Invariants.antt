use Rattle.std.proofs.Common.{IsTrue, ◌↔◌}
use Rattle.lower_flat_arrays.specs.SameValues.{HasSameSteps}
use Rattle.lower_flat_arrays.proofs.spans.has_same_steps.Given as goal

abbrev pub invariant-loop-index : goal.invariant-loop-index
invariant-loop-index g l = IsTrue l.are_same ↔ HasSameSteps l.lhs l.rhs l.index
