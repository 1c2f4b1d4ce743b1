use Rattle.std.proofs.Common.{IsTrue, ◌↔◌}
use Rattle.lower_flat_arrays.specs.SameValues.{HasSameBytes}
use Rattle.lower_flat_arrays.proofs.spans.has_same_bytes.Given as goal

abbrev pub invariant-loop-index : goal.invariant-loop-index
invariant-loop-index l = IsTrue l.are_same ↔ HasSameBytes l.lhs l.rhs l.index
