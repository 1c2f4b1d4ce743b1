use Rattle.std.proofs.Common.{◌≡◌, ℕ, ◌<◌}
use Rattle.lower_flat_arrays.proofs.equality.has_each_slot.Given as goal

abbrev pub invariant-loop-index : goal.invariant-loop-index
invariant-loop-index g l = (k : ℕ) → k < l.index → g.A.ToColumn.slot l.lhs k ≡ g.A.ToColumn.slot l.rhs k
