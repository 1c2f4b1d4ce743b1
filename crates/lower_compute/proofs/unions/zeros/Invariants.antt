use Rattle.std.proofs.Common.{◌≡◌, replicate}
use Rattle.lower_compute.proofs.unions.zeros.Given as goal

abbrev pub invariant-loop-number : goal.invariant-loop-number
invariant-loop-number l = l.all.items ≡ replicate l.number 0
