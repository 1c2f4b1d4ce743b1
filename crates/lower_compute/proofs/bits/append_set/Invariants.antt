use Rattle.std.proofs.Common.{◌≡◌, ◌++◌, replicate, true}
use Rattle.lower_compute.proofs.bits.append_set.Given as goal

abbrev pub invariant-loop-i : goal.invariant-loop-i
invariant-loop-i l = l.out ≡ l.initial.out ++ replicate l.i true
