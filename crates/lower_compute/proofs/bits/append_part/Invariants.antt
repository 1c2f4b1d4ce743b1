use Rattle.std.proofs.Common.{◌≡◌, ◌++◌, take, drop}
use Rattle.lower_compute.proofs.bits.append_part.Given as goal

abbrev pub invariant-loop-i : goal.invariant-loop-i
invariant-loop-i l = l.out ≡ l.initial.out ++ take l.i (drop l.offset l.bits)
