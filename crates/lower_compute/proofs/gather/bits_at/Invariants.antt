use Rattle.std.proofs.Common.{◌≡◌, false, map, take, get_or}
use Rattle.lower_compute.proofs.gather.bits_at.Given as goal

abbrev pub invariant-loop-index : goal.invariant-loop-index
invariant-loop-index l = l.out ≡ map (λ i. get_or l.bits i false) (take l.index-index l.indices)
