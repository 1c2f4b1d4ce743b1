use Rattle.std.proofs.Common.{◌≡◌, [], map, replicate}
use Rattle.lower_compute.proofs.unions.empty_parts.Given as goal

abbrev pub invariant-loop-number : goal.invariant-loop-number
invariant-loop-number l = map (λ r. r.items) l.parts.items ≡ replicate l.number []
