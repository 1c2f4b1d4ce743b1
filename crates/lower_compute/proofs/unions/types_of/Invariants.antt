use Rattle.std.proofs.Common.{◌≡◌, map, take}
use Rattle.lower_compute.proofs.unions.types_of.Given as goal

abbrev pub invariant-loop-array : goal.invariant-loop-array
invariant-loop-array l = map (λ xs. xs.now) l.all.items ≡ map (λ a. a.now.types) (take l.array-index l.arrays)
