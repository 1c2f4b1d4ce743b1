use Rattle.std.proofs.Common.{◌≡◌, ◌*◌, ◌^◌, ◌<◌, map, take, length}
use Rattle.std.specs.List.{All}
use Rattle.lower_compute.proofs.fixed_size_binary.values_of.Given as goal

abbrev pub invariant-loop-array : goal.invariant-loop-array
invariant-loop-array l =
    (map (λ xs. xs.now) l.all.items ≡ map (λ a. a.now.values) (take l.array-index l.arrays))
    × All (λ a. length a.now.values ≡ a.now.len * a.now.size) (take l.array-index l.arrays)
    × All (λ a. length a.now.values < 2 ^ 64) (take l.array-index l.arrays)
