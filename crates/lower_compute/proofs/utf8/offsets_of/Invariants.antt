use Rattle.std.proofs.Common.{◌≡◌, map, take}
use Rattle.std.specs.List.{All}
use Rattle.lower.specs.Offsets.{IsOffsets}
use Rattle.lower_compute.proofs.utf8.offsets_of.Given as goal

abbrev pub invariant-loop-array : goal.invariant-loop-array
invariant-loop-array g l =
    (map (λ os. os.now) l.all.items ≡ map (λ a. a.now.offsets) (take l.array-index l.arrays))
    × All (λ a. IsOffsets a.now.offsets) (take l.array-index l.arrays)
