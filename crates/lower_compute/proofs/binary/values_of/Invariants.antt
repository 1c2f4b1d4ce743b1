use Rattle.std.proofs.Common.{◌≡◌, map, take}
use Rattle.std.specs.List.{All}
use Rattle.lower_flat_arrays.specs.Spans.{EndsWithin}
use Rattle.lower_compute.proofs.binary.values_of.Given as goal

abbrev pub invariant-loop-array : goal.invariant-loop-array
invariant-loop-array g l =
    (map (λ xs. xs.now) l.all.items ≡ map (λ a. a.now.values) (take l.array-index l.arrays))
    × All (λ a. EndsWithin a.now.offsets a.now.values) (take l.array-index l.arrays)
