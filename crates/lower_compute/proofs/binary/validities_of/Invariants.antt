use Rattle.std.proofs.Common.{◌≡◌, map, take}
use Rattle.std.specs.List.{All}
use Rattle.std.specs.Option.{option_copied}
use Rattle.lower_flat_arrays.specs.Validities.{ValidityFits}
use Rattle.lower_flat_arrays.specs.Spans.{span_count}
use Rattle.lower_compute.proofs.binary.validities_of.Given as goal

abbrev pub invariant-loop-array : goal.invariant-loop-array
invariant-loop-array g l =
    (map option_copied l.all.items ≡ map (λ a. a.now.validity) (take l.array-index l.arrays))
    × All (λ a. ValidityFits a.now.validity (span_count a.now.offsets)) (take l.array-index l.arrays)
