use Rattle.std.proofs.Common.{◌≡◌, take}
use Rattle.std.specs.List.{All}
use Rattle.lower_arrays.specs.Layouts.{type_of}
use Rattle.lower_arrays.specs.Slots.{IsArray}
use Rattle.lower_arrays.specs.AnyLayouts.{layout_of}
use Rattle.lower_compute.proofs.concatenate.have_one_type.Given as goal

abbrev pub invariant-loop-array : goal.invariant-loop-array
invariant-loop-array l =
    All (λ a. type_of (layout_of a.now) ≡ type_of (layout_of l.first)) (take l.array-index l.arrays)
    × All (λ a. IsArray (layout_of a.now)) (take l.array-index l.arrays)
