use Rattle.std.proofs.Common.{◌≡◌, map, take}
use Rattle.std.specs.Option.{option_copied}
use Rattle.lower_arrays.specs.Layouts.{level}
use Rattle.lower_arrays.specs.AnyLayouts.{layout_of}
use Rattle.lower_compute.proofs.children.validities_of.Given as goal

abbrev pub invariant-loop-array : goal.invariant-loop-array
invariant-loop-array l = map option_copied l.all.items ≡ map (λ a. (level (layout_of a.now)).validity) (take l.array-index l.arrays)
