use Rattle.std.proofs.Common.{◌≡◌, map, take}
use Rattle.lower_arrays.specs.Layouts.{children}
use Rattle.lower_arrays.specs.Choices.{child}
use Rattle.lower_arrays.specs.AnyLayouts.{layout_of}
use Rattle.lower_compute.proofs.children.children_of.Given as goal

abbrev pub invariant-loop-array : goal.invariant-loop-array
invariant-loop-array l = map (λ a. layout_of a.now) l.all.items ≡ map (λ a. child (children (layout_of a.now)) l.number) (take l.array-index l.arrays)
