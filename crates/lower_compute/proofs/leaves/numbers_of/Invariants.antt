use Rattle.std.proofs.Common.{◌≡◌, map, take}
use Rattle.lower_arrays.specs.Primitives.{primitive_layout}
use Rattle.lower_arrays.specs.AnyLayouts.{layout_of}
use Rattle.lower_compute.proofs.leaves.numbers_of.Given as goal

abbrev pub invariant-loop-any : goal.invariant-loop-any
invariant-loop-any g l = map (λ a. primitive_layout g.T.NativeType.primitive g.T.NativeType.number a.now) l.all.items ≡ map (λ a. layout_of a.now) (take l.any-index l.arrays)
