use Rattle.std.proofs.Common.{◌≡◌, map, take}
use Rattle.lower_arrays.specs.AnyLayouts.{layout_of}
use Rattle.lower_compute.proofs.kinds.all_of.Given as goal

abbrev pub invariant-loop-any : goal.invariant-loop-any
invariant-loop-any g l = map (λ a. g.K.Kind.layout a.now) l.all.items ≡ map (λ a. layout_of a.now) (take l.any-index l.arrays)
