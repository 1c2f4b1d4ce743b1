use Rattle.std.proofs.Common.{◌≡◌, map, take}
use Rattle.lower_arrays.specs.AnyLayouts.{layout_of}
use Rattle.lower_arrays.proofs.array.+compacts.Given as goal

abbrev pub invariant-children::compact_each-loop-child : goal.invariant-children::compact_each-loop-child
invariant-children::compact_each-loop-child l = map layout_of l.copies.items ≡ map layout_of (take l.child-index l.children)
