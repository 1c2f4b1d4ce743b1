use Rattle.std.proofs.Common.{◌≡◌, map, take}
use Rattle.lower_arrays.specs.Layouts.{level}
use Rattle.lower_arrays.specs.AnyLayouts.{layout_of}
use Rattle.lower_compute.specs.Kinds.{offsets_in}
use Rattle.lower_compute.proofs.lists.all_offsets.Given as goal

abbrev pub invariant-loop-array : goal.invariant-loop-array
invariant-loop-array g l = map (λ os. os.now) l.all.items ≡ map (λ a. offsets_in (level (layout_of a.now)).parts) (take l.array-index l.arrays)
