use Rattle.std.proofs.Common.{◌≡◌, map, take}
use Rattle.lower_arrays.specs.Layouts.{len_of}
use Rattle.lower_arrays.specs.AnyLayouts.{layout_of}
use Rattle.lower_compute.specs.Runs.{whole_runs}
use Rattle.lower_compute.proofs.concatenate.whole_runs.Given as goal

abbrev pub invariant-loop-number : goal.invariant-loop-number
invariant-loop-number l = l.runs.items ≡ whole_runs 0 (map len_of (map (λ a. layout_of a.now) (take l.number l.arrays)))
