use Rattle.std.proofs.Common.{map, take}
use Rattle.lower_arrays.specs.Unions.{union_layout}
use Rattle.lower_compute.specs.Runs.{origins}
use Rattle.lower_compute.specs.Variants.{AreRecorded}
use Rattle.lower_compute.proofs.unions.dense_runs.Given as goal

abbrev pub invariant-loop-run : goal.invariant-loop-run
invariant-loop-run l =
    AreRecorded (map (λ a. union_layout a.now) l.arrays) l.count (origins (take l.run-index l.runs))
    l.offsets.items (map (λ v. v.items) l.parts.items) l.lens.items
