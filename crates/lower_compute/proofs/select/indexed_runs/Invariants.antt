use Rattle.std.proofs.Common.{◌≡◌, ◌<◌, map, take}
use Rattle.std.specs.List.{All}
use Rattle.lower_compute.specs.Runs.{origins}
use Rattle.lower_compute.proofs.select.indexed_runs.Given as goal

abbrev pub invariant-loop-index : goal.invariant-loop-index
invariant-loop-index l =
    (origins l.runs.items ≡ map (λ i. (0, i)) (take l.index-index l.indices))
    × All (λ run. 0 < run.len) l.runs.items
