use Rattle.std.proofs.Common.{◌≡◌, map, take}
use Rattle.lower_compute.specs.Runs.{items_of_runs}
use Rattle.lower_compute.proofs.items.copy_items.Given as goal

abbrev pub invariant-loop-run : goal.invariant-loop-run
invariant-loop-run g l = l.items.items ≡ items_of_runs (map (λ xs. xs.now) l.lists) (take l.run-index l.runs)
