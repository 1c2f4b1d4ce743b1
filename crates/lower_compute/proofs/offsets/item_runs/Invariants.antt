use Rattle.std.proofs.Common.{◌≡◌, map, take}
use Rattle.lower_compute.specs.Runs.{run_of_items}
use Rattle.lower_compute.proofs.offsets.item_runs.Given as goal

abbrev pub invariant-loop-run : goal.invariant-loop-run
invariant-loop-run g l = l.all.items ≡ map (run_of_items (map (λ os. os.now) l.offsets)) (take l.run-index l.runs)
