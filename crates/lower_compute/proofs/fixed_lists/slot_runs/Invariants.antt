use Rattle.std.proofs.Common.{◌≡◌, map, take}
use Rattle.lower_compute.specs.Runs.{scaled}
use Rattle.lower_compute.proofs.fixed_lists.slot_runs.Given as goal

abbrev pub invariant-loop-run : goal.invariant-loop-run
invariant-loop-run l = l.all.items ≡ map (scaled l.size) (take l.run-index l.runs)
