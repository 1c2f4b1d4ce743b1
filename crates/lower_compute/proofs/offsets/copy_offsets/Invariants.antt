use Rattle.std.proofs.Common.{◌≡◌, map, take}
use Rattle.lower_compute.specs.Runs.{offsets_of_runs}
use Rattle.lower_compute.proofs.offsets.copy_offsets.Given as goal

abbrev pub invariant-loop-run : goal.invariant-loop-run
invariant-loop-run g l = l.all ≡ offsets_of_runs (map (λ os. os.now) l.offsets) (take l.run-index l.runs)
