use Rattle.std.proofs.Common.{◌≡◌, length, take}
use Rattle.lower_compute.specs.Runs.{origins}
use Rattle.lower_compute.proofs.leaves.total_len.Given as goal

abbrev pub invariant-loop-run : goal.invariant-loop-run
invariant-loop-run l = l.total ≡ length (origins (take l.run-index l.runs))
