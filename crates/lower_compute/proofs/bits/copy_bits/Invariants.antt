use Rattle.std.proofs.Common.{◌≡◌, map, take}
use Rattle.std.specs.Option.{option_copied}
use Rattle.lower_compute.specs.Runs.{bits_of_runs}
use Rattle.lower_compute.proofs.bits.copy_bits.Given as goal

abbrev pub invariant-loop-run : goal.invariant-loop-run
invariant-loop-run l = l.all ≡ bits_of_runs (map option_copied l.bitmaps) (take l.run-index l.runs)
