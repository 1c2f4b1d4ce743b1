use Rattle.std.proofs.Common.{◌≡◌, map, take}
use Rattle.lower_compute.specs.Runs.{items_of_runs}
use Rattle.lower_compute.specs.Keyed.{value_places}
use Rattle.lower_compute.proofs.keys.places_of_runs.Given as goal

abbrev pub invariant-loop-run : goal.invariant-loop-run
invariant-loop-run l = l.places.items ≡ items_of_runs (map (λ p. value_places p.0 p.1.now) l.arrays) (take l.run-index l.runs)
