use Rattle.std.proofs.Common.{◌≡◌, [], ◌∷◌, length, map, take}
use Rattle.lower_compute.specs.Runs.{single, items_of_runs}
use Rattle.lower_compute.proofs.gather.values_at.Given as goal

abbrev pub invariant-loop-place : goal.invariant-loop-place
invariant-loop-place g l =
    (length l.out.items ≡ length l.indices)
    × (take l.place l.out.items ≡ items_of_runs (l.values ∷ []) (map single (take l.place l.indices)))
