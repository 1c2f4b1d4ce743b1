use Rattle.std.proofs.Common.{◌≡◌, ℕ, ◌++◌, map, drop}
use Rattle.lower_arrays.specs.Dictionaries.{DictionarySeen}
use Rattle.lower_compute.specs.Keyed.{one_after_other}
use Rattle.lower_compute.proofs.dictionaries.at_ends.Given as goal

abbrev pub invariant-loop-array : goal.invariant-loop-array
invariant-loop-array l =
    map {B = ℕ × DictionarySeen} (λ p. (p.0, p.1.now)) l.all.items ++ one_after_other l.start (map (λ a. a.now) (drop l.array-index l.arrays))
    ≡ one_after_other 0 (map (λ a. a.now) l.arrays)
