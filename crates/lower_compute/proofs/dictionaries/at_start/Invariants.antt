use Rattle.std.proofs.Common.{◌≡◌, ℕ, map, take}
use Rattle.lower_arrays.specs.Dictionaries.{DictionarySeen}
use Rattle.lower_compute.proofs.dictionaries.at_start.Given as goal

abbrev pub invariant-loop-array : goal.invariant-loop-array
invariant-loop-array l =
    map {B = ℕ × DictionarySeen} (λ p. (p.0, p.1.now)) l.all.items ≡ map {B = ℕ × DictionarySeen} (λ a. (0, a.now)) (take l.array-index l.arrays)
