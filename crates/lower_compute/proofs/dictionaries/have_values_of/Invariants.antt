use Rattle.std.proofs.Common.{◌≡◌, take}
use Rattle.std.specs.List.{All}
use Rattle.lower_arrays.specs.Slots.{slots}
use Rattle.lower_compute.proofs.dictionaries.have_values_of.Given as goal

abbrev pub invariant-loop-number : goal.invariant-loop-number
invariant-loop-number l = All (λ a. slots a.now.values ≡ slots l.first.values) (take l.number l.arrays)
