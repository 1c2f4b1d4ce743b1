use Rattle.std.proofs.Common.{◌≡◌, map, take}
use Rattle.std.specs.Prelude.{Some}
use Rattle.std.specs.Option.{option_copied}
use Rattle.lower_compute.proofs.boolean.values_of.Given as goal

abbrev pub invariant-loop-array : goal.invariant-loop-array
invariant-loop-array l = map option_copied l.all.items ≡ map (λ a. Some a.now.values) (take l.array-index l.arrays)
