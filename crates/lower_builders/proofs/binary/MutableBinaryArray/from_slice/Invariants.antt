use Rattle.std.proofs.Common.{◌≡◌, take, map}
use Rattle.std.specs.Prelude.{Some}
use Rattle.lower_builders.proofs.binary.MutableBinaryArray.from_slice.Given as goal

abbrev pub invariant-loop-value : goal.invariant-loop-value
invariant-loop-value g l = l.array ≡ map (λ v. Some v.now) (take l.value-index l.values)
