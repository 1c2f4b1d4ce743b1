use Rattle.std.proofs.Common.{◌≡◌, pos, map, take}
use Rattle.lower_compute.proofs.keys.numbers.Given as goal

abbrev pub invariant-loop-place : goal.invariant-loop-place
invariant-loop-place g l = map g.K.DictionaryKey.integer l.keys.items ≡ map (λ n. pos n) (take l.place-index l.places)
