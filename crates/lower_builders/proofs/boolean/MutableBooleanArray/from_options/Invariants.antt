use Rattle.std.proofs.Common.{◌≡◌, take}
use Rattle.lower_builders.proofs.boolean.MutableBooleanArray.from_options.Given as goal

abbrev pub invariant-loop-slot : goal.invariant-loop-slot
invariant-loop-slot l = l.array ≡ take l.slot-index l.slots
