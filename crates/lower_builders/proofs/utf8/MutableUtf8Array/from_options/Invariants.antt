use Rattle.std.proofs.Common.{◌≡◌, take, map}
use Rattle.std.specs.Option.{option_copied}
use Rattle.lower_builders.proofs.utf8.MutableUtf8Array.from_options.Given as goal

abbrev pub invariant-loop-slot : goal.invariant-loop-slot
invariant-loop-slot g l = l.array ≡ map option_copied (take l.slot-index l.slots)
