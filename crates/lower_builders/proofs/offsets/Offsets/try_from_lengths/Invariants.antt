use Rattle.std.proofs.Common.{◌≡◌, take}
use Rattle.lower_builders.specs.Growing.{offsets_by_lengths}
use Rattle.lower_builders.proofs.offsets.Offsets.try_from_lengths.Given as goal

abbrev pub invariant-loop-len : goal.invariant-loop-len
invariant-loop-len g l = l.offsets ≡ offsets_by_lengths (take l.len-index l.lengths)
