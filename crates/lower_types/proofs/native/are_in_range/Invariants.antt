use Rattle.std.proofs.Common.{take}
use Rattle.std.specs.List.{All}
use Rattle.lower_types.proofs.native.are_in_range.Given as goal

abbrev pub invariant-loop-value : goal.invariant-loop-value
invariant-loop-value g l = All g.T.NativeType.fits (take l.value-index l.values)
