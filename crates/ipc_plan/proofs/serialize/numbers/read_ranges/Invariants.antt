use Rattle.std.proofs.Common.{take, All}
use Rattle.ipc_plan.proofs.serialize.numbers.read_ranges.Given as goal

-- The numbers so far are in the range of their type.
abbrev pub invariant-loop-value : goal.invariant-loop-value
invariant-loop-value g l = All g.T.NativeType.fits (take l.value-index l.values)
