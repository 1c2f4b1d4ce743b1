use Rattle.ipc_plan.proofs.Offsets.{from_none_64}
use Rattle.ipc_plan.proofs.serialize.offsets.large_piece.Goals as goal

pub returns-then-offsets-eq0-clause-bytes : goal.returns-then-offsets-eq0-clause-bytes
returns-then-offsets-eq0-clause-bytes c = λ order. from_none_64 order c.args.offsets.now c.if-offsets-eq0.true c.read_ranges.ensures
