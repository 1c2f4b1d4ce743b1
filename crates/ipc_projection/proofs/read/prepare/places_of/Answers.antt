use Rattle.std.proofs.Common.{refl}
use Rattle.ipc_projection.proofs.Preparing.{has_all, has_more}
use Rattle.ipc_projection.proofs.read.prepare.places_of.Goals as goal

pub loop-column-preserved : goal.loop-column-preserved
loop-column-preserved c =
    has_more c.loop-column.places c.insert.new.self c.args.pairs.now c.loop-column.column _ (0, 0) c.loop-column.invariant c.loop-column-test.true c.in_ok-insert.ensures.updates refl

pub returns : goal.returns
returns c = has_all c.loop-column.places c.args.pairs.now c.loop-column.column c.loop-column-test.false c.loop-column.invariant
