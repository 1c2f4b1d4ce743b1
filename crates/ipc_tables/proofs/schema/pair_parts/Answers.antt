use Rattle.std.proofs.Common.{arith}
use Rattle.ipc_tables.proofs.BuiltLists.{AreBuilt-next}
use Rattle.ipc_tables.specs.Schemas.{pair_part}
use Rattle.ipc_tables.proofs.schema.pair_parts.Goals as goal

pub loop-pair-preserved : goal.loop-pair-preserved
loop-pair-preserved c =
    rw c.in_ok-push.ensures
    (AreBuilt-next pair_part c.loop-pair.parts.items c.args.pairs.now c.loop-pair.pair-index c.in_ok-pair_part.field-0 c.pair-item.result _ (omega arith) c.pair-item.is c.loop-pair.invariant c.in_ok-pair_part.ensures)
