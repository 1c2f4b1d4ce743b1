use Rattle.std.proofs.Common.{arith}
use Rattle.std.proofs.lemmas.Grind.{common_steps}
use Rattle.ipc_schema_write.proofs.Pairs.{ascend_from, own-cons}
use Rattle.ipc_schema_write.proofs.metadata.serialize_own.Goals as goal

pub loop-key-preserved-in-Continue-1 : goal.loop-key-preserved-in-Continue-1
loop-key-preserved-in-Continue-1 c = grind (arith, common_steps, own-cons)

pub loop-key-preserved : goal.loop-key-preserved
loop-key-preserved c = grind (arith, common_steps, own-cons)

pub returns-clause-ordered : goal.returns-clause-ordered
returns-clause-ordered c = ascend_from c.args.metadata.now.entries c.into_iter-key-iterator.ensures.into_iter_gives.5
