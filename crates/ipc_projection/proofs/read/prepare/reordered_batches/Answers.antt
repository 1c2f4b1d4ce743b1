use Rattle.ipc_projection.proofs.Reordered.{reorder_law}
use Rattle.ipc_projection.proofs.read.prepare.reordered_batches.Goals as goal

pub returns : goal.returns
returns c = reorder_law c.args.map.now
