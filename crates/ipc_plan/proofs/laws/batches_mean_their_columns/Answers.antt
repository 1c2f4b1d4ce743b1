use Rattle.ipc_plan.proofs.Batches.{columns_batch_law}
use Rattle.ipc_plan.proofs.laws.batches_mean_their_columns.Goals as goal

pub returns : goal.returns
returns c = columns_batch_law
