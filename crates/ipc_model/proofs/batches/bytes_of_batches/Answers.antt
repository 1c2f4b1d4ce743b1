use Rattle.ipc_model.proofs.Holding.{batch_needed_law}
use Rattle.ipc_model.proofs.batches.bytes_of_batches.Goals as goal

pub returns : goal.returns
returns c = batch_needed_law
