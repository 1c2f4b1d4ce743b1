use Rattle.ipc_model.proofs.WrittenNumbers.{written_batch}
use Rattle.ipc_model.proofs.batches.written_batches.Goals as goal

pub returns : goal.returns
returns c = written_batch
