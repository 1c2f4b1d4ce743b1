use Rattle.ipc_projection.proofs.AskedOrder.{asked_batch_law, asked_record_law}
use Rattle.ipc_projection.proofs.read.asked.asked_batches.Goals as goal

pub returns-clause-batches : goal.returns-clause-batches
returns-clause-batches c = asked_batch_law

pub returns-clause-records : goal.returns-clause-records
returns-clause-records c = asked_record_law
