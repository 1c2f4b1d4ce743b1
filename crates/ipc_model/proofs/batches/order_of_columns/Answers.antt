use Rattle.ipc_model.proofs.Addresses.{order_law}
use Rattle.ipc_model.proofs.batches.order_of_columns.Goals as goal

pub returns : goal.returns
returns c = order_law
