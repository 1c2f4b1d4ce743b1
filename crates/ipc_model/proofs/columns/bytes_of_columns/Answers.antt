use Rattle.ipc_model.proofs.Holding.{needed_law}
use Rattle.ipc_model.proofs.columns.bytes_of_columns.Goals as goal

pub returns : goal.returns
returns c = needed_law
