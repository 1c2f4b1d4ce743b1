use Rattle.ipc_model.proofs.Addresses.{address_law}
use Rattle.ipc_model.proofs.batches.addresses_of_columns.Goals as goal

pub returns : goal.returns
returns c = address_law
