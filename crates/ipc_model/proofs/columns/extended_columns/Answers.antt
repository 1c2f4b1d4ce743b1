use Rattle.ipc_model.proofs.ExtendedSlots.{extend_law}
use Rattle.ipc_model.proofs.columns.extended_columns.Goals as goal

pub returns : goal.returns
returns c = extend_law
