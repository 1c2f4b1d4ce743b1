use Rattle.ipc_model.proofs.HeldColumns.{chosen_held_law}
use Rattle.ipc_model.proofs.batches.bytes_of_chosen_arrays.Goals as goal

pub returns : goal.returns
returns c = chosen_held_law
