use Rattle.ipc_model.proofs.ChosenNeeds.{chosen_needed_law}
use Rattle.ipc_model.proofs.batches.bytes_of_chosen_columns.Goals as goal

pub returns : goal.returns
returns c = chosen_needed_law
