use Rattle.ipc_round_trip.proofs.Chosen.{chosen_finished, chosen_open, chosen_open_readable, chosen_readable}
use Rattle.ipc_round_trip.proofs.columns.columns_read_back.Goals as goal

pub returns-clause-finished : goal.returns-clause-finished
returns-clause-finished c = chosen_finished

pub returns-clause-readable : goal.returns-clause-readable
returns-clause-readable c = chosen_readable

pub returns-clause-open_readable : goal.returns-clause-open_readable
returns-clause-open_readable c = chosen_open_readable

pub returns-clause-open : goal.returns-clause-open
returns-clause-open c = chosen_open
