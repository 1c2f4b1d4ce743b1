use Rattle.ipc_round_trip.proofs.Streams.{finished_law, open_law, open_readable, readable_law}
use Rattle.ipc_round_trip.proofs.round_trip.reads_back.Goals as goal

pub returns-clause-finished : goal.returns-clause-finished
returns-clause-finished c = finished_law

pub returns-clause-readable : goal.returns-clause-readable
returns-clause-readable c = readable_law

pub returns-clause-open_readable : goal.returns-clause-open_readable
returns-clause-open_readable c = open_readable

pub returns-clause-open : goal.returns-clause-open
returns-clause-open c = open_law
