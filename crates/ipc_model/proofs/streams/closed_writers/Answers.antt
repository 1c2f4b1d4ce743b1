use Rattle.ipc_model.proofs.WriterRuns.{closed_law}
use Rattle.ipc_model.proofs.streams.closed_writers.Goals as goal

pub returns : goal.returns
returns c = closed_law
