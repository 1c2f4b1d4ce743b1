use Rattle.ipc_model.proofs.WriterRuns.{keep_law}
use Rattle.ipc_model.proofs.streams.kept_by_writers.Goals as goal

pub returns : goal.returns
returns c = keep_law
