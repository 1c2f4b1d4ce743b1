use Rattle.ipc_model.proofs.Visiting.{visit_law}
use Rattle.ipc_model.proofs.streams.visits_of_schemas.Goals as goal

pub returns : goal.returns
returns c = visit_law
