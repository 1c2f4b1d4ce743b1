use Rattle.ipc_tracker.proofs.Refusals.{refusal_law}
use Rattle.ipc_tracker.proofs.laws.refused_dictionaries.Goals as goal

pub returns : goal.returns
returns c = refusal_law
