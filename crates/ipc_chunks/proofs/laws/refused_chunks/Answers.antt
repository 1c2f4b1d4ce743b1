use Rattle.ipc_chunks.proofs.Refusals.{misses_law}
use Rattle.ipc_chunks.proofs.laws.refused_chunks.Goals as goal

pub returns : goal.returns
returns c = misses_law
