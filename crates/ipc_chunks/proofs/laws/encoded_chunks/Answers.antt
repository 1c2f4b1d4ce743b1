use Rattle.ipc_chunks.proofs.Meanings.{meaning_law}
use Rattle.ipc_chunks.proofs.Acceptance.{taken_law}
use Rattle.ipc_chunks.proofs.laws.encoded_chunks.Goals as goal

pub returns-clause-means : goal.returns-clause-means
returns-clause-means c = meaning_law

pub returns-clause-taken : goal.returns-clause-taken
returns-clause-taken c = taken_law
