use Rattle.ipc_stream_lemmas.proofs.Knowing.{known_law}
use Rattle.ipc_stream_lemmas.proofs.laws.known_dictionaries.Goals as goal

pub returns : goal.returns
returns c = known_law
