use Rattle.ipc_stream_lemmas.proofs.Sending.{moves_law}
use Rattle.ipc_stream_lemmas.proofs.laws.dictionaries_of_chunks.Goals as goal

pub returns : goal.returns
returns c = moves_law
