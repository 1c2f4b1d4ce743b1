use Rattle.ipc_stream_lemmas.proofs.Chunks.{listed_law}
use Rattle.ipc_stream_lemmas.proofs.laws.listed_dictionaries.Goals as goal

pub returns : goal.returns
returns c = listed_law
