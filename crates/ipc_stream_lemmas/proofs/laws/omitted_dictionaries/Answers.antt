use Rattle.ipc_stream_lemmas.proofs.Readers.{omitted_law}
use Rattle.ipc_stream_lemmas.proofs.laws.omitted_dictionaries.Goals as goal

pub returns : goal.returns
returns c = omitted_law
