use Rattle.ipc_stream_lemmas.proofs.Sending.{chunk_law}
use Rattle.ipc_stream_lemmas.proofs.laws.messages_of_chunks.Goals as goal

pub returns : goal.returns
returns c = chunk_law
