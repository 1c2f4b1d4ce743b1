use Rattle.ipc_stream_lemmas.proofs.Fitting.{accepted_chunk_law}
use Rattle.ipc_stream_lemmas.proofs.laws.accepted_chunks.Goals as goal

pub returns : goal.returns
returns c = accepted_chunk_law
