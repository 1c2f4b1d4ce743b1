use Rattle.ipc_stream_lemmas.proofs.Chunks.{written_chunk_law, encoded_chunk_law}
use Rattle.ipc_stream_lemmas.proofs.laws.written_chunks.Goals as goal

pub returns-clause-written : goal.returns-clause-written
returns-clause-written c = written_chunk_law

pub returns-clause-encoded : goal.returns-clause-encoded
returns-clause-encoded c = encoded_chunk_law
