use Rattle.ipc_stream_lemmas.proofs.FileChunks.{listed_blocks_law, file_chunk_law}
use Rattle.ipc_stream_lemmas.proofs.laws.chunks_of_files.Goals as goal

pub returns-clause-listed : goal.returns-clause-listed
returns-clause-listed c = listed_blocks_law

pub returns-clause-added : goal.returns-clause-added
returns-clause-added c = file_chunk_law
