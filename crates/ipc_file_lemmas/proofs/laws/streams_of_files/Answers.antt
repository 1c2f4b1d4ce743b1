use Rattle.ipc_file_lemmas.proofs.StreamSteps.{stream_end_law, stream_start_law, stream_write_law}
use Rattle.ipc_file_lemmas.proofs.laws.streams_of_files.Goals as goal

pub returns-clause-start : goal.returns-clause-start
returns-clause-start c = stream_start_law

pub returns-clause-write : goal.returns-clause-write
returns-clause-write c = stream_write_law

pub returns-clause-end : goal.returns-clause-end
returns-clause-end c = stream_end_law
