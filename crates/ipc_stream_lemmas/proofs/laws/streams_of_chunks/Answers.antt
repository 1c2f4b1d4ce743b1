use Rattle.ipc_stream_lemmas.proofs.Running.{open_run, finished_run, omit_law}
use Rattle.ipc_stream_lemmas.proofs.laws.streams_of_chunks.Goals as goal

pub returns-clause-open : goal.returns-clause-open
returns-clause-open c = open_run

pub returns-clause-finished : goal.returns-clause-finished
returns-clause-finished c = finished_run

pub returns-clause-omitted : goal.returns-clause-omitted
returns-clause-omitted c = omit_law
