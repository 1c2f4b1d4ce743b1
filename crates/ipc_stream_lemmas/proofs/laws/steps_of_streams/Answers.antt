use Rattle.ipc_stream_lemmas.proofs.Running.{open_start, open_write, open_finish}
use Rattle.ipc_stream_lemmas.proofs.laws.steps_of_streams.Goals as goal

pub returns-clause-start : goal.returns-clause-start
returns-clause-start c = open_start

pub returns-clause-write : goal.returns-clause-write
returns-clause-write c = open_write

pub returns-clause-finish : goal.returns-clause-finish
returns-clause-finish c = open_finish
