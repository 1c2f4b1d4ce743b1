use Rattle.ipc_model.proofs.WriterSteps.{start_law, write_law, finish_law}
use Rattle.ipc_model.proofs.streams.steps_of_writers.Goals as goal

pub returns-clause-start : goal.returns-clause-start
returns-clause-start c = start_law

pub returns-clause-write : goal.returns-clause-write
returns-clause-write c = write_law

pub returns-clause-finish : goal.returns-clause-finish
returns-clause-finish c = finish_law
