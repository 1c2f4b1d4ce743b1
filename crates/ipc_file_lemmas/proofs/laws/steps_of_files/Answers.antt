use Rattle.ipc_file_lemmas.proofs.FileSteps.{end_law, grow_law, size_law, start_law, write_law}
use Rattle.ipc_file_lemmas.proofs.laws.steps_of_files.Goals as goal

pub returns-clause-start : goal.returns-clause-start
returns-clause-start c = start_law

pub returns-clause-grown : goal.returns-clause-grown
returns-clause-grown c = grow_law

pub returns-clause-longer : goal.returns-clause-longer
returns-clause-longer c = size_law

pub returns-clause-write : goal.returns-clause-write
returns-clause-write c = write_law

pub returns-clause-end : goal.returns-clause-end
returns-clause-end c = end_law
