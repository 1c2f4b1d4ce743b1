use Rattle.ipc_sessions.proofs.EndedFiles.{before_law, ended_law, may_law}
use Rattle.ipc_sessions.proofs.laws.files_that_sessions_left.Goals as goal

pub returns-clause-reads : goal.returns-clause-reads
returns-clause-reads c = ended_law

pub returns-clause-may : goal.returns-clause-may
returns-clause-may c = may_law

pub returns-clause-before : goal.returns-clause-before
returns-clause-before c = before_law
