use Rattle.ipc_file_write.proofs.Onward.{onward_both, onward_law, still_gives}
use Rattle.ipc_file_write.proofs.laws.old_chunks_that_stay.Goals as goal

pub returns-clause-onward : goal.returns-clause-onward
returns-clause-onward c = onward_law

pub returns-clause-both : goal.returns-clause-both
returns-clause-both c = onward_both

pub returns-clause-gives : goal.returns-clause-gives
returns-clause-gives c = still_gives
