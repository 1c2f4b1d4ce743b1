use Rattle.ipc_file_readers.proofs.Runs.{items_law, over_law, told_once_law}
use Rattle.ipc_file_readers.proofs.read.reader.runs.reading_of_files.Goals as goal

pub returns-clause-items : goal.returns-clause-items
returns-clause-items g c = items_law g.R.Failures.device g.met.R.Seeks.known_still c.args.reader.now

pub returns-clause-told_once : goal.returns-clause-told_once
returns-clause-told_once g c = told_once_law g.R.Failures.device g.met.R.Seeks.known_still c.args.reader.now

pub returns-clause-over : goal.returns-clause-over
returns-clause-over g c = over_law g.R.Failures.device g.met.R.Seeks.known_still c.args.reader.now
