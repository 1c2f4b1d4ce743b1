use Rattle.std.proofs.Common.{rules}
use Rattle.ipc_file_readers.proofs.Nexts.{next_step}
use Rattle.ipc_file_readers.proofs.read.reader.next.FileReaderIterator.next.Goals as goal

pub returns-in-Ok-clause-steps : goal.returns-in-Ok-clause-steps
returns-in-Ok-clause-steps g c =
    next_step g.R.Failures.device g.met.R.Seeks.known_still
    c.args.self.now c.read_dictionaries.new.self c.read_next.new.self c.in-Ok.ensures.gave c.read_next.result c.read_next.ensures.next (search rules)
