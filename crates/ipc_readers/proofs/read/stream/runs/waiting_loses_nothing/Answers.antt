use Rattle.ipc_readers.proofs.Waiting.{waits_with_all}
use Rattle.ipc_readers.proofs.read.stream.runs.waiting_loses_nothing.Goals as goal

pub returns : goal.returns
returns g c = λ b going step. waits_with_all g.R.Reads.gives g.R.Failures.device g.met.R.Reads.laws.in_order g.met.R.Reads.laws.counted c.args.reader.now b going step
