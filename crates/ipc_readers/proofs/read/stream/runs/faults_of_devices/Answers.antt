use Rattle.ipc_readers.proofs.OfMemory.{next_fails}
use Rattle.ipc_readers.proofs.read.stream.runs.faults_of_devices.Goals as goal

pub returns : goal.returns
returns g c = λ r b step. next_fails g.R.Reads.gives g.R.Failures.device g.met.R.Reads.laws.fails c.args.reader.now r b step
