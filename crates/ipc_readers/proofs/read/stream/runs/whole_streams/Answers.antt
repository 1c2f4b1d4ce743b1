use Rattle.ipc_readers.proofs.ChosenStreams.{whole_law}
use Rattle.ipc_readers.proofs.read.stream.runs.whole_streams.Goals as goal

pub returns : goal.returns
returns c = whole_law
