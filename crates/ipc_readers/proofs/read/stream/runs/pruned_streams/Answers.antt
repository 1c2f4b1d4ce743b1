use Rattle.ipc_readers.proofs.PrunedStreams.{pruned_law}
use Rattle.ipc_readers.proofs.read.stream.runs.pruned_streams.Goals as goal

pub returns : goal.returns
returns c = pruned_law
