use Rattle.ipc_calls.proofs.WholeLists.{whole_stream}
use Rattle.ipc_calls.proofs.laws.whole_streams.Goals as goal

pub returns : goal.returns
returns c = whole_stream
