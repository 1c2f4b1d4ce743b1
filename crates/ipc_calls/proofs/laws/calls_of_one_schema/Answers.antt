use Rattle.ipc_calls.proofs.WholeLists.{one_head}
use Rattle.ipc_calls.proofs.laws.calls_of_one_schema.Goals as goal

pub returns : goal.returns
returns c = one_head
