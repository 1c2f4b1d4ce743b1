use Rattle.ipc_calls.proofs.WholeLists.{whole_file}
use Rattle.ipc_calls.proofs.laws.whole_files.Goals as goal

pub returns : goal.returns
returns c = whole_file
