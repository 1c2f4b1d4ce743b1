use Rattle.ipc_programs.proofs.PrintSteps.{nothing_printed}
use Rattle.ipc_programs.proofs.cat.slots.put_comma.Goals as goal

pub returns-then-index-eq0-clause-prints : goal.returns-then-index-eq0-clause-prints
returns-then-index-eq0-clause-prints g c = nothing_printed _
