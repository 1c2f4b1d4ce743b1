use Rattle.ipc_programs.proofs.PrintSteps.{nothing_printed}
use Rattle.ipc_programs.proofs.cat.show.put_tab.Goals as goal

pub returns-then-column-eq0-clause-prints : goal.returns-then-column-eq0-clause-prints
returns-then-column-eq0-clause-prints g c = nothing_printed _
