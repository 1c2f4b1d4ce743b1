use Rattle.ipc_programs.proofs.PrintSteps.{all_last}
use Rattle.ipc_programs.proofs.cat.show.send_chunk.Goals as goal

pub returns-clause-all : goal.returns-clause-all
returns-clause-all g c = all_last _ c.send.result c.in_ok-put_chunk.ensures.prints c.send.ensures.all
