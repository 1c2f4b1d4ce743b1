use Rattle.ipc_programs.proofs.PrintSteps.{prints_last, prints_then}
use Rattle.ipc_programs.proofs.cat.slots.put_wide.Goals as goal

pub returns-clause-prints : goal.returns-clause-prints
returns-clause-prints g c =
    prints_last _ c.put_digits-2.result (prints_then c.in_ok-put.ensures.prints c.in_ok-put_digits.ensures.prints) c.put_digits-2.ensures.prints
