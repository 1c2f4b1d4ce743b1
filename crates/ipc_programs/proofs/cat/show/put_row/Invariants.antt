use Rattle.ipc_programs.specs.Printing.{Prints}
use Rattle.ipc_programs.proofs.cat.show.put_row.Given as goal

abbrev pub invariant-loop-column : goal.invariant-loop-column
invariant-loop-column g l = Prints g.W.Failures.device l.fn.printer l.printer
