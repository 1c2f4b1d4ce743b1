use Rattle.ipc_programs.specs.Printing.{Prints}
use Rattle.ipc_programs.proofs.cat.show.put_schema.Given as goal

abbrev pub invariant-loop-field : goal.invariant-loop-field
invariant-loop-field g l = Prints g.W.Failures.device l.fn.printer l.printer
