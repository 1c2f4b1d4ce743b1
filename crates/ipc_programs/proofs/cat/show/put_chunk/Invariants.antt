use Rattle.ipc_programs.specs.Printing.{Prints}
use Rattle.ipc_programs.proofs.cat.show.put_chunk.Given as goal

abbrev pub invariant-loop-row : goal.invariant-loop-row
invariant-loop-row g l = Prints g.W.Failures.device l.fn.printer l.printer
