use Rattle.ipc_programs.specs.Printing.{Prints}
use Rattle.ipc_programs.proofs.cat.slots.put_digits.Given as goal

abbrev pub invariant-loop-byte : goal.invariant-loop-byte
invariant-loop-byte g l = Prints g.W.Failures.device l.fn.printer l.printer
