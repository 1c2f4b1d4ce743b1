use Rattle.std.proofs.Common.{◌≤◌}
use Rattle.ipc_programs.specs.Printing.{Prints}
use Rattle.ipc_programs.proofs.cat.printer.put_text.Given as goal

-- The bytes from `start` on are still to be printed.
abbrev pub invariant-loop-at : goal.invariant-loop-at
invariant-loop-at g l = record {
  within : l.start ≤ l.at;
  prints : Prints g.W.Failures.device l.fn.printer l.printer;
}
