use Rattle.ipc_file_readers.specs.Readers.{blocks_left}
use Rattle.ipc_programs.proofs.Blocks.{HasGiven}
use Rattle.ipc_programs.specs.Printing.{Prints}
use Rattle.ipc_programs.proofs.cat.file.show_blocks.Given as goal

abbrev pub invariant-loop : goal.invariant-loop
invariant-loop g l = record {
  given : HasGiven g.F.Failures.device l.fn.reader l.reader;
  prints : Prints g.W.Failures.device l.fn.printer l.printer;
}

abbrev pub decreases-loop : goal.decreases-loop
decreases-loop g l = blocks_left l.reader
