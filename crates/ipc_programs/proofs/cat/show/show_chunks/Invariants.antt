use Rattle.ipc_convert.proofs.Handing.{HandedMany}
use Rattle.ipc_convert.specs.Sources.{StreamCame}
use Rattle.ipc_programs.specs.Printing.{Prints}
use Rattle.ipc_programs.specs.Shown.{anything}
use Rattle.ipc_programs.proofs.cat.show.show_chunks.Given as goal

-- The chunks so far were read and printed.
abbrev pub invariant-loop : goal.invariant-loop
invariant-loop g l = record {
  came : HandedMany (StreamCame g.R.Reads.gives) anything l.counter l.fn.reader tt l.reader tt;
  prints : Prints g.W.Failures.device l.fn.printer l.printer;
}
