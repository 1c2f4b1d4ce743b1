use Rattle.ipc_programs.proofs.PrintSteps.{nothing_printed, prints_last, prints_then}
use Rattle.ipc_programs.proofs.cat.show.put_row.Goals as goal

pub loop-column-init : goal.loop-column-init
loop-column-init g c = nothing_printed _

pub loop-column-preserved : goal.loop-column-preserved
loop-column-preserved g c = prints_then c.loop-column.invariant (prints_then c.in_ok-put_tab.ensures.prints c.in_ok-put_cell.ensures.prints)

pub returns-clause-prints : goal.returns-clause-prints
returns-clause-prints g c = prints_last _ c.put.result c.loop-column.invariant c.put.ensures.prints
