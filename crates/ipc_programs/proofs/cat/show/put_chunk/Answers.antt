use Rattle.ipc_programs.proofs.PrintSteps.{prints_then}
use Rattle.ipc_programs.proofs.cat.show.put_chunk.Goals as goal

pub loop-row-init : goal.loop-row-init
loop-row-init g c = prints_then c.in_ok-put.ensures.prints (prints_then c.in_ok-put_number.ensures.prints c.in_ok-put-2.ensures.prints)

pub loop-row-preserved : goal.loop-row-preserved
loop-row-preserved g c = prints_then c.loop-row.invariant c.in_ok-put_row.ensures.prints
