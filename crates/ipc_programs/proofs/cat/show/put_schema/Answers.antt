use Rattle.ipc_programs.proofs.PrintSteps.{prints_then}
use Rattle.ipc_programs.proofs.cat.show.put_schema.Goals as goal

pub loop-field-init : goal.loop-field-init
loop-field-init g c = prints_then c.in_ok-put.ensures.prints (prints_then c.in_ok-put_number.ensures.prints c.in_ok-put-2.ensures.prints)

pub loop-field-preserved : goal.loop-field-preserved
loop-field-preserved g c = prints_then c.loop-field.invariant (prints_then c.in_ok-put_text.ensures.prints c.in_ok-put-3.ensures.prints)
