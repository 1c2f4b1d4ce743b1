use Rattle.ipc_programs.proofs.PrintSteps.{prints_last, prints_then}
use Rattle.ipc_programs.proofs.cat.slots.+slots.Goals as goal

pub put_slot-returns-in_ok-put-in-Bytes-clause-prints :
    goal.put_slot-returns-in_ok-put-in-Bytes-clause-prints
put_slot-returns-in_ok-put-in-Bytes-clause-prints g t c = prints_last _ c.put_digits.result c.in_ok-put-in-Bytes.ensures.prints c.put_digits.ensures.prints

pub put_nested-returns-in_ok-put-in-Variant-clause-prints :
    goal.put_nested-returns-in_ok-put-in-Variant-clause-prints
put_nested-returns-in_ok-put-in-Variant-clause-prints g t c =
    prints_last _ c.put_slot.result (prints_then c.in_ok-put_number-in-Variant.ensures.prints c.in_ok-put-in-Variant.ensures.prints) c.put_slot.ensures.prints

pub put_list-loop-index-preserved : goal.put_list-loop-index-preserved
put_list-loop-index-preserved g t c = prints_then c.loop-index.invariant (prints_then c.in_ok-put_comma.ensures.prints c.in_ok-put_slot.ensures.prints)

pub put_list-returns-clause-prints : goal.put_list-returns-clause-prints
put_list-returns-clause-prints g t c = prints_last _ c.put-2.result c.loop-index.invariant c.put-2.ensures.prints

pub put_record-loop-index-preserved : goal.put_record-loop-index-preserved
put_record-loop-index-preserved g t c = prints_then c.loop-index.invariant (prints_then c.in_ok-put_comma.ensures.prints c.in_ok-put_slot.ensures.prints)

pub put_record-returns-clause-prints : goal.put_record-returns-clause-prints
put_record-returns-clause-prints g t c = prints_last _ c.put-2.result c.loop-index.invariant c.put-2.ensures.prints
