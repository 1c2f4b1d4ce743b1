use Rattle.ipc_programs.proofs.PrintSteps.{prints_last, prints_then}
use Rattle.ipc_programs.proofs.cat.slots.put_scalar.Goals as goal

pub returns-in_ok-put_number-in-DayTime-2-clause-prints : goal.returns-in_ok-put_number-in-DayTime-2-clause-prints
returns-in_ok-put_number-in-DayTime-2-clause-prints g c = prints_last _ c.put-in-DayTime-2.result (prints_then c.in_ok-put-in-DayTime.ensures.prints (prints_then c.in_ok-put_number-in-DayTime.ensures.prints (prints_then c.in_ok-put-in-DayTime-2.ensures.prints c.in_ok-put_number-in-DayTime-2.ensures.prints))) c.put-in-DayTime-2.ensures.prints

pub returns-in_ok-put_number-in-MonthDayNano-3-clause-prints : goal.returns-in_ok-put_number-in-MonthDayNano-3-clause-prints
returns-in_ok-put_number-in-MonthDayNano-3-clause-prints g c = prints_last _ c.put-in-MonthDayNano-4.result (prints_then c.in_ok-put-in-MonthDayNano.ensures.prints (prints_then c.in_ok-put_number-in-MonthDayNano.ensures.prints (prints_then c.in_ok-put-in-MonthDayNano-2.ensures.prints (prints_then c.in_ok-put_number-in-MonthDayNano-2.ensures.prints (prints_then c.in_ok-put-in-MonthDayNano-3.ensures.prints c.in_ok-put_number-in-MonthDayNano-3.ensures.prints))))) c.put-in-MonthDayNano-4.ensures.prints
