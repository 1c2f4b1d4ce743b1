use Rattle.std.proofs.Common.{arith}
use Rattle.ipc_programs.proofs.PrintSteps.{prints_last, prints_then}
use Rattle.ipc_programs.proofs.cat.printer.put_text.Goals as goal
use Rattle.ipc_programs.proofs.cat.printer.put_text.Goals.{then-is_escaped+in_ok-put-2+in_ok-put-3+in_ok-put_byte, else-is_escaped}

pub loop-at-preserved : goal.loop-at-preserved
loop-at-preserved g c =
    elim c.if-is_escaped.branch [
      | then-is_escaped+in_ok-put-2+in_ok-put-3+in_ok-put_byte w ↦ record {
        within = let start = w.start-is in omega (arith, start);
        prints =
            rw w.printer-is (prints_then c.loop-at.invariant.prints
            (prints_then w.in_ok-put-2.ensures.prints (prints_then w.in_ok-put-3.ensures.prints w.in_ok-put_byte.ensures.prints)));
      }
      | else-is_escaped w ↦ record {
        within = let start = w.start-is in let before = c.loop-at.invariant.within in omega (arith, start, before);
        prints = rw w.printer-is c.loop-at.invariant.prints;
      }
    ]

pub returns-clause-prints : goal.returns-clause-prints
returns-clause-prints g c = prints_last _ c.put-3.result (prints_then c.loop-at.invariant.prints c.in_ok-put-4.ensures.prints) c.put-3.ensures.prints
