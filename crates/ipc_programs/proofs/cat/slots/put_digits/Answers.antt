use Rattle.ipc_programs.proofs.PrintSteps.{nothing_printed, prints_then}
use Rattle.ipc_programs.proofs.cat.slots.put_digits.Goals as goal

pub loop-byte-init : goal.loop-byte-init
loop-byte-init g c = nothing_printed _

pub loop-byte-preserved : goal.loop-byte-preserved
loop-byte-preserved g c = prints_then c.loop-byte.invariant c.in_ok-put_byte.ensures.prints
