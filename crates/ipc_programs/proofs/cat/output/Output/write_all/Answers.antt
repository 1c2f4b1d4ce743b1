use Rattle.std.proofs.Common.{rules}
use Rattle.ipc_programs.proofs.PrintSteps.{roomless}
use Rattle.ipc_programs.proofs.cat.output.Output.write_all.Goals as goal

pub returns : goal.returns
returns g c = record { same = search rules; sends = roomless _ _ _ _ _ c.write_all.ensures.sends; done = c.write_all.ensures.sends.done }
