use Rattle.std.proofs.Common.{rules, ◌≡◌, Err}
use Rattle.ipc_write.proofs.Refusals.{state_answered}
use Rattle.ipc_write.specs.Writers.{fault_unless_started}
use Rattle.ipc_file_write.proofs.file.FileWriter.finishing.Goals as goal

pub returns-in_err-check_started-clause-first : goal.returns-in_err-check_started-clause-first
returns-in_err-check_started-clause-first g c =
    let fault = c.in_err-check_started.field-0.0 in
    let e : c.from_residual.result ≡ Err fault = search rules in
    state_answered (fault_unless_started c.args.self.now.state) fault c.from_residual.result e c.in_err-check_started.ensures.only
