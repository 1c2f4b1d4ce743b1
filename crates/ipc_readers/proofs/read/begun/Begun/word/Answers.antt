use Rattle.std.proofs.Common.{rules, ◌≡◌, Err}
use Rattle.ipc_readers.proofs.read.begun.Begun.word.Goals as goal

pub returns-in_err-n-clause-answered : goal.returns-in_err-n-clause-answered
returns-in_err-n-clause-answered g c =
    let e : c.from_residual.result ≡ Err c.in_err-n.field-0.0 = search rules in
    rw e (c.fill.new.reader, c.in_err-n.ensures.answered)
