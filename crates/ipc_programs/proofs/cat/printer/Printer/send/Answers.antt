use Rattle.std.proofs.Common.{rules, ◌≡◌, Ok, Err}
use Rattle.ipc_programs.proofs.PrintSteps.{send_flushed, send_unflushed, send_unwritten, sends_all}
use Rattle.ipc_programs.proofs.cat.printer.Printer.send.Goals as goal

-- the write failed
pub returns-in_err-sent-clause-sends : goal.returns-in_err-sent-clause-sends
returns-in_err-sent-clause-sends g c =
    let e : c.from_residual.result ≡ Err c.in_err-sent.field-0.0 = search rules in
    rw e (send_unwritten _ c.args.self.now (record { out = c.write_all-sent.new.self; kept = c.clear.new.self }) c.deref.result.now _ (search rules) (rw c.in_err-sent.was at c.write_all-sent.ensures) c.clear.ensures.items)

-- the flush failed
pub returns-in_err-flush-clause-sends : goal.returns-in_err-flush-clause-sends
returns-in_err-flush-clause-sends g c =
    let e : c.from_residual-in_err-flush.result ≡ Err c.in_err-flush.field-0.0 = search rules in
    rw e (send_unflushed _ c.args.self.now (record { out = c.flush.new.self; kept = c.clear.new.self }) _ c.deref.result.now _ _ (search rules) (rw c.in_ok-sent.was at c.write_all-sent.ensures) c.in_err-flush.ensures c.clear.ensures.items)

pub returns-clause-sends : goal.returns-clause-sends
returns-clause-sends g c =
    send_flushed _ c.args.self.now (record { out = c.flush.new.self; kept = c.clear.new.self }) _ c.deref.result.now _ _ (search rules) (rw c.in_ok-sent.was at c.write_all-sent.ensures) c.in_ok-flush.ensures c.clear.ensures.items

pub returns-clause-all : goal.returns-clause-all
returns-clause-all g c = sends_all g.W.Failures.device {X = Unit {0}} c.args.self.now (record { out = c.flush.new.self; kept = c.clear.new.self }) (Ok tt) (returns-clause-sends g c)
