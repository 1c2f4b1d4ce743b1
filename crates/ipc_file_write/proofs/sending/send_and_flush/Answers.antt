use Rattle.std.proofs.Common.{rules, ◌≡◌, Err}
use Rattle.std.proofs.lemmas.Result.{err_from_is_err_and}
use Rattle.ipc_file_write.specs.FileWriters.{ending_bytes}
use Rattle.ipc_write.proofs.Deliveries.{flushed, stopped, unflushed}
use Rattle.ipc_file_write.proofs.sending.send_and_flush.Goals as goal

pub returns-in_err-send_ending-clause-sends : goal.returns-in_err-send_ending-clause-sends
returns-in_err-send_ending-clause-sends g c =
    let e : c.from_residual.result ≡ Err c.in_err-send_ending.field-0.0 = search rules in
    rw e (stopped {X = Unit {0}} {Y = Unit {0}} _ _ _ _ (ending_bytes c.args.ending.now) c.in_err-send_ending.ensures)

pub returns-in_err-flush-clause-sends : goal.returns-in_err-flush-clause-sends
returns-in_err-flush-clause-sends g c =
    let w = c.in_err-flush.ensures in
    let e = err_from_is_err_and c.from_residual-in_err-flush.result c.from_residual-in_err-flush.ensures.1 in
    rw (e.1, e.2) (unflushed {X = Unit {0}} {Y = Unit {0}} g.W.Failures.device _ _ _ _ _ (ending_bytes c.args.ending.now) c.in_ok-send_ending.ensures w.monotone w.failed w.answered w.memory w.names)

pub returns-clause-sends : goal.returns-clause-sends
returns-clause-sends g c = flushed {X = Unit {0}} _ _ _ _ tt (ending_bytes c.args.ending.now) c.in_ok-send_ending.ensures c.in_ok-flush.ensures.done c.in_ok-flush.ensures.memory c.in_ok-flush.ensures.names

pub returns-clause-flushed : goal.returns-clause-flushed
returns-clause-flushed g c = c.in_ok-flush.ensures.flushed
