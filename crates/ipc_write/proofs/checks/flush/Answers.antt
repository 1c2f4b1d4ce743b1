use Rattle.ipc_write.proofs.MessageSends.{leaves_sent}
use Rattle.ipc_write.proofs.WriterSteps.{io_flush, leaves_flushed, not_failed}
use Rattle.ipc_write.proofs.checks.flush.Goals as goal

pub returns-in_default-clause-flushes : goal.returns-in_default-clause-flushes
returns-in_default-clause-flushes g c = rw c.note_failure.ensures.same c.flush_device-flushed.ensures.flushes

pub returns-in_default-clause-only : goal.returns-in_default-clause-only
returns-in_default-clause-only g c =
    rw c.note_failure.ensures.same (io_flush g.W.Failures.device c.args.state.now c.flush_device-flushed.result c.flush_device-flushed.ensures.only)

pub returns-in_default-clause-first : goal.returns-in_default-clause-first
returns-in_default-clause-first g c = not_failed c.args.state.now _ c.in_default.not-Failed

pub returns-in_default-clause-state : goal.returns-in_default-clause-state
returns-in_default-clause-state g c =
    rw c.note_failure.ensures.same
    (leaves_flushed c.flush_device-flushed.result c.args.state.now c.note_failure.new.state c.in_default.not-Finished
    (leaves_sent g.W.Failures.device c.args.state.now c.note_failure.new.state c.flush_device-flushed.result c.flush_device-flushed.ensures.only c.note_failure.ensures.stays c.note_failure.ensures.failed))

pub returns-in-Finished-clause-only : goal.returns-in-Finished-clause-only
returns-in-Finished-clause-only g c = io_flush g.W.Failures.device c.args.state.now c.flush_device.result c.flush_device.ensures.only
