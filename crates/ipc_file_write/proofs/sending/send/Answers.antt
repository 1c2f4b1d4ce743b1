use Rattle.ipc_write.proofs.Deliveries.{delivered}
use Rattle.ipc_file_write.proofs.sending.send.Goals as goal

pub returns-clause-sends : goal.returns-clause-sends
returns-clause-sends g c = rw c.note_failure.ensures.same (delivered _ _ _ _ c.args.bytes.now c.send_bytes-sent.ensures)
