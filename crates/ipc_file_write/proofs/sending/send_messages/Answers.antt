use Rattle.ipc_write.proofs.Deliveries.{delivered}
use Rattle.ipc_write.specs.Messages.{all_seen, messages_bytes}
use Rattle.ipc_file_write.proofs.sending.send_messages.Goals as goal

pub returns-clause-sends : goal.returns-clause-sends
returns-clause-sends g c = rw c.note_failure.ensures.same (delivered _ _ _ _ (messages_bytes (all_seen c.args.messages.now)) c.write_messages-sent.ensures)
