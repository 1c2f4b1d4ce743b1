use Rattle.ipc_tables.specs.Messages.{message_slots}
use Rattle.ipc_tables.proofs.MessageLaws.{message-read-from}
use Rattle.ipc_tables.proofs.WeightLaws.{weight-from}
use Rattle.ipc_tables.proofs.message.Message.to_bytes.Goals as goal

pub returns-clause-weight : goal.returns-clause-weight
returns-clause-weight c = λ schema e bare.
    weight-from c.message.result c.args.self.now schema e bare (c.message.ensures (message_slots c.args.self.now) c.in_ok-message_part.ensures)

pub returns-clause-reads : goal.returns-clause-reads
returns-clause-reads c = λ levels.
    message-read-from c.message.result c.args.self.now (c.message.ensures (message_slots c.args.self.now) c.in_ok-message_part.ensures) levels
