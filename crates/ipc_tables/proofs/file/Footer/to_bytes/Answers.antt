use Rattle.ipc_tables.specs.Files.{footer_slots}
use Rattle.ipc_tables.proofs.MessageLaws.{footer-read-from}
use Rattle.ipc_tables.proofs.file.Footer.to_bytes.Goals as goal

pub returns-clause-reads : goal.returns-clause-reads
returns-clause-reads c = λ levels.
    footer-read-from c.message.result c.args.self.now (c.message.ensures (footer_slots c.args.self.now) c.in_ok-footer_part.ensures) levels
