use Rattle.std.proofs.Common.{rules}
use Rattle.ipc_schema_write.proofs.TypeTables.{timestamp-table}
use Rattle.lower.specs.TypeViews.{text_of}
use Rattle.ipc_schema_write.proofs.types.timestamp.Goals as goal

pub returns : goal.returns
returns c = timestamp-table c.unit_tag.result c.args.unit c.in_ok-timezone.timezone (text_of c.args.zone.now) c.unit_tag.ensures (search rules)
