use Rattle.ipc_schema_write.proofs.TypeTables.{time32-table}
use Rattle.ipc_schema_write.proofs.types.time32.Goals as goal

pub returns : goal.returns
returns c = time32-table c.unit_tag.result c.args.unit c.unit_tag.ensures c.requires
