use Rattle.ipc_schema_write.proofs.TypeTables.{time64-table}
use Rattle.ipc_schema_write.proofs.types.time64.Goals as goal

pub returns : goal.returns
returns c = time64-table c.unit_tag.result c.args.unit c.unit_tag.ensures c.requires
