use Rattle.ipc_schema_write.proofs.TypeTables.{date-table}
use Rattle.ipc_schema_write.proofs.types.date.Goals as goal

pub returns : goal.returns
returns c = date-table c.args.unit
