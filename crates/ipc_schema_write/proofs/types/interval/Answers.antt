use Rattle.ipc_schema_write.proofs.TypeTables.{interval-table}
use Rattle.ipc_schema_write.proofs.types.interval.Goals as goal

pub returns : goal.returns
returns c = interval-table c.interval_tag.result c.args.unit c.interval_tag.ensures
