use Rattle.ipc_schema_write.proofs.TypeTables.{duration-table}
use Rattle.ipc_schema_write.proofs.types.duration.Goals as goal

pub returns : goal.returns
returns c = duration-table c.unit_tag.result c.args.unit c.unit_tag.ensures
