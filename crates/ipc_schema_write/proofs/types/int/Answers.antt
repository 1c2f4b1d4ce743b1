use Rattle.ipc_schema_write.proofs.TypeTables.{int-table}
use Rattle.ipc_schema_write.proofs.types.int.Goals as goal

pub returns : goal.returns
returns c = int-table c.serialize_integer.result c.args.integer c.serialize_integer.ensures
