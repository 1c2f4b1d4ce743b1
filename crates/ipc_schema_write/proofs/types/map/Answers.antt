use Rattle.ipc_schema_write.proofs.TypeTables.{map-table}
use Rattle.ipc_schema_write.proofs.types.map.Goals as goal

pub returns : goal.returns
returns c = map-table c.args.keys_sorted
