use Rattle.ipc_table_bytes.specs.Parts.{no_more}
use Rattle.ipc_tables.proofs.types.empty_part.Goals as goal

pub returns : goal.returns
returns c = c.table.ensures _ no_more
