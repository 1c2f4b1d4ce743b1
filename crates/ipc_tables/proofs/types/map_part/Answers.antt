use Rattle.ipc_table_bytes.specs.Parts.{no_more}
use Rattle.ipc_tables.proofs.SlotLists.{is_byte}
use Rattle.ipc_tables.specs.Types.{map_slots}
use Rattle.ipc_tables.proofs.types.map_part.Goals as goal

pub returns : goal.returns
returns c = c.table.ensures (map_slots c.args.map) (is_byte c.flag.ensures.value c.flag.ensures.small no_more)
