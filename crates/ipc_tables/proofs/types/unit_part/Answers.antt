use Rattle.std.proofs.Common.{refl}
use Rattle.ipc_table_bytes.specs.Parts.{no_more}
use Rattle.ipc_tables.proofs.SlotLists.{is_short}
use Rattle.ipc_tables.specs.Slots.{number_slots}
use Rattle.ipc_tables.proofs.types.unit_part.Goals as goal

pub returns : goal.returns
returns c = c.table.ensures (number_slots 2 c.args.number) (is_short refl c.requires no_more)
