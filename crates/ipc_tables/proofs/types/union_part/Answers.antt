use Rattle.std.specs.Prelude.{option_map}
use Rattle.ipc_table_bytes.specs.Parts.{no_more}
use Rattle.ipc_tables.proofs.SlotLists.{is_optional, is_short}
use Rattle.ipc_tables.specs.Types.{ids_part, union_slots}
use Rattle.ipc_tables.proofs.types.union_part.Goals as goal

pub returns : goal.returns
returns c =
    let ids = option_map (λ v. ids_part v.items) c.args.union.now.type_ids in
    c.table.ensures (union_slots c.args.union.now)
    (is_short c.union_mode_number.ensures.value c.union_mode_number.ensures.small (is_optional c.in_ok-ids.ids ids c.in_ok-ids.ensures no_more))
