use Rattle.std.specs.Prelude.{option_map, string_bytes}
use Rattle.ipc_table_bytes.specs.Parts.{no_more}
use Rattle.ipc_table_bytes.specs.Tree.{text}
use Rattle.ipc_tables.proofs.SlotLists.{is_optional, is_short}
use Rattle.ipc_tables.specs.Types.{timestamp_slots}
use Rattle.ipc_tables.proofs.types.timestamp_part.Goals as goal

pub returns : goal.returns
returns c =
    let zone = option_map (λ s. text (string_bytes s)) c.args.timestamp.now.timezone in
    c.table.ensures (timestamp_slots c.args.timestamp.now)
    (is_short c.time_unit_number.ensures.value c.time_unit_number.ensures.small (is_optional c.in_ok-timezone.timezone zone c.in_ok-timezone.ensures no_more))
