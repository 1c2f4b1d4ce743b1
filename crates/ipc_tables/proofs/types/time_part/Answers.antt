use Rattle.std.proofs.Common.{rules, ◌≡◌}
use Rattle.ipc_table_bytes.specs.Parts.{no_more}
use Rattle.ipc_tables.specs.Slots.{bits32}
use Rattle.ipc_tables.proofs.SlotLists.{is_short, is_word}
use Rattle.ipc_tables.specs.Types.{time_slots}
use Rattle.ipc_tables.proofs.types.time_part.Goals as goal

pub returns : goal.returns
returns c =
    let width : c.word.result ≡ bits32 c.args.time.bit_width = search rules in
    c.table.ensures (time_slots c.args.time) (is_short c.time_unit_number.ensures.value c.time_unit_number.ensures.small (is_word width c.word.ensures.small no_more))
