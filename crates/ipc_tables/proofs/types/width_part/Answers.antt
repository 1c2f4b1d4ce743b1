use Rattle.std.proofs.Common.{rules, ◌≡◌}
use Rattle.ipc_table_bytes.specs.Parts.{no_more}
use Rattle.ipc_tables.proofs.SlotLists.{is_word}
use Rattle.ipc_tables.specs.Slots.{bits32, number_slots}
use Rattle.ipc_tables.proofs.types.width_part.Goals as goal

pub returns : goal.returns
returns c =
    let width : c.word.result ≡ bits32 c.args.width = search rules in
    c.table.ensures (number_slots 4 (bits32 c.args.width)) (is_word width c.word.ensures.small no_more)
