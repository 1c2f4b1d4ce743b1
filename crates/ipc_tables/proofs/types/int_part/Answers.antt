use Rattle.std.proofs.Common.{rules, ◌≡◌}
use Rattle.ipc_table_bytes.specs.Parts.{no_more}
use Rattle.ipc_tables.specs.Slots.{bits32}
use Rattle.ipc_tables.proofs.SlotLists.{is_byte, is_word}
use Rattle.ipc_tables.specs.Types.{int_slots}
use Rattle.ipc_tables.proofs.types.int_part.Goals as goal

pub returns : goal.returns
returns c =
    let width : c.word.result ≡ bits32 c.args.int.bit_width = search rules in
    c.table.ensures (int_slots c.args.int) (is_word width c.word.ensures.small (is_byte c.flag.ensures.value c.flag.ensures.small no_more))
