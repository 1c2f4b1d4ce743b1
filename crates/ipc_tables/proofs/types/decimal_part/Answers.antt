use Rattle.std.proofs.Common.{rules, ◌≡◌}
use Rattle.ipc_table_bytes.specs.Parts.{no_more}
use Rattle.ipc_tables.specs.Slots.{bits32}
use Rattle.ipc_tables.proofs.SlotLists.{is_word}
use Rattle.ipc_tables.specs.Types.{decimal_slots}
use Rattle.ipc_tables.proofs.types.decimal_part.Goals as goal

pub returns : goal.returns
returns c =
    let precision : c.word.result ≡ bits32 c.args.decimal.precision = search rules in
    let scale : c.word-2.result ≡ bits32 c.args.decimal.scale = search rules in
    let width : c.word-3.result ≡ bits32 c.args.decimal.bit_width = search rules in
    c.table.ensures (decimal_slots c.args.decimal)
    (is_word precision c.word.ensures.small (is_word scale c.word-2.ensures.small (is_word width c.word-3.ensures.small no_more)))
