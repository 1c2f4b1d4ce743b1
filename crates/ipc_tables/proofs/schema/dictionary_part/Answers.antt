use Rattle.std.proofs.Common.{rules, ◌≡◌}
use Rattle.ipc_table_bytes.specs.Parts.{is_offset, no_more}
use Rattle.ipc_tables.specs.Slots.{bits64}
use Rattle.ipc_tables.proofs.SlotLists.{is_byte, is_long, is_short}
use Rattle.ipc_tables.specs.Schemas.{dictionary_slots}
use Rattle.ipc_tables.proofs.schema.dictionary_part.Goals as goal

pub returns : goal.returns
returns c =
    let id : c.long.result ≡ bits64 c.args.dictionary.id = search rules in
    c.table.ensures (dictionary_slots c.args.dictionary) (is_long id c.long.ensures.small (is_offset c.in_ok-index_type.ensures (is_byte c.flag.ensures.value c.flag.ensures.small (is_short c.kind_number.ensures.value c.kind_number.ensures.small no_more))))
