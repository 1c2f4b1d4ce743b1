use Rattle.std.proofs.Common.{rules, ◌≡◌}
use Rattle.ipc_table_bytes.specs.Parts.{no_more}
use Rattle.ipc_table_bytes.specs.Tree.{table}
use Rattle.std.specs.Prelude.{option_map}
use Rattle.ipc_tables.specs.Slots.{bits64}
use Rattle.ipc_tables.proofs.SlotLists.{is_byte, is_long, is_optional}
use Rattle.ipc_tables.specs.Messages.{dictionary_batch_slots, record_batch_slots}
use Rattle.ipc_tables.proofs.message.dictionary_batch_part.Goals as goal

pub returns : goal.returns
returns c =
    let id : c.long.result ≡ bits64 c.args.batch.now.id = search rules in
    let values = option_map (λ b. table (record_batch_slots b)) c.args.batch.now.data_ in
    c.table.ensures (dictionary_batch_slots c.args.batch.now)
    (is_long id c.long.ensures.small (is_optional c.in_ok-data_.data_ values c.in_ok-data_.ensures (is_byte c.flag.ensures.value c.flag.ensures.small no_more)))
