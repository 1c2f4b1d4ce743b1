use Rattle.std.proofs.Common.{rules, ◌≡◌}
use Rattle.std.specs.Prelude.{option_map}
use Rattle.ipc_table_bytes.specs.Parts.{is_offset, no_more}
use Rattle.ipc_tables.specs.Slots.{bits64}
use Rattle.ipc_tables.proofs.SlotLists.{is_byte, is_long, is_optional, is_short}
use Rattle.ipc_tables.specs.Messages.{message_slots}
use Rattle.ipc_tables.specs.Schemas.{pairs_vector}
use Rattle.ipc_tables.proofs.message.message_part.Goals as goal

pub returns : goal.returns
returns c =
    let body : c.long.result ≡ bits64 c.args.message.now.body_length = search rules in
    let pairs = option_map (λ v. pairs_vector v.items) c.args.message.now.custom_metadata in
    c.table.ensures (message_slots c.args.message.now)
    (is_short c.version_number.ensures.value c.version_number.ensures.small
    (is_byte c.header_tag.ensures.value c.header_tag.ensures.small
    (is_offset c.in_ok-header.ensures
    (is_long body c.long.ensures.small
    (is_optional c.in_ok-pairs.pairs pairs c.in_ok-pairs.ensures no_more)))))
