use Rattle.std.specs.Prelude.{option_map}
use Rattle.ipc_table_bytes.specs.Parts.{is_offset, no_more}
use Rattle.ipc_table_bytes.specs.Tree.{table}
use Rattle.ipc_tables.proofs.BuiltLists.{AreParts-from_built}
use Rattle.ipc_tables.proofs.SlotLists.{is_byte, is_optional}
use Rattle.ipc_tables.specs.Schemas.{dictionary_slots, field_slots, pairs_part}
use Rattle.ipc_tables.specs.Slots.{parts_of}
use Rattle.ipc_tables.specs.declared.schema.Field.TheViews.{out-Field}
use Rattle.ipc_tables.proofs.schema.field_table.Goals as goal

pub returns : goal.returns
returns c = λ parts are.
    let dictionary = option_map (λ d. table (dictionary_slots d)) (out-Field c.args.field.now).dictionary in
    let pairs = pairs_part (out-Field c.args.field.now).custom_metadata.items in
    c.in_ok-part.ensures (field_slots c.args.field.now parts)
    (is_offset (rw c.as_str.ensures.value at c.in_ok-name.ensures)
    (is_byte c.flag.ensures.value c.flag.ensures.small
    (is_byte c.type_tag.ensures.value c.type_tag.ensures.small
    (is_offset c.in_ok-type_.ensures
    (is_optional c.in_ok-dictionary.dictionary dictionary c.in_ok-dictionary.ensures
    (is_offset (c.in_ok-children.ensures (parts_of parts) (AreParts-from_built _ parts are))
    (is_optional c.in_ok-pairs.pairs pairs (rw c.as_slice.ensures.value at c.in_ok-pairs.ensures) no_more)))))))
