use Rattle.std.proofs.Common.{map}
use Rattle.std.specs.Prelude.{option_map}
use Rattle.ipc_table_bytes.specs.Parts.{is_offset, no_more}
use Rattle.ipc_tables.proofs.BuiltLists.{AreParts-from_built}
use Rattle.ipc_tables.proofs.SlotLists.{is_optional, is_short}
use Rattle.ipc_tables.specs.Schemas.{features_part, field_part, pairs_part, schema_slots}
use Rattle.ipc_tables.specs.Slots.{parts_of}
use Rattle.ipc_tables.proofs.schema.schema_part.Goals as goal

pub returns : goal.returns
returns c =
    let fields = c.args.schema.now.fields.items in
    let pairs = pairs_part c.args.schema.now.custom_metadata.items in
    let features = option_map (λ v. features_part v.items) c.args.schema.now.features in
    c.table.ensures (schema_slots c.args.schema.now)
    (is_short c.endianness_number.ensures.value c.endianness_number.ensures.small
    (is_offset (c.in_ok-fields-2.ensures (parts_of (map field_part fields)) (AreParts-from_built _ (map field_part fields) (rw c.deref-2.ensures.value (rw (← c.deref.ensures.value) c.in_ok-fields.ensures))))
    (is_optional c.in_ok-pairs.pairs pairs (rw c.as_slice.ensures.value at c.in_ok-pairs.ensures)
    (is_optional c.in_ok-features.features features c.in_ok-features.ensures no_more))))
