use Rattle.std.specs.Prelude.{option_map}
use Rattle.ipc_table_bytes.specs.Parts.{no_more}
use Rattle.ipc_table_bytes.specs.Tree.{table}
use Rattle.ipc_tables.specs.Files.{blocks_part, footer_slots}
use Rattle.ipc_tables.specs.Schemas.{pairs_vector, schema_slots}
use Rattle.ipc_tables.proofs.SlotLists.{is_optional, is_short}
use Rattle.ipc_tables.proofs.file.footer_part.Goals as goal

pub returns : goal.returns
returns c =
    let f = c.args.footer.now in
    let schema = option_map (λ s. table (schema_slots s)) f.schema in
    let dictionaries = option_map (λ v. blocks_part v.items) f.dictionaries in
    let batches = option_map (λ v. blocks_part v.items) f.record_batches in
    let pairs = option_map (λ v. pairs_vector v.items) f.custom_metadata in
    c.table.ensures (footer_slots f)
    (is_short c.version_number.ensures.value c.version_number.ensures.small
    (is_optional c.in_ok-schema.schema schema c.in_ok-schema.ensures
    (is_optional c.in_ok-dictionaries.dictionaries dictionaries c.in_ok-dictionaries.ensures
    (is_optional c.in_ok-record_batches.record_batches batches c.in_ok-record_batches.ensures
    (is_optional c.in_ok-pairs.pairs pairs c.in_ok-pairs.ensures no_more)))))
