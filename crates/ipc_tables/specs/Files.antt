-- The table of File.fbs: what each field must have.
use Rattle.std.specs.Prelude.{ℕ, List, ◌++◌, option_map}
use Rattle.ipc_table_bytes.specs.Pads.{le}
use Rattle.ipc_table_bytes.specs.Tree.{Part, Slots, no_slots, number, table}
use Rattle.ipc_table_views.specs.declared.file.Block.{Block}
use Rattle.ipc_tables.specs.declared.file.Footer.{Footer}
use Rattle.ipc_tables.specs.Elements.{elements_of}
use Rattle.ipc_tables.specs.Schemas.{pairs_vector, schema_slots, version_number}
use Rattle.ipc_tables.specs.Slots.{bits32, bits64, optional}

-- The bytes of a block, four of which are unused.
abbrev pub block_bytes : Block → List ℕ
block_bytes b = le 8 (bits64 b.offset) ++ (le 4 (bits32 b.meta_data_length) ++ (le 4 0 ++ le 8 (bits64 b.body_length)))

-- The vector of some blocks.
abbrev pub blocks_part : List Block → Part
blocks_part bs = elements_of 8 24 block_bytes bs

-- Footer: version, schema, dictionaries, recordBatches, custom_metadata.
abbrev pub footer_slots : Footer → Slots
footer_slots f =
    number 2 (version_number f.version) (optional (option_map (λ s. table (schema_slots s)) f.schema)
    (optional (option_map (λ v. blocks_part v.items) f.dictionaries) (optional (option_map (λ v. blocks_part v.items) f.record_batches)
    (optional (option_map (λ v. pairs_vector v.items) f.custom_metadata) no_slots))))
