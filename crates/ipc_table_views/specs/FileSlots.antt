-- The table of File.fbs: what each field has.
use Rattle.std.specs.Prelude.{List, Option, Result}
use Rattle.ipc_devices.specs.declared.fault.TableFault.{TableFault}
use Rattle.ipc_table_views.specs.declared.file.Block.{Block}
use Rattle.ipc_table_views.specs.declared.schema.MetadataVersion.{MetadataVersion}
use Rattle.ipc_table_views.specs.Enumerations.{version_of}
use Rattle.ipc_table_views.specs.Spot.{Spot, Vector}
use Rattle.ipc_table_views.specs.Structs.{block_of, structs_slot}
use Rattle.ipc_table_views.specs.Tables.{and_then, number_slot, table_slot, vector_slot}

-- Footer: version, schema, dictionaries, recordBatches, custom_metadata.
abbrev pub footer_version : Spot → Result MetadataVersion TableFault
footer_version t = and_then (number_slot 2 0 t.message t.place 0) version_of

abbrev pub footer_schema : Spot → Result (Option Spot) TableFault
footer_schema t = table_slot t.message t.place 1

abbrev pub footer_dictionaries : Spot → Result (Option (List Block)) TableFault
footer_dictionaries t = structs_slot block_of 24 t.message t.place 2

abbrev pub footer_record_batches : Spot → Result (Option (List Block)) TableFault
footer_record_batches t = structs_slot block_of 24 t.message t.place 3

abbrev pub footer_custom_metadata : Spot → Result (Option Vector) TableFault
footer_custom_metadata t = vector_slot 4 t.message t.place 4
