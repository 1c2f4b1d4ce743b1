-- The tables of Message.fbs: what each field has.
use Rattle.std.specs.Prelude.{ℕ, ℤ, List, Option, Bool, Result}
use Rattle.std.specs.Int.{w64, cast_signed}
use Rattle.ipc_devices.specs.declared.fault.TableFault.{TableFault}
use Rattle.ipc_table_views.specs.declared.message.FieldNode.{FieldNode}
use Rattle.ipc_table_views.specs.declared.schema.Buffer.{Buffer}
use Rattle.ipc_table_views.specs.declared.schema.MetadataVersion.{MetadataVersion}
use Rattle.ipc_table_views.specs.Enumerations.{version_of}
use Rattle.ipc_table_views.specs.Spot.{Spot, Vector}
use Rattle.ipc_table_views.specs.Structs.{node_of, buffer_of, structs_slot}
use Rattle.ipc_table_views.specs.Tables.{and_then, flag, map_ok, number_slot, table_slot, union_slot, vector_slot}

-- Message: version, header (tag and table), bodyLength, custom_metadata.
abbrev pub message_version : Spot → Result MetadataVersion TableFault
message_version t = and_then (number_slot 2 0 t.message t.place 0) version_of

abbrev pub message_header : Spot → Result (Option (ℕ × Spot)) TableFault
message_header t = union_slot 5 t.message t.place 1

abbrev pub message_body_length : Spot → Result ℤ TableFault
message_body_length t = map_ok (cast_signed w64) (number_slot 8 0 t.message t.place 3)

abbrev pub message_custom_metadata : Spot → Result (Option Vector) TableFault
message_custom_metadata t = vector_slot 4 t.message t.place 4

-- RecordBatch: length, nodes, buffers, compression.
abbrev pub record_batch_length : Spot → Result ℤ TableFault
record_batch_length t = map_ok (cast_signed w64) (number_slot 8 0 t.message t.place 0)

abbrev pub record_batch_nodes : Spot → Result (Option (List FieldNode)) TableFault
record_batch_nodes t = structs_slot node_of 16 t.message t.place 1

abbrev pub record_batch_buffers : Spot → Result (Option (List Buffer)) TableFault
record_batch_buffers t = structs_slot buffer_of 16 t.message t.place 2

abbrev pub record_batch_compression : Spot → Result (Option Spot) TableFault
record_batch_compression t = table_slot t.message t.place 3

-- DictionaryBatch: id, data, isDelta.
abbrev pub dictionary_batch_id : Spot → Result ℤ TableFault
dictionary_batch_id t = map_ok (cast_signed w64) (number_slot 8 0 t.message t.place 0)

abbrev pub dictionary_batch_data : Spot → Result (Option Spot) TableFault
dictionary_batch_data t = table_slot t.message t.place 1

abbrev pub dictionary_batch_is_delta : Spot → Result Bool TableFault
dictionary_batch_is_delta t = map_ok flag (number_slot 1 0 t.message t.place 2)
