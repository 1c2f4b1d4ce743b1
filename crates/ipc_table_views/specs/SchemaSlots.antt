-- The tables of Schema.fbs for a schema and its fields: what each field of a table has.
use Rattle.std.specs.Prelude.{ℕ, ℤ, List, Option, Bool, Result}
use Rattle.std.specs.Int.{w64, cast_signed}
use Rattle.ipc_devices.specs.declared.fault.TableFault.{TableFault}
use Rattle.ipc_table_views.specs.declared.schema.Endianness.{Endianness}
use Rattle.ipc_table_views.specs.Enumerations.{endianness_of}
use Rattle.ipc_table_views.specs.Spot.{Spot, Vector}
use Rattle.ipc_table_views.specs.Tables.{and_then, flag, map_ok, number_slot, table_slot, text_slot, union_slot, vector_slot}

-- Schema: endianness, fields, custom_metadata, features.
abbrev pub schema_endianness : Spot → Result Endianness TableFault
schema_endianness t = and_then (number_slot 2 0 t.message t.place 0) endianness_of

abbrev pub schema_fields : Spot → Result (Option Vector) TableFault
schema_fields t = vector_slot 4 t.message t.place 1

abbrev pub schema_custom_metadata : Spot → Result (Option Vector) TableFault
schema_custom_metadata t = vector_slot 4 t.message t.place 2

-- Field: name, nullable, type (tag and table), dictionary, children, custom_metadata.
abbrev pub field_name : Spot → Result (Option (List ℕ)) TableFault
field_name t = text_slot t.message t.place 0

abbrev pub field_nullable : Spot → Result Bool TableFault
field_nullable t = map_ok flag (number_slot 1 0 t.message t.place 1)

abbrev pub field_type : Spot → Result (Option (ℕ × Spot)) TableFault
field_type t = union_slot 21 t.message t.place 2

abbrev pub field_dictionary : Spot → Result (Option Spot) TableFault
field_dictionary t = table_slot t.message t.place 4

abbrev pub field_children : Spot → Result (Option Vector) TableFault
field_children t = vector_slot 4 t.message t.place 5

abbrev pub field_custom_metadata : Spot → Result (Option Vector) TableFault
field_custom_metadata t = vector_slot 4 t.message t.place 6

-- KeyValue: key, value.
abbrev pub key_value_key : Spot → Result (Option (List ℕ)) TableFault
key_value_key t = text_slot t.message t.place 0

abbrev pub key_value_value : Spot → Result (Option (List ℕ)) TableFault
key_value_value t = text_slot t.message t.place 1

-- DictionaryEncoding: id, indexType, isOrdered, dictionaryKind.
abbrev pub dictionary_encoding_id : Spot → Result ℤ TableFault
dictionary_encoding_id t = map_ok (cast_signed w64) (number_slot 8 0 t.message t.place 0)

abbrev pub dictionary_encoding_index_type : Spot → Result (Option Spot) TableFault
dictionary_encoding_index_type t = table_slot t.message t.place 1

abbrev pub dictionary_encoding_is_ordered : Spot → Result Bool TableFault
dictionary_encoding_is_ordered t = map_ok flag (number_slot 1 0 t.message t.place 2)
