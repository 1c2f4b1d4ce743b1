-- A table of a message reads as a value: each named reader gives what the value says.
-- (Schema.fbs, Message.fbs and File.fbs.)
use Rattle.std.specs.Prelude.{ℕ, zero, suc, ◌≡◌, List, [], ◌∷◌, length, map, Option, Some, None, option_map, slice_get, string_bytes, Result, Ok, Vec}
use Rattle.std.specs.declared.alloc.Global.{Global}
use Rattle.ipc_devices.specs.declared.fault.TableFault.{TableFault}
use Rattle.ipc_table_views.specs.declared.file.Block.{Block}
use Rattle.ipc_table_views.specs.declared.message.FieldNode.{FieldNode}
use Rattle.ipc_table_views.specs.declared.schema.Buffer.{Buffer}
use Rattle.ipc_table_views.specs.FileSlots.{footer_custom_metadata, footer_dictionaries, footer_record_batches, footer_schema, footer_version}
use Rattle.ipc_table_views.specs.MessageSlots.{dictionary_batch_data, dictionary_batch_id, dictionary_batch_is_delta, message_body_length, message_custom_metadata, message_header, message_version, record_batch_buffers, record_batch_compression, record_batch_length, record_batch_nodes}
use Rattle.ipc_table_views.specs.SchemaSlots.{dictionary_encoding_id, dictionary_encoding_index_type, dictionary_encoding_is_ordered, field_children, field_custom_metadata, field_dictionary, field_name, field_nullable, field_type, key_value_key, key_value_value, schema_custom_metadata, schema_endianness, schema_fields}
use Rattle.ipc_table_views.specs.Spot.{Spot, Vector}
use Rattle.ipc_table_views.specs.Tables.{root_at, table_in}
use Rattle.ipc_table_views.specs.TypeSlots.{date_unit, decimal_bit_width, decimal_precision, decimal_scale, duration_unit, fixed_size_binary_byte_width, fixed_size_list_list_size, floating_point_precision, int_bit_width, int_is_signed, interval_unit, map_keys_sorted, time_bit_width, time_unit, timestamp_timezone, timestamp_unit, union_mode, union_type_ids}
use Rattle.ipc_tables.specs.declared.file.Footer.{Footer}
use Rattle.ipc_tables.specs.declared.message.BodyCompression.{BodyCompression}
use Rattle.ipc_tables.specs.declared.message.DictionaryBatch.{DictionaryBatch}
use Rattle.ipc_tables.specs.declared.message.Message.{Message}
use Rattle.ipc_tables.specs.declared.message.MessageHeader.{MessageHeader}
use Rattle.ipc_tables.specs.declared.message.MessageHeader.TheVariants.{Schema as a_schema, DictionaryBatch as a_dictionary_batch, RecordBatch as a_record_batch}
use Rattle.ipc_tables.specs.declared.message.RecordBatch.{RecordBatch}
use Rattle.ipc_tables.specs.declared.schema.DictionaryEncoding.{DictionaryEncoding}
use Rattle.ipc_tables.specs.declared.schema.Field.{Field}
use Rattle.ipc_tables.specs.declared.schema.Field.TheViews.{out-Field}
use Rattle.ipc_tables.specs.declared.schema.KeyValue.{KeyValue}
use Rattle.ipc_tables.specs.declared.schema.Schema.{Schema}
use Rattle.ipc_tables.specs.declared.types.FieldType.{FieldType}
use Rattle.ipc_tables.specs.declared.types.FieldType.TheVariants.{Null, Int, FloatingPoint, Binary, Utf8, Bool, Decimal, Date, Time, Timestamp, Interval, List as a_list, Struct, Union, FixedSizeBinary, FixedSizeList, Map, Duration, LargeBinary, LargeUtf8, LargeList}
use Rattle.ipc_tables.specs.declared.types.Int.{Int as int_table}
use Rattle.ipc_tables.specs.Messages.{header_tag}
use Rattle.ipc_tables.specs.Slots.{kept32, kept64, kept_bytes32, kept_bytes64}
use Rattle.ipc_tables.specs.Types.{type_tag}

-- The vector has a table for each value, which reads as it.
pub record AreTables {V : Type 0} (v : Vector) (IsValue : Spot → V → Type 0) (values : List V) : Type 0 where
  pub count : v.count ≡ length values
  pub each : (k : ℕ) (x : V) → slice_get values k ≡ Some x → (t : Spot) × (table_in v k ≡ Ok t) × IsValue t x

-- The table reads as the value, if there is one.
abbrev pub IsOptionalTable : {V : Type 0} → Result (Option Spot) TableFault → (Spot → V → Type 0) → Option V → Type 0
IsOptionalTable r IsValue None = r ≡ Ok None
IsOptionalTable r IsValue (Some x) = (t : Spot) × (r ≡ Ok (Some t)) × IsValue t x

-- The table reads as an integer type.
abbrev pub IsInt : Spot → int_table → Type 0
IsInt t i = (int_bit_width t ≡ Ok (kept32 i.bit_width)) × (int_is_signed t ≡ Ok i.is_signed)

-- The table reads as a type.
abbrev pub IsType : Spot → FieldType → Type 0
IsType t Null = Unit {0}
IsType t (Int i) = IsInt t i
IsType t (FloatingPoint f) = floating_point_precision t ≡ Ok f.precision
IsType t Binary = Unit {0}
IsType t Utf8 = Unit {0}
IsType t Bool = Unit {0}
IsType t (Decimal d) = (decimal_precision t ≡ Ok (kept32 d.precision)) × (decimal_scale t ≡ Ok (kept32 d.scale)) × (decimal_bit_width t ≡ Ok (kept32 d.bit_width))
IsType t (Date d) = date_unit t ≡ Ok d.unit
IsType t (Time s) = (time_unit t ≡ Ok s.unit) × (time_bit_width t ≡ Ok (kept32 s.bit_width))
IsType t (Timestamp s) = (timestamp_unit t ≡ Ok s.unit) × (timestamp_timezone t ≡ Ok (option_map string_bytes s.timezone))
IsType t (Interval i) = interval_unit t ≡ Ok i.unit
IsType t a_list = Unit {0}
IsType t Struct = Unit {0}
IsType t (Union u) = (union_mode t ≡ Ok u.mode) × (union_type_ids t ≡ Ok (option_map (λ ids. map kept_bytes32 ids.items) u.type_ids))
IsType t (FixedSizeBinary b) = fixed_size_binary_byte_width t ≡ Ok (kept32 b.byte_width)
IsType t (FixedSizeList l) = fixed_size_list_list_size t ≡ Ok (kept32 l.list_size)
IsType t (Map m) = map_keys_sorted t ≡ Ok m.keys_sorted
IsType t (Duration d) = duration_unit t ≡ Ok d.unit
IsType t LargeBinary = Unit {0}
IsType t LargeUtf8 = Unit {0}
IsType t LargeList = Unit {0}

-- The table reads as a pair.
abbrev pub IsPairTable : Spot → KeyValue → Type 0
IsPairTable t p = (key_value_key t ≡ Ok (Some (string_bytes p.key))) × (key_value_value t ≡ Ok (Some (string_bytes p.value)))

-- The vector has a table for each pair; there is no vector if there is no pair.
abbrev pub ArePairTables : Result (Option Vector) TableFault → List KeyValue → Type 0
ArePairTables r [] = r ≡ Ok None
ArePairTables r (p ∷ ps) = (v : Vector) × (r ≡ Ok (Some v)) × AreTables v IsPairTable (p ∷ ps)

-- The vector has a table for each pair, if there is a vector.
abbrev pub AreOptionalPairs : Result (Option Vector) TableFault → Option (Vec KeyValue Global) → Type 0
AreOptionalPairs r None = r ≡ Ok None
AreOptionalPairs r (Some ps) = (v : Vector) × (r ≡ Ok (Some v)) × AreTables v IsPairTable ps.items

-- The table reads as a dictionary encoding.
pub record IsEncodedBy (t : Spot) (d : DictionaryEncoding) : Type 0 where
  pub id : dictionary_encoding_id t ≡ Ok (kept64 d.id)
  pub index_type : (i : Spot) × (dictionary_encoding_index_type t ≡ Ok (Some i)) × IsInt i d.index_type
  pub ordered : dictionary_encoding_is_ordered t ≡ Ok d.is_ordered

-- The table of a field has this dictionary encoding, or none.
abbrev pub IsDictionaryTable : Spot → Option DictionaryEncoding → Type 0
IsDictionaryTable t None = field_dictionary t ≡ Ok None
IsDictionaryTable t (Some d) = (e : Spot) × (field_dictionary t ≡ Ok (Some e)) × IsEncodedBy e d

-- The table reads as a field, apart from its children.
pub record IsFieldHead (t : Spot) (f : Field) : Type 0 where
  pub named : field_name t ≡ Ok (Some (string_bytes (out-Field f).name))
  pub nullable : field_nullable t ≡ Ok (out-Field f).nullable
  pub typed : (s : Spot) × (field_type t ≡ Ok (Some (type_tag (out-Field f).type_, s))) × IsType s (out-Field f).type_
  pub dictionary : IsDictionaryTable t (out-Field f).dictionary
  pub pairs : ArePairTables (field_custom_metadata t) (out-Field f).custom_metadata.items

-- The table reads as a field, with so many levels of children.
abbrev pub IsField : ℕ → Spot → Field → Type 0
IsField zero t f = Unit {0}
IsField (suc levels) t f =
    IsFieldHead t f × ((v : Vector) × (field_children t ≡ Ok (Some v)) × AreTables v (IsField levels) (out-Field f).children.items)

-- The table reads as a schema, with so many levels of fields.
pub record IsSchema (levels : ℕ) (t : Spot) (s : Schema) : Type 0 where
  pub endianness : schema_endianness t ≡ Ok s.endianness
  pub fields : (v : Vector) × (schema_fields t ≡ Ok (Some v)) × AreTables v (IsField levels) s.fields.items
  pub pairs : ArePairTables (schema_custom_metadata t) s.custom_metadata.items

-- A node as its 64-bit numbers have it.
abbrev pub kept_node : FieldNode → FieldNode
kept_node n = record { length = kept_bytes64 n.length; null_count = kept_bytes64 n.null_count }

-- A buffer as its 64-bit numbers have it.
abbrev pub kept_buffer : Buffer → Buffer
kept_buffer b = record { offset = kept_bytes64 b.offset; length = kept_bytes64 b.length }

-- A block as its numbers of 64 and 32 bits have it.
abbrev pub kept_block : Block → Block
kept_block b = record { offset = kept_bytes64 b.offset; meta_data_length = kept_bytes32 b.meta_data_length; body_length = kept_bytes64 b.body_length }

-- The record batch has a table for its compression, which has no reader of its own, or none.
abbrev pub IsCompression : Spot → Option BodyCompression → Type 0
IsCompression t None = record_batch_compression t ≡ Ok None
IsCompression t (Some c) = (s : Spot) × (record_batch_compression t ≡ Ok (Some s))

-- The table reads as a record batch.
pub record IsRecordBatch (t : Spot) (b : RecordBatch) : Type 0 where
  pub rows : record_batch_length t ≡ Ok (kept64 b.length)
  pub nodes : record_batch_nodes t ≡ Ok (Some (map kept_node b.nodes.items))
  pub buffers : record_batch_buffers t ≡ Ok (Some (map kept_buffer b.buffers.items))
  pub compression : IsCompression t b.compression

-- The table reads as a dictionary batch.
pub record IsDictionaryBatch (t : Spot) (b : DictionaryBatch) : Type 0 where
  pub id : dictionary_batch_id t ≡ Ok (kept64 b.id)
  pub values : IsOptionalTable (dictionary_batch_data t) IsRecordBatch b.data_
  pub delta : dictionary_batch_is_delta t ≡ Ok b.is_delta

-- The table reads as the header of a message.
abbrev pub IsHeader : ℕ → Spot → MessageHeader → Type 0
IsHeader levels t (a_schema s) = IsSchema levels t s
IsHeader levels t (a_dictionary_batch b) = IsDictionaryBatch t b
IsHeader levels t (a_record_batch b) = IsRecordBatch t b

-- The table reads as a message, with so many levels of a schema's fields.
pub record IsMessage (levels : ℕ) (t : Spot) (m : Message) : Type 0 where
  pub version : message_version t ≡ Ok m.version
  pub header : (h : Spot) × (message_header t ≡ Ok (Some (header_tag m.header, h))) × IsHeader levels h m.header
  pub body_length : message_body_length t ≡ Ok (kept64 m.body_length)
  pub pairs : AreOptionalPairs (message_custom_metadata t) m.custom_metadata

-- The table reads as a footer.
pub record IsFooter (levels : ℕ) (t : Spot) (f : Footer) : Type 0 where
  pub version : footer_version t ≡ Ok f.version
  pub schema : IsOptionalTable (footer_schema t) (IsSchema levels) f.schema
  pub dictionaries : footer_dictionaries t ≡ Ok (option_map (λ v. map kept_block v.items) f.dictionaries)
  pub record_batches : footer_record_batches t ≡ Ok (option_map (λ v. map kept_block v.items) f.record_batches)
  pub pairs : AreOptionalPairs (footer_custom_metadata t) f.custom_metadata

-- The bytes have a root that reads as the value.
pub record HaveRoot {V : Type 0} (bytes : List ℕ) (IsValue : Spot → V → Type 0) (value : V) : Type 0 where
  pub root : Spot
  pub opened : root_at bytes ≡ Ok root
  pub reads : IsValue root value
