-- The result of writing a schema.
-- (Arrow columnar format, "Schema message"; Schema.fbs and Message.fbs.)
use Rattle.std.specs.Prelude.{ℕ, pos, ◌≡◌, ◌%◌, ◌^◌, ◌≤◌, AllPairs, Bool, if◌then◌else◌, List, length, None, Some, Result, Ok, Err, Vec}
use Rattle.std.specs.declared.alloc.Global.{Global}
use Rattle.lower.specs.Counts.{fields_levels}
use Rattle.lower.specs.Normal.{norm_fields}
use Rattle.lower.specs.TypeTrees.{Pairs, FieldTrees}
use Rattle.lower_types.specs.declared.Endianness.{Endianness}
use Rattle.lower_types.specs.declared.Endianness.TheVariants.{Big, Little}
use Rattle.ipc_base.specs.Fitting.{AllFit}
use Rattle.ipc_base.specs.IdTrees.{IdTrees}
use Rattle.ipc_devices.specs.declared.fault.ArgFault.TheVariants.{FieldsShape, NotWritable}
use Rattle.ipc_devices.specs.declared.fault.Fault.{Fault}
use Rattle.ipc_devices.specs.declared.fault.Fault.TheVariants.{Argument, Memory}
use Rattle.ipc_table_bytes.specs.Encodes.{IsEncoding}
use Rattle.ipc_table_bytes.specs.Holds.{HoldsPart, spot}
use Rattle.ipc_table_bytes.specs.Sizes.{size_of}
use Rattle.ipc_table_bytes.specs.Tree.{table}
use Rattle.ipc_tables.specs.Messages.{message_slots}
use Rattle.ipc_tables.specs.Schemas.{schema_slots}
use Rattle.ipc_tables.specs.Weights.{schema_weight}
use Rattle.ipc_tables.specs.Written.{IsWritten}
use Rattle.ipc_tables.specs.declared.message.MessageHeader.TheVariants.{Schema as a_schema}
use Rattle.ipc_tables.specs.declared.schema.Schema.{Schema as SchemaTable}
use Rattle.ipc_model.specs.Batches.{Schema, places}
use Rattle.ipc_model.specs.Schemas.{head_of, schema_at, schema_of}
use Rattle.ipc_model.specs.Streams.{Head}
use Rattle.ipc_model.specs.Writable.{AreWritable, IsWritable, SameUnderId, most_places, weight}
use Rattle.ipc_table_views.specs.declared.schema.MetadataVersion.TheVariants.{V5}

-- The greatest weight of a schema that can be written.
abbrev pub max_weight : ℕ
max_weight = 2 ^ 30

-- The byte order that a flag means: little-endian, or big-endian.
abbrev pub byte_order : Bool → Endianness
byte_order is_little_endian = if is_little_endian then Little else Big

-- The fields can be written with these ids, whatever their weight.
pub record AreWritableWith (fs : FieldTrees) (is : IdTrees) : Type 0 where
  pub fits : AllFit fs is
  pub types : AreWritable fs
  pub levels : fields_levels fs ≤ 64
  pub few_places : length (places fs is) ≤ most_places
  pub values : AllPairs SameUnderId (places fs is)

-- Why fields can't be written: their ids have another shape; or the ids fit, and the
-- fields can't be written with them.
abbrev pub RefusesFields : FieldTrees → IdTrees → Fault → Type 0
RefusesFields fs is Memory = Unit {0}
RefusesFields fs is (Argument FieldsShape) = AllFit fs is → ⊥
RefusesFields fs is (Argument NotWritable) = AllFit fs is × (AreWritableWith fs is → ⊥)
RefusesFields fs is _ = ⊥

-- Why a schema can't be written with these ids, by each error.
abbrev pub RefusesSchema : Fault → FieldTrees → Pairs → IdTrees → Type 0
RefusesSchema Memory fs es is = Unit {0}
RefusesSchema (Argument FieldsShape) fs es is = AllFit fs is → ⊥
RefusesSchema (Argument NotWritable) fs es is = AllFit fs is × (IsWritable fs es is → ⊥)
RefusesSchema _ _ _ _ = ⊥

-- What is written of a schema: its normal form with the ids, and the byte order of its bodies.
abbrev pub written_as : Endianness → FieldTrees → Pairs → IdTrees → Schema
written_as order fs es is = record { fields = norm_fields fs; metadata = es; ids = is; order = order }

-- What is written of a schema whose bodies are little-endian.
abbrev pub written : FieldTrees → Pairs → IdTrees → Schema
written fs es is = written_as Little fs es is

-- At any offset of a message the table means the schema, and it weighs as much; it has no features.
pub record IsSchemaTable (order : Endianness) (s : SchemaTable) (fs : FieldTrees) (es : Pairs) (is : IdTrees) : Type 0 where
  pub reads : (m : List ℕ) (p : ℕ) → HoldsPart m p (table (schema_slots s)) → size_of (table (schema_slots s)) ≤ length m
      → schema_at (spot m p) ≡ Some (written_as order fs es is)
  pub weighs : schema_weight s ≡ weight fs es
  pub bare : s.features ≡ None

-- The result is Ok exactly if the schema can be written, unless an allocation fails; its
-- value is then the schema's table.
abbrev pub WritesTable : Endianness → Result SchemaTable Fault → FieldTrees → Pairs → IdTrees → Type 0
WritesTable order (Ok s) fs es is = IsWritable fs es is × IsSchemaTable order s fs es is
WritesTable order (Err e) fs es is = RefusesSchema e fs es is

-- The schema message of a stream that is written: the schema in its normal form, and version 5.
abbrev pub written_head_as : Endianness → FieldTrees → Pairs → IdTrees → Head
written_head_as order fs es is = record { schema = written_as order fs es is; version = V5 }

-- The bytes are a message of version V5 without a body, whose header is the
-- table of a schema without features.
pub record IsSchemaMessage (bytes : List ℕ) : Type 0 where
  pub table : SchemaTable
  pub bare : table.features ≡ None
  pub encoding : IsEncoding bytes (message_slots (record { version = V5; header = a_schema table; body_length = pos 0; custom_metadata = None }))

-- The result is Ok exactly if the schema can be written, unless an allocation fails. The bytes mean
-- the schema and begin a stream; they are at most as many as its weight, and a multiple of 8. They
-- are laid out as messages are written, and the schema has no features.
abbrev pub WritesSchema : Endianness → Result (Vec ℕ Global) Fault → FieldTrees → Pairs → IdTrees → Type 0
WritesSchema order (Ok bytes) fs es is =
    IsWritable fs es is × (schema_of bytes.items ≡ Some (written_as order fs es is)) × (length bytes.items ≤ weight fs es)
    × (head_of bytes.items ≡ Some (written_head_as order fs es is)) × (length bytes.items % 8 ≡ 0) × IsWritten bytes.items
    × IsSchemaMessage bytes.items
WritesSchema order (Err e) fs es is = RefusesSchema e fs es is
