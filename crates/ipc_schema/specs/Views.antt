-- What is read of a schema, as its meaning has it.
-- (Arrow columnar format, "Schema message".)
use Rattle.std.specs.Prelude.{ℕ, Vec, Bool, Box, if◌then◌else◌}
use Rattle.std.specs.declared.alloc.Global.{Global}
use Rattle.lower.specs.TypeViews.{type_view, field_view, fields_view, pairs_of}
use Rattle.lower.specs.declared.datatypes.DataType.{DataType}
use Rattle.lower.specs.declared.datatypes.Field.{Field}
use Rattle.lower.specs.declared.datatypes.schema.Schema.{Schema}
use Rattle.lower_types.specs.declared.Endianness.{Endianness}
use Rattle.lower_types.specs.declared.Endianness.TheVariants.{Little, Big}
use Rattle.ipc_base.specs.declared.ipc.IpcField.{IpcField}
use Rattle.ipc_base.specs.declared.ipc.IpcSchema.{IpcSchema}
use Rattle.ipc_base.specs.IdTrees.{IdTrees, no_ids, more_ids, ids_view, all_ids_view}
use Rattle.lower.specs.TypeTrees.{FieldTree, field}
use Rattle.ipc_schema.specs.declared.read.schema.Encoding.{Encoding}
use Rattle.ipc_model.specs.Batches.{Schema as Meaning}
use Rattle.ipc_model.specs.Schemas.{Encoding as EncodingMeaning, Read, ReadAll, ReadType, field_count, inner_count, fields_count}

-- A field with its ids.
abbrev pub field_seen : Field × IpcField → Read
field_seen x = (field_view x.0, ids_view x.1)

-- Some fields with their ids.
abbrev pub fields_seen : Vec Field Global × Vec IpcField Global → ReadAll
fields_seen x = (fields_view x.0.items, all_ids_view x.1.items)

-- A child, with the ids of all children of its field.
abbrev pub Child : Type 0
Child = FieldTree × IdTrees

-- A child that was read, with the ids of all children of its field.
abbrev pub child_seen : Box Field Global × Vec IpcField Global → Child
child_seen x = (field_view x.0.value, all_ids_view x.1.items)

-- An only child, with its ids.
abbrev pub with_one_id : Read → Child
with_one_id x = (x.0, more_ids x.1 no_ids)

-- A dictionary encoding.
abbrev pub encoding_seen : Encoding → EncodingMeaning
encoding_seen e = record { keys = e.keys; id = e.id; ordered = e.is_ordered }

-- A type, with the ids of its children.
abbrev pub type_seen : DataType × Vec IpcField Global → ReadType
type_seen x = (type_view x.0, all_ids_view x.1.items)

-- The byte order that a flag means.
abbrev pub byte_order : Bool → Endianness
byte_order is_little_endian = if is_little_endian then Little else Big

-- A schema that was read, as its meaning has it.
abbrev pub schema_seen : Schema × IpcSchema → Meaning
schema_seen x = record {
  fields = fields_view x.0.fields.items;
  metadata = pairs_of x.0.metadata.entries;
  ids = all_ids_view x.1.fields.items;
  order = byte_order x.1.is_little_endian;
}

-- How many fields are below a field.
abbrev pub below_count : FieldTree → ℕ
below_count (field name t nullable es) = inner_count t

-- How many fields are below a field that was read.
abbrev pub below_number : Read → ℕ
below_number x = below_count x.0

-- How many fields a child has at all levels, itself included.
abbrev pub child_number : Child → ℕ
child_number x = field_count x.0

-- How many fields there are at all levels.
abbrev pub fields_number : ReadAll → ℕ
fields_number x = fields_count x.0

-- How many fields are below a type that was read.
abbrev pub inner_number : ReadType → ℕ
inner_number x = inner_count x.0
