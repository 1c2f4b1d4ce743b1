-- How large a schema is that was read: its fields at all levels, its pairs, the ids of its unions,
-- and the bytes of its texts. The metadata of a file have their own pairs in addition.
use Rattle.std.specs.Prelude.{ℕ, ◌+◌, ℤ, List, [], ◌∷◌, length, Option, Some, None, IfSome}
use Rattle.lower.specs.TypeTrees.{Pairs, Plain, timestamp, Group, structure, choice, TypeTree, plain, single, group, dictionary, extension, FieldTree, field, FieldTrees, no_fields, more_fields}
use Rattle.ipc_table_views.specs.Tables.{root_at}
use Rattle.ipc_model.specs.Batches.{Schema}
use Rattle.ipc_model.specs.Files.{FileMetadata, footer_at}
use Rattle.ipc_model.specs.Schemas.{given, made}

-- The length of a text, which may be absent.
abbrev pub text_size : Option (List ℕ) → ℕ
text_size None = 0
text_size (Some text) = length text

-- How many type ids a union has.
abbrev pub ids_size : Option (List ℤ) → ℕ
ids_size None = 0
ids_size (Some ids) = length ids

-- The size of pairs.
abbrev pub pairs_size : Pairs → ℕ
pairs_size [] = 0
pairs_size (e ∷ es) = 1 + length e.0 + length e.1 + pairs_size es

-- The size of a type without children: that of its time zone.
abbrev pub plain_size : Plain → ℕ
plain_size (timestamp unit zone) = text_size zone
plain_size _ = 0

-- The size of a type with several children: that of a union's type ids.
abbrev pub group_size : Group → ℕ
group_size structure = 0
group_size (choice ids mode) = ids_size ids

abbrev mutual
  -- The size of a field.
  pub field_size : FieldTree → ℕ
  field_size (field name t nullable es) = 1 + length name + pairs_size es + type_size t

  -- The size of a type, with its children.
  pub type_size : TypeTree → ℕ
  type_size (plain p) = plain_size p
  type_size (single s f) = field_size f
  type_size (group g fs) = group_size g + fields_size fs
  type_size (dictionary keys t ordered) = type_size t
  type_size (extension name t text) = length name + text_size text + type_size t

  -- The size of some fields.
  pub fields_size : FieldTrees → ℕ
  fields_size no_fields = 0
  fields_size (more_fields f fs) = field_size f + fields_size fs

-- The size of a schema, in the units of the cost of reading it.
abbrev pub schema_size : Schema → ℕ
schema_size schema = fields_size schema.fields + pairs_size schema.metadata

-- The size of a file's metadata, in the units of the cost of reading it.
abbrev pub metadata_size : FileMetadata → ℕ
metadata_size m = schema_size m.schema + pairs_size m.pairs

-- P holds of the metadata that the bytes of a footer mean, if any, in a file of any size.
abbrev pub OfMetadata : List ℕ → (FileMetadata → Type 0) → Type 0
OfMetadata footer P = (size : ℕ) → IfSome (given (made (root_at footer)) (footer_at size)) P
