-- Types whose float types, at any depth, are the unsigned integers of their widths.
-- (Arrow columnar format, "Data Types" and "Fixed-size Primitive Layout".)
use Rattle.lower.specs.TypeTrees.{Pairs, Plain, float16, float32, float64, uint16, uint32, uint64, TypeTree, plain, single, group, dictionary, extension, FieldTree, field, FieldTrees, no_fields, more_fields}

-- A type without children, where a float type is the unsigned integer of its width.
abbrev pub plain_as_bits : Plain → Plain
plain_as_bits float16 = uint16
plain_as_bits float32 = uint32
plain_as_bits float64 = uint64
plain_as_bits p = p

abbrev mutual
  -- A type; the children of lists, structs, unions and maps, the values of dictionaries and the
  -- storage types of extensions likewise.
  pub as_bits : TypeTree → TypeTree
  as_bits (plain p) = plain (plain_as_bits p)
  as_bits (single s f) = single s (field_as_bits f)
  as_bits (group g fs) = group g (fields_as_bits fs)
  as_bits (dictionary keys t ordered) = dictionary keys (as_bits t) ordered
  as_bits (extension name t text) = extension name (as_bits t) text

  -- A field: only its type changes.
  pub field_as_bits : FieldTree → FieldTree
  field_as_bits (field name t nullable metadata) = field name (as_bits t) nullable metadata

  -- Each of some fields.
  pub fields_as_bits : FieldTrees → FieldTrees
  fields_as_bits no_fields = no_fields
  fields_as_bits (more_fields f fs) = more_fields (field_as_bits f) (fields_as_bits fs)

-- The fields of a schema, and its own metadata unchanged.
abbrev pub schema_as_bits : FieldTrees × Pairs → FieldTrees × Pairs
schema_as_bits s = (fields_as_bits s.0, s.1)
