-- Types other than integers, texts, lists and structs.
-- (Arrow columnar format, "Data Types".)
use Rattle.std.specs.Prelude.{Bool, true, false, ◌||◌}
use Rattle.lower.specs.TypeTrees.{Plain, int8, int16, int32, int64, uint8, uint16, uint32, uint64, utf8, Single, list, Group, structure, TypeTree, plain, single, group, dictionary, extension, FieldTree, field, FieldTrees, no_fields, more_fields}

-- A type without children is another type.
abbrev pub is_other_plain : Plain → Bool
is_other_plain int8 = false
is_other_plain int16 = false
is_other_plain int32 = false
is_other_plain int64 = false
is_other_plain uint8 = false
is_other_plain uint16 = false
is_other_plain uint32 = false
is_other_plain uint64 = false
is_other_plain utf8 = false
is_other_plain _ = true

-- A type with one child is another type.
abbrev pub is_other_single : Single → Bool
is_other_single list = false
is_other_single _ = true

-- A type with several children is another type.
abbrev pub is_other_group : Group → Bool
is_other_group structure = false
is_other_group _ = true

abbrev mutual
  -- A type, or one in it, is another type. An extension counts as the type that it is stored
  -- as; a dictionary is another type.
  pub type_has_other : TypeTree → Bool
  type_has_other (plain p) = is_other_plain p
  type_has_other (single s f) = is_other_single s || field_has_other f
  type_has_other (group g fs) = is_other_group g || fields_have_other fs
  type_has_other (dictionary keys t ordered) = true
  type_has_other (extension name t text) = type_has_other t

  -- The type of a field, or one in it, is another type.
  pub field_has_other : FieldTree → Bool
  field_has_other (field name t nullable es) = type_has_other t

  -- The type of one of these fields, or one in it, is another type.
  pub fields_have_other : FieldTrees → Bool
  fields_have_other no_fields = false
  fields_have_other (more_fields f fs) = field_has_other f || fields_have_other fs
