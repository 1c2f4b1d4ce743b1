-- The kinds of columns by their types, with the ids of their dictionaries.
-- (Arrow columnar format, "Data Types" and "Physical Memory Layout".)
use Rattle.std.specs.Prelude.{ℤ, Option, None}
use Rattle.lower.specs.declared.datatypes.IntegerType.{IntegerType}
use Rattle.lower.specs.declared.datatypes.IntegerType.TheVariants.{Int8, Int16, Int32, Int64, UInt8, UInt16, UInt32, UInt64}
use Rattle.lower.specs.declared.datatypes.IntervalUnit.{IntervalUnit}
use Rattle.lower.specs.declared.datatypes.IntervalUnit.TheVariants.{YearMonth, DayTime, MonthDayNano}
use Rattle.lower.specs.Normal.{norm}
use Rattle.lower.specs.TypeTrees.{Plain, null, boolean, int8, int16, int32, int64, uint8, uint16, uint32, uint64, float16, float32, float64, timestamp, date32, date64, time32, time64, duration, interval, binary, fixed_binary, large_binary, utf8, large_utf8, decimal, decimal256, Single, list, large_list, fixed_list, entries, Group, structure, choice, TypeTree, plain, single, group, dictionary, extension, FieldTree, field, FieldTrees, no_fields, more_fields}
use Rattle.ipc_base.specs.IdTrees.{IdTree, ids, IdTrees, no_ids, more_ids}
use Rattle.lower_types.specs.declared.PrimitiveType.{PrimitiveType}
use Rattle.lower_types.specs.declared.PrimitiveType.TheVariants as numbers
use Rattle.ipc_model.specs.Kinds.{offsets_32, offsets_64, Kind, null_kind, boolean_kind, number_kind, float_kind, fixed_binary_kind, binary_kind, utf8_kind, list_kind, map_kind, fixed_list_kind, struct_kind, union_kind, dictionary_kind, extension_kind, Kinds, no_kinds, more_kinds}

-- How the keys of a dictionary are stored.
abbrev pub key_form : IntegerType → PrimitiveType
key_form Int8 = numbers.Int8
key_form Int16 = numbers.Int16
key_form Int32 = numbers.Int32
key_form Int64 = numbers.Int64
key_form UInt8 = numbers.UInt8
key_form UInt16 = numbers.UInt16
key_form UInt32 = numbers.UInt32
key_form UInt64 = numbers.UInt64

-- How intervals are stored: as months; as days and milliseconds; as months, days and nanoseconds.
abbrev pub interval_form : IntervalUnit → PrimitiveType
interval_form YearMonth = numbers.Int32
interval_form DayTime = numbers.DaysMs
interval_form MonthDayNano = numbers.MonthDayNano

-- The kind of a type without children.
abbrev pub plain_kind : Plain → Kind
plain_kind null = null_kind
plain_kind boolean = boolean_kind
plain_kind int8 = number_kind numbers.Int8
plain_kind int16 = number_kind numbers.Int16
plain_kind int32 = number_kind numbers.Int32
plain_kind int64 = number_kind numbers.Int64
plain_kind uint8 = number_kind numbers.UInt8
plain_kind uint16 = number_kind numbers.UInt16
plain_kind uint32 = number_kind numbers.UInt32
plain_kind uint64 = number_kind numbers.UInt64
plain_kind float16 = float_kind
plain_kind float32 = float_kind
plain_kind float64 = float_kind
plain_kind (timestamp unit _) = number_kind numbers.Int64
plain_kind date32 = number_kind numbers.Int32
plain_kind date64 = number_kind numbers.Int64
plain_kind (time32 unit) = number_kind numbers.Int32
plain_kind (time64 unit) = number_kind numbers.Int64
plain_kind (duration unit) = number_kind numbers.Int64
plain_kind (interval unit) = number_kind (interval_form unit)
plain_kind binary = binary_kind offsets_32
plain_kind (fixed_binary n) = fixed_binary_kind n
plain_kind large_binary = binary_kind offsets_64
plain_kind utf8 = utf8_kind offsets_32
plain_kind large_utf8 = utf8_kind offsets_64
plain_kind (decimal precision scale) = number_kind numbers.Int128
plain_kind (decimal256 precision scale) = number_kind numbers.Int256

-- The kind of a type with one child.
abbrev pub single_kind : Single → Kind → Kind
single_kind list t = list_kind offsets_32 t
single_kind large_list t = list_kind offsets_64 t
single_kind (fixed_list n) t = fixed_list_kind n t
single_kind (entries sorted) t = map_kind t

-- The kind of a type with several children.
abbrev pub group_kind : Group → Kinds → Kind
group_kind structure ts = struct_kind ts
group_kind (choice type_ids mode) ts = union_kind mode type_ids ts

-- The ids of the first field; none if there are no ids left.
abbrev pub first_ids : IdTrees → IdTree
first_ids no_ids = ids None no_ids
first_ids (more_ids i is) = i

-- The ids of the fields after the first.
abbrev pub other_ids : IdTrees → IdTrees
other_ids no_ids = no_ids
other_ids (more_ids i is) = is

abbrev mutual
  -- The kind of a type: `id` is the dictionary id of its field, and `is`
  -- are the ids of the child fields.
  pub kind_of : TypeTree → Option ℤ → IdTrees → Kind
  kind_of (plain p) id is = plain_kind p
  kind_of (single s f) id is = single_kind s (field_kind f (first_ids is))
  kind_of (group g fs) id is = group_kind g (kinds_of fs is)
  kind_of (dictionary keys t ordered) id is = dictionary_kind (key_form keys) id (norm t)
  kind_of (extension name t text) id is = extension_kind (kind_of t id is)

  -- The kind of a field's column.
  pub field_kind : FieldTree → IdTree → Kind
  field_kind (field name t nullable metadata) (ids id is) = kind_of t id is

  -- The kinds of some fields' columns.
  pub kinds_of : FieldTrees → IdTrees → Kinds
  kinds_of no_fields is = no_kinds
  kinds_of (more_fields f fs) is = more_kinds (field_kind f (first_ids is)) (kinds_of fs (other_ids is))
