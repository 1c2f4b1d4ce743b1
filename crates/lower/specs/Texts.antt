-- The texts of types, fields and schemas, as Arrow C++'s `ToString` gives them.
-- (Arrow C++: `DataType::ToString`, `Field::ToString`, `Schema::ToString`, without metadata.)
use Rattle.std.specs.Prelude.{ℕ, ◌+◌, ◌==◌, ℤ, Bool, true, false, List, [], ◌∷◌, ◌++◌, length, Option, Some, None, codes, slice_get, if◌then◌else◌}
use Rattle.std.specs.Fmt.{decimal, signed_decimal}
use Rattle.lower.specs.Same.{same_text}
use Rattle.lower.specs.declared.datatypes.IntegerType.{IntegerType}
use Rattle.lower.specs.declared.datatypes.IntegerType.TheVariants as Integers
use Rattle.lower.specs.declared.datatypes.TimeUnit.{TimeUnit}
use Rattle.lower.specs.declared.datatypes.TimeUnit.TheVariants.{Second, Millisecond, Microsecond, Nanosecond}
use Rattle.lower.specs.declared.datatypes.IntervalUnit.{IntervalUnit}
use Rattle.lower.specs.declared.datatypes.IntervalUnit.TheVariants.{YearMonth, DayTime, MonthDayNano}
use Rattle.lower.specs.declared.datatypes.UnionMode.{UnionMode}
use Rattle.lower.specs.declared.datatypes.UnionMode.TheVariants.{Dense, Sparse}
use Rattle.lower.specs.TypeTrees.{Plain, null, boolean, int8, int16, int32, int64, uint8, uint16, uint32, uint64, float16, float32, float64, timestamp, date32, date64, time32, time64, duration, interval, binary, fixed_binary, large_binary, utf8, large_utf8, decimal as decimal128, decimal256, list, large_list, fixed_list, entries, structure, choice, TypeTree, plain, single, group, dictionary, extension, FieldTree, field, FieldTrees, no_fields, more_fields}

-- A unit of time.
abbrev pub unit_text : TimeUnit → List ℕ
unit_text Second = codes "s"
unit_text Millisecond = codes "ms"
unit_text Microsecond = codes "us"
unit_text Nanosecond = codes "ns"

-- A type with a unit of time.
abbrev pub with_unit : List ℕ → TimeUnit → List ℕ
with_unit name unit = name ++ (unit_text unit ++ codes "]")

-- A time zone, after the unit; an empty name is no time zone.
abbrev pub zone_text : Option (List ℕ) → List ℕ
zone_text None = []
zone_text (Some zone) = if length zone == 0 then [] else codes ", tz=" ++ zone

abbrev pub timestamp_text : TimeUnit → Option (List ℕ) → List ℕ
timestamp_text unit zone = codes "timestamp[" ++ (unit_text unit ++ (zone_text zone ++ codes "]"))

abbrev pub interval_text : IntervalUnit → List ℕ
interval_text YearMonth = codes "month_interval"
interval_text DayTime = codes "day_time_interval"
interval_text MonthDayNano = codes "month_day_nano_interval"

-- A decimal type.
abbrev pub decimal_text : List ℕ → ℕ → ℕ → List ℕ
decimal_text name precision scale = name ++ (decimal precision ++ (codes ", " ++ (decimal scale ++ codes ")")))

-- A type without children.
abbrev pub plain_text : Plain → List ℕ
plain_text null = codes "null"
plain_text boolean = codes "bool"
plain_text int8 = codes "int8"
plain_text int16 = codes "int16"
plain_text int32 = codes "int32"
plain_text int64 = codes "int64"
plain_text uint8 = codes "uint8"
plain_text uint16 = codes "uint16"
plain_text uint32 = codes "uint32"
plain_text uint64 = codes "uint64"
plain_text float16 = codes "halffloat"
plain_text float32 = codes "float"
plain_text float64 = codes "double"
plain_text (timestamp unit zone) = timestamp_text unit zone
plain_text date32 = codes "date32[day]"
plain_text date64 = codes "date64[ms]"
plain_text (time32 unit) = with_unit (codes "time32[") unit
plain_text (time64 unit) = with_unit (codes "time64[") unit
plain_text (duration unit) = with_unit (codes "duration[") unit
plain_text (interval unit) = interval_text unit
plain_text binary = codes "binary"
plain_text (fixed_binary size) = codes "fixed_size_binary[" ++ (decimal size ++ codes "]")
plain_text large_binary = codes "large_binary"
plain_text utf8 = codes "string"
plain_text large_utf8 = codes "large_string"
plain_text (decimal128 precision scale) = decimal_text (codes "decimal128(") precision scale
plain_text (decimal256 precision scale) = decimal_text (codes "decimal256(") precision scale

-- The type of a dictionary's indices.
abbrev pub integer_text : IntegerType → List ℕ
integer_text Integers.Int8 = codes "int8"
integer_text Integers.Int16 = codes "int16"
integer_text Integers.Int32 = codes "int32"
integer_text Integers.Int64 = codes "int64"
integer_text Integers.UInt8 = codes "uint8"
integer_text Integers.UInt16 = codes "uint16"
integer_text Integers.UInt32 = codes "uint32"
integer_text Integers.UInt64 = codes "uint64"

abbrev pub ordered_text : Bool → List ℕ
ordered_text true = codes ", ordered=1>"
ordered_text false = codes ", ordered=0>"

-- A dictionary's text, after the type of its values.
abbrev pub keys_text : IntegerType → Bool → List ℕ
keys_text keys ordered = codes ", indices=" ++ (integer_text keys ++ ordered_text ordered)

abbrev pub union_text : UnionMode → List ℕ
union_text Sparse = codes "sparse_union<"
union_text Dense = codes "dense_union<"

-- What follows the type of a field.
abbrev pub null_text : Bool → List ℕ
null_text true = []
null_text false = codes " not null"

-- The text between fields, none before the first.
abbrev pub text_before : Bool → List ℕ → List ℕ
text_before true between = []
text_before false between = between

-- The type id of child i of a union: i itself if no ids are given.
abbrev pub id_at : Option (List ℤ) → ℕ → Option ℤ
id_at None i = None
id_at (Some ids) i = slice_get ids i

abbrev pub id_or : Option ℤ → ℕ → List ℕ
id_or None i = codes "=" ++ decimal i
id_or (Some id) i = codes "=" ++ signed_decimal id

abbrev pub id_text : Option (List ℤ) → ℕ → List ℕ
id_text ids i = id_or (id_at ids i) i

-- The name of a map's field or of a member of it, if it isn't the usual one.
abbrev pub name_text : List ℕ → List ℕ → List ℕ
name_text usual name = if same_text name usual then [] else codes " ('" ++ (name ++ codes "')")

abbrev pub sorted_text : Bool → List ℕ
sorted_text true = codes ", keys_sorted"
sorted_text false = []

-- A map's text, after its members.
abbrev pub map_end : List ℕ → Bool → List ℕ
map_end name sorted = sorted_text sorted ++ (name_text (codes "entries") name ++ codes ">")

abbrev pub extension_text : List ℕ → List ℕ
extension_text name = codes "extension<" ++ (name ++ codes ">")

abbrev mutual
  -- A type.
  pub type_text : TypeTree → List ℕ
  type_text (plain p) = plain_text p
  type_text (single list f) = codes "list<" ++ (field_text f ++ codes ">")
  type_text (single large_list f) = codes "large_list<" ++ (field_text f ++ codes ">")
  type_text (single (fixed_list size) f) =
      (codes "fixed_size_list<" ++ (field_text f ++ codes ">")) ++ (codes "[" ++ (decimal size ++ codes "]"))
  type_text (single (entries sorted) (field name (group structure (more_fields k (more_fields v no_fields))) nullable metadata)) =
      codes "map<" ++ (member_text (codes "key") k ++ (codes ", " ++ (member_text (codes "value") v ++ map_end name sorted)))
  type_text (single (entries sorted) f) = codes "map<" ++ (field_text f ++ codes ">")
  type_text (group structure fs) = codes "struct<" ++ (joined_text (codes ", ") true fs ++ codes ">")
  type_text (group (choice ids mode) fs) = union_text mode ++ (choices_text ids 0 fs ++ codes ">")
  type_text (dictionary keys t ordered) = codes "dictionary<values=" ++ (type_text t ++ keys_text keys ordered)
  type_text (extension name t text) = extension_text name

  -- A field.
  pub field_text : FieldTree → List ℕ
  field_text (field name t nullable metadata) = name ++ (codes ": " ++ (type_text t ++ null_text nullable))

  -- The type of a map's key or value, and its name if it isn't the usual one.
  pub member_text : List ℕ → FieldTree → List ℕ
  member_text usual (field name t nullable metadata) = type_text t ++ name_text usual name

  -- Fields with a text between them.
  pub joined_text : List ℕ → Bool → FieldTrees → List ℕ
  joined_text between first no_fields = []
  joined_text between first (more_fields f fs) = text_before first between ++ (field_text f ++ joined_text between false fs)

  -- The children of a union from child i on, each with its type id.
  pub choices_text : Option (List ℤ) → ℕ → FieldTrees → List ℕ
  choices_text ids i no_fields = []
  choices_text ids i (more_fields f fs) =
      text_before (i == 0) (codes ", ") ++ (field_text f ++ (id_text ids i ++ choices_text ids (i + 1) fs))

-- The fields of a struct type.
abbrev pub struct_text : FieldTrees → List ℕ
struct_text fs = codes "struct<" ++ (joined_text (codes ", ") true fs ++ codes ">")

-- A type of one child.
abbrev pub with_field : List ℕ → FieldTree → List ℕ
with_field name f = name ++ (field_text f ++ codes ">")

-- A schema: a line for each field.
abbrev pub schema_text : FieldTrees → List ℕ
schema_text fs = joined_text (10 ∷ []) true fs
