-- The trees that a `DataType`, a `Field`, the fields of a `Vec` and a `Schema` mean.
-- (Arrow columnar format, "Data Types".)
use Rattle.std.specs.Prelude.{ℕ, ℤ, Option, List, [], ◌∷◌, map, option_map, String, Vec, string_bytes}
use Rattle.std.specs.declared.alloc.Global.{Global}
use Rattle.lower.specs.TypeTrees.{Pairs, null, boolean, int8, int16, int32, int64, uint8, uint16, uint32, uint64, float16, float32, float64, timestamp, date32, date64, time32, time64, duration, interval, binary, fixed_binary, large_binary, utf8, large_utf8, decimal, decimal256, list, large_list, fixed_list, entries, structure, choice, TypeTree, plain, single, group, dictionary, extension, FieldTree, field, FieldTrees, no_fields, more_fields}
use Rattle.lower.specs.declared.datatypes.DataType.{DataType, fold-DataType}
use Rattle.lower.specs.declared.datatypes.Field.{Field, fold-Field}
use Rattle.lower.specs.declared.datatypes.schema.Schema.{Schema}
use Rattle.lower.specs.declared.datatypes.DataType.TheOpen.{DataType-F, Field-F}

-- Some fields as one value.
abbrev pub fields_of : List FieldTree → FieldTrees
fields_of [] = no_fields
fields_of (f ∷ fs) = more_fields f (fields_of fs)

-- A text that may be absent.
abbrev pub text_of : Option (String Global) → Option (List ℕ)
text_of s = option_map (λ x. string_bytes x) s

-- The type ids of a union.
abbrev pub ids_of : Option (Vec ℤ Global) → Option (List ℤ)
ids_of ids = option_map (λ v. v.items) ids

-- The pairs of a metadata map, as texts.
abbrev pub pairs_of : List (String Global × String Global) → Pairs
pairs_of es = map (λ e. (string_bytes e.0, string_bytes e.1)) es

-- One level of a type, given its children.
abbrev pub type_step : DataType-F TypeTree FieldTree → TypeTree
type_step DataType-F.Null = plain null
type_step DataType-F.Boolean = plain boolean
type_step DataType-F.Int8 = plain int8
type_step DataType-F.Int16 = plain int16
type_step DataType-F.Int32 = plain int32
type_step DataType-F.Int64 = plain int64
type_step DataType-F.UInt8 = plain uint8
type_step DataType-F.UInt16 = plain uint16
type_step DataType-F.UInt32 = plain uint32
type_step DataType-F.UInt64 = plain uint64
type_step DataType-F.Float16 = plain float16
type_step DataType-F.Float32 = plain float32
type_step DataType-F.Float64 = plain float64
type_step (DataType-F.Timestamp u zone) = plain (timestamp u (text_of zone))
type_step DataType-F.Date32 = plain date32
type_step DataType-F.Date64 = plain date64
type_step (DataType-F.Time32 u) = plain (time32 u)
type_step (DataType-F.Time64 u) = plain (time64 u)
type_step (DataType-F.Duration u) = plain (duration u)
type_step (DataType-F.Interval u) = plain (interval u)
type_step DataType-F.Binary = plain binary
type_step (DataType-F.FixedSizeBinary n) = plain (fixed_binary n)
type_step DataType-F.LargeBinary = plain large_binary
type_step DataType-F.Utf8 = plain utf8
type_step DataType-F.LargeUtf8 = plain large_utf8
type_step (DataType-F.List f) = single list f.value
type_step (DataType-F.FixedSizeList f n) = single (fixed_list n) f.value
type_step (DataType-F.LargeList f) = single large_list f.value
type_step (DataType-F.Struct fs) = group structure (fields_of fs.items)
type_step (DataType-F.Union fs ids mode) = group (choice (ids_of ids) mode) (fields_of fs.items)
type_step (DataType-F.Map f sorted) = single (entries sorted) f.value
type_step (DataType-F.Dictionary keys t ordered) = dictionary keys t.value ordered
type_step (DataType-F.Extension name t data_) = extension (string_bytes name) t.value (text_of data_)
type_step (DataType-F.Decimal p s) = plain (decimal p s)
type_step (DataType-F.Decimal256 p s) = plain (decimal256 p s)

-- One level of a field, given its type.
abbrev pub field_step : Field-F TypeTree FieldTree → FieldTree
field_step f = field (string_bytes f.name) f.data_type f.is_nullable (pairs_of f.metadata.entries)

-- The tree that a type means.
abbrev pub type_view : DataType → TypeTree
type_view = fold-DataType TypeTree FieldTree type_step field_step

-- The tree that a field means.
abbrev pub field_view : Field → FieldTree
field_view = fold-Field TypeTree FieldTree type_step field_step

-- The trees that some fields mean.
abbrev pub fields_view : List Field → FieldTrees
fields_view fs = fields_of (map field_view fs)

-- The trees that a schema's fields mean, and its metadata.
abbrev pub schema_view : Schema → FieldTrees × Pairs
schema_view s = (fields_view s.fields.items, pairs_of s.metadata.entries)
