-- The physical type of a type, and a type without its extensions.
-- (Arrow columnar format, "Physical Memory Layout" and "Extension Types".)
use Rattle.lower.specs.declared.datatypes.IntegerType.{IntegerType}
use Rattle.lower.specs.declared.datatypes.IntegerType.TheVariants as Integers
use Rattle.lower.specs.declared.datatypes.IntervalUnit.{IntervalUnit}
use Rattle.lower.specs.declared.datatypes.IntervalUnit.TheVariants.{YearMonth, DayTime, MonthDayNano}
use Rattle.lower_types.specs.declared.PrimitiveType.{PrimitiveType}
use Rattle.lower_types.specs.declared.PrimitiveType.TheVariants as Primitives
use Rattle.lower.specs.declared.datatypes.physical_type.PhysicalType.{PhysicalType}
use Rattle.lower.specs.declared.datatypes.physical_type.PhysicalType.TheVariants as Physicals
use Rattle.lower.specs.TypeTrees.{Plain, null, boolean, int8, int16, int32, int64, uint8, uint16, uint32, uint64, float16, float32, float64, timestamp, date32, date64, time32, time64, duration, interval, binary, fixed_binary, large_binary, utf8, large_utf8, decimal, decimal256, Single, list, large_list, fixed_list, entries, Group, structure, choice, TypeTree, plain, single, group, dictionary, extension}

-- The type without its extensions.
abbrev pub logical : TypeTree → TypeTree
logical (plain p) = plain p
logical (single s f) = single s f
logical (group g fs) = group g fs
logical (dictionary keys t ordered) = dictionary keys t ordered
logical (extension name t text) = logical t

-- The integer type as a type of columns.
abbrev pub integer : IntegerType → Plain
integer Integers.Int8 = int8
integer Integers.Int16 = int16
integer Integers.Int32 = int32
integer Integers.Int64 = int64
integer Integers.UInt8 = uint8
integer Integers.UInt16 = uint16
integer Integers.UInt32 = uint32
integer Integers.UInt64 = uint64

-- The numbers that intervals of a unit are stored as.
abbrev pub physical_interval : IntervalUnit → PrimitiveType
physical_interval YearMonth = Primitives.Int32
physical_interval DayTime = Primitives.DaysMs
physical_interval MonthDayNano = Primitives.MonthDayNano

-- The physical type of a type without children.
abbrev pub physical_plain : Plain → PhysicalType
physical_plain null = Physicals.Null
physical_plain boolean = Physicals.Boolean
physical_plain int8 = Physicals.Primitive Primitives.Int8
physical_plain int16 = Physicals.Primitive Primitives.Int16
physical_plain int32 = Physicals.Primitive Primitives.Int32
physical_plain int64 = Physicals.Primitive Primitives.Int64
physical_plain uint8 = Physicals.Primitive Primitives.UInt8
physical_plain uint16 = Physicals.Primitive Primitives.UInt16
physical_plain uint32 = Physicals.Primitive Primitives.UInt32
physical_plain uint64 = Physicals.Primitive Primitives.UInt64
physical_plain float16 = Physicals.Primitive Primitives.Float16
physical_plain float32 = Physicals.Primitive Primitives.Float32
physical_plain float64 = Physicals.Primitive Primitives.Float64
physical_plain (timestamp unit timezone) = Physicals.Primitive Primitives.Int64
physical_plain date32 = Physicals.Primitive Primitives.Int32
physical_plain date64 = Physicals.Primitive Primitives.Int64
physical_plain (time32 unit) = Physicals.Primitive Primitives.Int32
physical_plain (time64 unit) = Physicals.Primitive Primitives.Int64
physical_plain (duration unit) = Physicals.Primitive Primitives.Int64
physical_plain (interval unit) = Physicals.Primitive (physical_interval unit)
physical_plain binary = Physicals.Binary
physical_plain (fixed_binary size) = Physicals.FixedSizeBinary
physical_plain large_binary = Physicals.LargeBinary
physical_plain utf8 = Physicals.Utf8
physical_plain large_utf8 = Physicals.LargeUtf8
physical_plain (decimal precision scale) = Physicals.Primitive Primitives.Int128
physical_plain (decimal256 precision scale) = Physicals.Primitive Primitives.Int256

-- The physical type of a type with one child.
abbrev pub physical_single : Single → PhysicalType
physical_single list = Physicals.List
physical_single large_list = Physicals.LargeList
physical_single (fixed_list size) = Physicals.FixedSizeList
physical_single (entries sorted) = Physicals.Map

-- The physical type of a type with several children.
abbrev pub physical_group : Group → PhysicalType
physical_group structure = Physicals.Struct
physical_group (choice ids mode) = Physicals.Union

-- The physical type of a type; an extension has that of the type it is stored as.
abbrev pub physical : TypeTree → PhysicalType
physical (plain p) = physical_plain p
physical (single s f) = physical_single s
physical (group g fs) = physical_group g
physical (dictionary keys t ordered) = Physicals.Dictionary keys
physical (extension name t text) = physical t

-- The default type of these numbers; decimals have 32 digits, all of them after the point.
abbrev pub number_type : PrimitiveType → Plain
number_type Primitives.Int8 = int8
number_type Primitives.Int16 = int16
number_type Primitives.Int32 = int32
number_type Primitives.Int64 = int64
number_type Primitives.Int128 = decimal 32 32
number_type Primitives.Int256 = decimal256 32 32
number_type Primitives.UInt8 = uint8
number_type Primitives.UInt16 = uint16
number_type Primitives.UInt32 = uint32
number_type Primitives.UInt64 = uint64
number_type Primitives.Float16 = float16
number_type Primitives.Float32 = float32
number_type Primitives.Float64 = float64
number_type Primitives.DaysMs = interval DayTime
number_type Primitives.MonthDayNano = interval MonthDayNano
