-- The tables of Schema.fbs that describe a type: what each field of a table must have.
use Rattle.std.specs.Prelude.{ℕ, ℤ, List, option_map, string_bytes}
use Rattle.ipc_table_bytes.specs.Pads.{le}
use Rattle.ipc_table_bytes.specs.Tree.{Part, Slots, no_slots, number, text}
use Rattle.ipc_table_views.specs.declared.types.Precision.{Precision}
use Rattle.ipc_table_views.specs.declared.types.Precision.TheVariants.{Half, Single, Double}
use Rattle.ipc_table_views.specs.declared.types.DateUnit.{DateUnit}
use Rattle.ipc_table_views.specs.declared.types.DateUnit.TheVariants.{Day, Millisecond as day_millisecond}
use Rattle.ipc_table_views.specs.declared.types.TimeUnit.{TimeUnit}
use Rattle.ipc_table_views.specs.declared.types.TimeUnit.TheVariants.{Second, Millisecond, Microsecond, Nanosecond}
use Rattle.ipc_table_views.specs.declared.types.IntervalUnit.{IntervalUnit}
use Rattle.ipc_table_views.specs.declared.types.IntervalUnit.TheVariants.{YearMonth, DayTime, MonthDayNano}
use Rattle.ipc_table_views.specs.declared.types.UnionMode.{UnionMode}
use Rattle.ipc_table_views.specs.declared.types.UnionMode.TheVariants.{Sparse, Dense}
use Rattle.ipc_tables.specs.declared.types.Int.{Int as int_table}
use Rattle.ipc_tables.specs.declared.types.Decimal.{Decimal as decimal_table}
use Rattle.ipc_tables.specs.declared.types.Time.{Time as time_table}
use Rattle.ipc_tables.specs.declared.types.Timestamp.{Timestamp as timestamp_table}
use Rattle.ipc_tables.specs.declared.types.Union.{Union as union_table}
use Rattle.ipc_tables.specs.declared.types.Map.{Map as map_table}
use Rattle.ipc_tables.specs.declared.types.FieldType.{FieldType}
use Rattle.ipc_tables.specs.declared.types.FieldType.TheVariants.{Null, Int, FloatingPoint, Binary, Utf8, Bool, Decimal, Date, Time, Timestamp, Interval, List as a_list, Struct, Union, FixedSizeBinary, FixedSizeList, Map, Duration, LargeBinary, LargeUtf8, LargeList}
use Rattle.ipc_tables.specs.Elements.{elements_of}
use Rattle.ipc_tables.specs.Slots.{bit, bits32, number_slots, optional}

-- The number of a precision in Precision.
abbrev pub precision_number : Precision → ℕ
precision_number Half = 0
precision_number Single = 1
precision_number Double = 2

-- The number of a unit in DateUnit.
abbrev pub date_unit_number : DateUnit → ℕ
date_unit_number Day = 0
date_unit_number day_millisecond = 1

-- The number of a unit in TimeUnit.
abbrev pub time_unit_number : TimeUnit → ℕ
time_unit_number Second = 0
time_unit_number Millisecond = 1
time_unit_number Microsecond = 2
time_unit_number Nanosecond = 3

-- The number of a unit in IntervalUnit.
abbrev pub interval_unit_number : IntervalUnit → ℕ
interval_unit_number YearMonth = 0
interval_unit_number DayTime = 1
interval_unit_number MonthDayNano = 2

-- The number of a mode in UnionMode.
abbrev pub union_mode_number : UnionMode → ℕ
union_mode_number Sparse = 0
union_mode_number Dense = 1

-- Int: bitWidth, is_signed.
abbrev pub int_slots : int_table → Slots
int_slots i = number 4 (bits32 i.bit_width) (number 1 (bit i.is_signed) no_slots)

-- Decimal: precision, scale, bitWidth.
abbrev pub decimal_slots : decimal_table → Slots
decimal_slots d = number 4 (bits32 d.precision) (number 4 (bits32 d.scale) (number 4 (bits32 d.bit_width) no_slots))

-- Time: unit, bitWidth.
abbrev pub time_slots : time_table → Slots
time_slots t = number 2 (time_unit_number t.unit) (number 4 (bits32 t.bit_width) no_slots)

-- Timestamp: unit, timezone.
abbrev pub timestamp_slots : timestamp_table → Slots
timestamp_slots t = number 2 (time_unit_number t.unit) (optional (option_map (λ s. text (string_bytes s)) t.timezone) no_slots)

-- The bytes of a type id.
abbrev pub id_bytes : ℤ → List ℕ
id_bytes id = le 4 (bits32 id)

-- The vector of some type ids.
abbrev pub ids_part : List ℤ → Part
ids_part ids = elements_of 4 4 id_bytes ids

-- Union: mode, typeIds.
abbrev pub union_slots : union_table → Slots
union_slots u = number 2 (union_mode_number u.mode) (optional (option_map (λ v. ids_part v.items) u.type_ids) no_slots)

-- Map: keysSorted.
abbrev pub map_slots : map_table → Slots
map_slots m = number_slots 1 (bit m.keys_sorted)

-- The number of a type in the union Type.
abbrev pub type_tag : FieldType → ℕ
type_tag Null = 1
type_tag (Int t) = 2
type_tag (FloatingPoint t) = 3
type_tag Binary = 4
type_tag Utf8 = 5
type_tag Bool = 6
type_tag (Decimal t) = 7
type_tag (Date t) = 8
type_tag (Time t) = 9
type_tag (Timestamp t) = 10
type_tag (Interval t) = 11
type_tag a_list = 12
type_tag Struct = 13
type_tag (Union t) = 14
type_tag (FixedSizeBinary t) = 15
type_tag (FixedSizeList t) = 16
type_tag (Map t) = 17
type_tag (Duration t) = 18
type_tag LargeBinary = 19
type_tag LargeUtf8 = 20
type_tag LargeList = 21

-- The table of a type.
abbrev pub type_slots : FieldType → Slots
type_slots Null = no_slots
type_slots (Int t) = int_slots t
type_slots (FloatingPoint t) = number_slots 2 (precision_number t.precision)
type_slots Binary = no_slots
type_slots Utf8 = no_slots
type_slots Bool = no_slots
type_slots (Decimal t) = decimal_slots t
type_slots (Date t) = number_slots 2 (date_unit_number t.unit)
type_slots (Time t) = time_slots t
type_slots (Timestamp t) = timestamp_slots t
type_slots (Interval t) = number_slots 2 (interval_unit_number t.unit)
type_slots a_list = no_slots
type_slots Struct = no_slots
type_slots (Union t) = union_slots t
type_slots (FixedSizeBinary t) = number_slots 4 (bits32 t.byte_width)
type_slots (FixedSizeList t) = number_slots 4 (bits32 t.list_size)
type_slots (Map t) = map_slots t
type_slots (Duration t) = number_slots 2 (time_unit_number t.unit)
type_slots LargeBinary = no_slots
type_slots LargeUtf8 = no_slots
type_slots LargeList = no_slots
