-- The tables of Schema.fbs that describe a type: what each field of a table has.
-- The other types have no field.
use Rattle.std.specs.Prelude.{ℕ, ℤ, List, Option, Bool, Result}
use Rattle.std.specs.Int.{w32, cast_signed}
use Rattle.ipc_devices.specs.declared.fault.TableFault.{TableFault}
use Rattle.ipc_table_views.specs.declared.types.Precision.{Precision}
use Rattle.ipc_table_views.specs.declared.types.DateUnit.{DateUnit}
use Rattle.ipc_table_views.specs.declared.types.TimeUnit.{TimeUnit}
use Rattle.ipc_table_views.specs.declared.types.IntervalUnit.{IntervalUnit}
use Rattle.ipc_table_views.specs.declared.types.UnionMode.{UnionMode}
use Rattle.ipc_table_views.specs.Enumerations.{precision_of, date_unit_of, time_unit_of, interval_unit_of, union_mode_of}
use Rattle.ipc_table_views.specs.Spot.{Spot}
use Rattle.ipc_table_views.specs.Structs.{signed32, structs_slot}
use Rattle.ipc_table_views.specs.Tables.{and_then, flag, map_ok, number_slot, text_slot}

-- The signed 32-bit number in field i.
abbrev pub signed_slot : ℕ → Spot → ℕ → Result ℤ TableFault
signed_slot default t i = map_ok (cast_signed w32) (number_slot 4 default t.message t.place i)

-- Int: bitWidth, is_signed.
abbrev pub int_bit_width : Spot → Result ℤ TableFault
int_bit_width t = signed_slot 0 t 0

abbrev pub int_is_signed : Spot → Result Bool TableFault
int_is_signed t = map_ok flag (number_slot 1 0 t.message t.place 1)

-- FloatingPoint: precision.
abbrev pub floating_point_precision : Spot → Result Precision TableFault
floating_point_precision t = and_then (number_slot 2 0 t.message t.place 0) precision_of

-- Decimal: precision, scale, bitWidth (128 if absent).
abbrev pub decimal_precision : Spot → Result ℤ TableFault
decimal_precision t = signed_slot 0 t 0

abbrev pub decimal_scale : Spot → Result ℤ TableFault
decimal_scale t = signed_slot 0 t 1

abbrev pub decimal_bit_width : Spot → Result ℤ TableFault
decimal_bit_width t = signed_slot 128 t 2

-- Date: unit (milliseconds if absent).
abbrev pub date_unit : Spot → Result DateUnit TableFault
date_unit t = and_then (number_slot 2 1 t.message t.place 0) date_unit_of

-- Time: unit (milliseconds if absent), bitWidth (32 if absent).
abbrev pub time_unit : Spot → Result TimeUnit TableFault
time_unit t = and_then (number_slot 2 1 t.message t.place 0) time_unit_of

abbrev pub time_bit_width : Spot → Result ℤ TableFault
time_bit_width t = signed_slot 32 t 1

-- Timestamp: unit, timezone.
abbrev pub timestamp_unit : Spot → Result TimeUnit TableFault
timestamp_unit t = and_then (number_slot 2 0 t.message t.place 0) time_unit_of

abbrev pub timestamp_timezone : Spot → Result (Option (List ℕ)) TableFault
timestamp_timezone t = text_slot t.message t.place 1

-- Interval: unit.
abbrev pub interval_unit : Spot → Result IntervalUnit TableFault
interval_unit t = and_then (number_slot 2 0 t.message t.place 0) interval_unit_of

-- Union: mode, typeIds.
abbrev pub union_mode : Spot → Result UnionMode TableFault
union_mode t = and_then (number_slot 2 0 t.message t.place 0) union_mode_of

abbrev pub union_type_ids : Spot → Result (Option (List ℤ)) TableFault
union_type_ids t = structs_slot signed32 4 t.message t.place 1

-- FixedSizeBinary: byteWidth.
abbrev pub fixed_size_binary_byte_width : Spot → Result ℤ TableFault
fixed_size_binary_byte_width t = signed_slot 0 t 0

-- FixedSizeList: listSize.
abbrev pub fixed_size_list_list_size : Spot → Result ℤ TableFault
fixed_size_list_list_size t = signed_slot 0 t 0

-- Map: keysSorted.
abbrev pub map_keys_sorted : Spot → Result Bool TableFault
map_keys_sorted t = map_ok flag (number_slot 1 0 t.message t.place 0)

-- Duration: unit (milliseconds if absent).
abbrev pub duration_unit : Spot → Result TimeUnit TableFault
duration_unit t = and_then (number_slot 2 1 t.message t.place 0) time_unit_of
