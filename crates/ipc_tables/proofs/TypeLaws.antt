-- The table of a type that is built reads as the type.
use Rattle.std.proofs.Common.{◌≡◌, ℕ, ℤ, ◌<◌, ◌≤◌, List, map, Option, None, Some, Ok, arith, String, Vec, Global}
use Rattle.std.specs.Prelude.{option_map, string_bytes}
use Rattle.ipc_table_views.specs.Enumerations.{date_unit_of, interval_unit_of, precision_of, time_unit_of, union_mode_of}
use Rattle.ipc_table_views.specs.Structs.{signed32, structs_slot}
use Rattle.ipc_table_views.specs.Tables.{text_slot}
use Rattle.ipc_table_bytes.specs.Holds.{HoldsPart, spot}
use Rattle.ipc_table_bytes.specs.Readers.{HoldsOptional}
use Rattle.ipc_table_bytes.specs.Tree.{no_slots, table, text}
use Rattle.ipc_table_bytes.proofs.Lengths.{length-le}
use Rattle.ipc_table_bytes.proofs.ReaderLaws.{absent-read, optional-read, structs-read, text-read}
use Rattle.ipc_tables.specs.declared.types.FieldType.{FieldType}
use Rattle.ipc_tables.specs.declared.types.FieldType.TheVariants.{Null, Int, FloatingPoint, Binary, Utf8, Bool as a_bool, Decimal, Date, Time, Timestamp, Interval, List as a_list, Struct, Union, FixedSizeBinary, FixedSizeList, Map, Duration, LargeBinary, LargeUtf8, LargeList}
use Rattle.ipc_tables.specs.declared.types.Int.{Int as int_table}
use Rattle.ipc_tables.specs.Reads.{IsInt, IsType}
use Rattle.ipc_tables.specs.Slots.{bits32, kept_bytes32}
use Rattle.ipc_tables.specs.Types.{date_unit_number, id_bytes, ids_part, int_slots, interval_unit_number, precision_number, time_unit_number, type_slots, type_tag, union_mode_number}
use Rattle.ipc_tables.proofs.Numbers.{signed-read, flag-read, unit-read, precision-back, date_unit-back, time_unit-back, interval_unit-back, union_mode-back, signed32-is}

pub IsInt-holds : (m : List ℕ) (t : ℕ) (i : int_table) → HoldsPart m t (table (int_slots i)) → IsInt (spot m t) i
IsInt-holds m t i (v, size, e, f, ((q0, e0, f0, g0), ((q1, e1, f1, g1), past))) = (signed-read 0 m t 0 q0 i.bit_width e0 f0, flag-read m t 1 q1 i.is_signed e1 f1)

text-optional : (m : List ℕ) (p i : ℕ) (s : Option (String Global)) → HoldsOptional m p i (option_map (λ s. text (string_bytes s)) s) → text_slot m p i ≡ Ok (option_map string_bytes s)
text-optional m p i None e = absent-read m p i _ e
text-optional m p i (Some s) (q, t, e, f, h) = text-read m p i q t (string_bytes s) e f h

-- the number of a type is in the union
pub tag-low : (y : FieldType) → (0 < type_tag y) × (type_tag y ≤ 21)
tag-low Null = (omega arith, omega arith)
tag-low (Int x) = (omega arith, omega arith)
tag-low (FloatingPoint x) = (omega arith, omega arith)
tag-low Binary = (omega arith, omega arith)
tag-low Utf8 = (omega arith, omega arith)
tag-low a_bool = (omega arith, omega arith)
tag-low (Decimal x) = (omega arith, omega arith)
tag-low (Date x) = (omega arith, omega arith)
tag-low (Time x) = (omega arith, omega arith)
tag-low (Timestamp x) = (omega arith, omega arith)
tag-low (Interval x) = (omega arith, omega arith)
tag-low a_list = (omega arith, omega arith)
tag-low Struct = (omega arith, omega arith)
tag-low (Union x) = (omega arith, omega arith)
tag-low (FixedSizeBinary x) = (omega arith, omega arith)
tag-low (FixedSizeList x) = (omega arith, omega arith)
tag-low (Map x) = (omega arith, omega arith)
tag-low (Duration x) = (omega arith, omega arith)
tag-low LargeBinary = (omega arith, omega arith)
tag-low LargeUtf8 = (omega arith, omega arith)
tag-low LargeList = (omega arith, omega arith)

-- The type ids of a union, if it has any.
ids-optional : (m : List ℕ) (p i : ℕ) (ids : Option (Vec ℤ Global)) → HoldsOptional m p i (option_map (λ v. ids_part v.items) ids)
    → structs_slot signed32 4 m p i ≡ Ok (option_map (λ v. map kept_bytes32 v.items) ids)
ids-optional m p i None e = absent-read m p i _ e
ids-optional m p i (Some ids) (q, t, e, f, h) =
    structs-read signed32 4 4 id_bytes kept_bytes32 (λ z. length-le 4 (bits32 z)) signed32-is m p i q t ids.items e f h

-- the table of a type reads as the type
pub IsType-holds : (m : List ℕ) (t : ℕ) (y : FieldType) → HoldsPart m t (table (type_slots y)) → IsType (spot m t) y
IsType-holds m t Null h = tt
IsType-holds m t (Int x) h = IsInt-holds m t x h
IsType-holds m t (FloatingPoint x) (v, size, e, f, ((q0, e0, f0, g0), past)) = unit-read precision_number precision_of precision-back 0 m t 0 q0 x.precision e0 f0
IsType-holds m t Binary h = tt
IsType-holds m t Utf8 h = tt
IsType-holds m t a_bool h = tt
IsType-holds m t (Decimal x) (v, size, e, f, ((q0, e0, f0, g0), ((q1, e1, f1, g1), ((q2, e2, f2, g2), past)))) =
    (signed-read 0 m t 0 q0 x.precision e0 f0, signed-read 0 m t 1 q1 x.scale e1 f1, signed-read 128 m t 2 q2 x.bit_width e2 f2)
IsType-holds m t (Date x) (v, size, e, f, ((q0, e0, f0, g0), past)) = unit-read date_unit_number date_unit_of date_unit-back 1 m t 0 q0 x.unit e0 f0
IsType-holds m t (Time x) (v, size, e, f, ((q0, e0, f0, g0), ((q1, e1, f1, g1), past))) =
    (unit-read time_unit_number time_unit_of time_unit-back 1 m t 0 q0 x.unit e0 f0, signed-read 32 m t 1 q1 x.bit_width e1 f1)
IsType-holds m t (Timestamp x) (v, size, e, f, ((q0, e0, f0, g0), rest)) =
    let zone = optional-read m t size 1 (option_map (λ s. text (string_bytes s)) x.timezone) no_slots rest in
    (unit-read time_unit_number time_unit_of time_unit-back 0 m t 0 q0 x.unit e0 f0, text-optional m t 1 x.timezone zone.0)
IsType-holds m t (Interval x) (v, size, e, f, ((q0, e0, f0, g0), past)) = unit-read interval_unit_number interval_unit_of interval_unit-back 0 m t 0 q0 x.unit e0 f0
IsType-holds m t a_list h = tt
IsType-holds m t Struct h = tt
IsType-holds m t (Union x) (v, size, e, f, ((q0, e0, f0, g0), rest)) =
    let ids = optional-read m t size 1 (option_map (λ v. ids_part v.items) x.type_ids) no_slots rest in
    (unit-read union_mode_number union_mode_of union_mode-back 0 m t 0 q0 x.mode e0 f0, ids-optional m t 1 x.type_ids ids.0)
IsType-holds m t (FixedSizeBinary x) (v, size, e, f, ((q0, e0, f0, g0), past)) = signed-read 0 m t 0 q0 x.byte_width e0 f0
IsType-holds m t (FixedSizeList x) (v, size, e, f, ((q0, e0, f0, g0), past)) = signed-read 0 m t 0 q0 x.list_size e0 f0
IsType-holds m t (Map x) (v, size, e, f, ((q0, e0, f0, g0), past)) = flag-read m t 0 q0 x.keys_sorted e0 f0
IsType-holds m t (Duration x) (v, size, e, f, ((q0, e0, f0, g0), past)) = unit-read time_unit_number time_unit_of time_unit-back 1 m t 0 q0 x.unit e0 f0
IsType-holds m t LargeBinary h = tt
IsType-holds m t LargeUtf8 h = tt
IsType-holds m t LargeList h = tt
