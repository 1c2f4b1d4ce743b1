-- Columns of each type as bytes, and what they mean: widths, signs, offsets, keys, and how many
-- children there may be. Beside most is one that has no meaning. A definition that is changed in
-- one word fails one of these cases. Each limit is tried at its edge: the last value that
-- passes, and the first that doesn't.
-- (Arrow columnar format, "Physical Memory Layout" and "Data Types".)
use Rattle.std.specs.Prelude.{◌≡◌, ℕ, zero, suc, ℤ, pos, negsuc, ◌+◌, ◌-◌, ◌*◌, ◌^◌, Bool, true, false, List, [], ◌∷◌, ◌++◌, codes, length, map, replicate, Option, Some, None}
use Rattle.std.specs.List.{range_with_len}
use Rattle.std.specs.Int.{w32, w64, to_le_bytes}
use Rattle.lower.specs.TypeTrees.{Plain, null, boolean, int8, int16, int32, int64, uint8, uint16, uint32, uint64, float16, float32, float64, timestamp, date32, date64, time32, time64, duration, interval, binary, fixed_binary, large_binary, utf8, large_utf8, decimal, decimal256, list, large_list, fixed_list, entries as map_of, structure, TypeTree, plain, single, group, dictionary, extension, FieldTree, field, no_fields, more_fields, choice}
use Rattle.lower.specs.declared.datatypes.IntegerType.{IntegerType}
use Rattle.lower.specs.declared.datatypes.IntegerType.TheVariants as keys
use Rattle.lower.specs.declared.datatypes.TimeUnit.TheVariants.{Second, Microsecond}
use Rattle.lower.specs.declared.datatypes.IntervalUnit.TheVariants.{YearMonth, DayTime, MonthDayNano}
use Rattle.lower.specs.declared.datatypes.UnionMode.TheVariants.{Sparse, Dense}
use Rattle.lower_types.specs.NumberTypes.{whole, wide, day_time, month_day_nano}
use Rattle.lower_types.specs.declared.Endianness.{Endianness}
use Rattle.lower_types.specs.declared.Endianness.TheVariants.{Little, Big}
use Rattle.lower_arrays.specs.Slots.{Slot, null_slot, truth_slot, number_slot, bytes_slot, text_slot, record_slot, slots_of}
use Rattle.ipc_base.specs.IdTrees.{no_ids}
use Rattle.ipc_table_views.specs.declared.message.FieldNode.{FieldNode}
use Rattle.ipc_model.specs.Samples.{node_is, buffer_is, entries, int32 as int32_kind, two}
use Rattle.ipc_examples.specs.ColumnRows.{read, word, number, numbers_of, variant}
use Rattle.ipc_model.specs.Entries.{Entries, part_at, Limit}
use Rattle.ipc_model.specs.Kinds.{offsets_32, offsets_64, Kind, null_kind, binary_kind, list_kind, map_kind, struct_kind, union_kind, dictionary_kind, extension_kind, Kinds, no_kinds, more_kinds}
use Rattle.ipc_model.specs.Tests.{is_well}
use Rattle.ipc_model.specs.TypeKinds.{kind_of}
use Rattle.lower_types.specs.declared.PrimitiveType.TheVariants.{Int8}

-- ---- numbers of each type

-- The slots of the first column, without nulls, by its type.
abbrev pub read_type : TypeTree → Entries → Option (List Slot)
read_type t s = read (kind_of t None no_ids) None s

-- So many slots in these bytes.
abbrev pub values_in : ℕ → List ℕ → Entries
values_in n body = entries Little 0 (node_is n 0 ∷ []) (buffer_is 0 0 ∷ buffer_is 0 (length body) ∷ []) body

-- Bytes whose parts of 1, 2, 4, 8 and 16 bytes differ.
abbrev pub sixteen_bytes : List ℕ
sixteen_bytes = 0xFE ∷ 0xFF ∷ 0xFF ∷ 0xFF ∷ 1 ∷ 0 ∷ 0 ∷ 0x80 ∷ 3 ∷ 0 ∷ 0 ∷ 0 ∷ 0 ∷ 0 ∷ 0 ∷ 0xFF ∷ []

abbrev pub first_value : Plain → Option (List Slot)
first_value p = read_type (plain p) (values_in 1 (sixteen_bytes ++ sixteen_bytes))

abbrev pub one_integer : ℤ → Option (List Slot)
one_integer z = Some (number_slot (whole z) ∷ [])

-- These bytes as a signed number of 64 bits, of 128 bits, and as the low half of one of 256.
abbrev pub eight_as_signed : ℤ
eight_as_signed = negsuc (2 ^ 63 - 2 ^ 33 + 1)

abbrev pub sixteen_as_signed : ℤ
sixteen_as_signed = negsuc (2 ^ 120 - 3 * 2 ^ 64 - 2 ^ 63 - 2 ^ 33 + 1)

-- The first value of each type in the same 32 bytes: how many bytes it has, and whether
-- its number is signed. Dates of 32 bits are days, those of 64 bits milliseconds; a
-- decimal has 128 bits, and a wide one 256.
pub record WidthRows : Type 0 where
  pub signed_8 : first_value int8 ≡ one_integer (negsuc 1)
  pub signed_16 : first_value int16 ≡ one_integer (negsuc 1)
  pub signed_32 : first_value int32 ≡ one_integer (negsuc 1)
  pub signed_64 : first_value int64 ≡ one_integer eight_as_signed
  pub unsigned_8 : first_value uint8 ≡ one_integer (pos 254)
  pub unsigned_16 : first_value uint16 ≡ one_integer (pos 65534)
  pub unsigned_32 : first_value uint32 ≡ one_integer (pos 4294967294)
  pub unsigned_64 : first_value uint64 ≡ one_integer (pos (2 ^ 63 + 2 ^ 33 - 2))
  pub half_floats : first_value float16 ≡ None
  pub floats : first_value float32 ≡ None
  pub double_floats : first_value float64 ≡ None
  pub points_in_time : first_value (timestamp Second None) ≡ one_integer eight_as_signed
  pub days : first_value date32 ≡ one_integer (negsuc 1)
  pub milliseconds : first_value date64 ≡ one_integer eight_as_signed
  pub short_times : first_value (time32 Second) ≡ one_integer (negsuc 1)
  pub long_times : first_value (time64 Microsecond) ≡ one_integer eight_as_signed
  pub durations : first_value (duration Second) ≡ one_integer eight_as_signed
  pub months : first_value (interval YearMonth) ≡ one_integer (negsuc 1)
  pub days_and_milliseconds : first_value (interval DayTime) ≡ Some (number_slot (day_time (negsuc 1) (negsuc (2 ^ 31 - 2))) ∷ [])
  pub three_parts : first_value (interval MonthDayNano)
      ≡ Some (number_slot (month_day_nano (negsuc 1) (negsuc (2 ^ 31 - 2)) (negsuc (2 ^ 56 - 4))) ∷ [])
  pub decimals : first_value (decimal 10 2) ≡ one_integer sixteen_as_signed
  pub wide_decimals : first_value (decimal256 10 2)
      ≡ Some (number_slot (wide sixteen_as_signed (2 ^ 128 - 2 ^ 120 + 3 * 2 ^ 64 + 2 ^ 63 + 2 ^ 33 - 2)) ∷ [])
  pub three_of_four_bytes : read_type (plain date32) (values_in 1 (0 ∷ 0 ∷ 0 ∷ [])) ≡ None
  pub seven_of_eight_bytes : read_type (plain date64) (values_in 1 (replicate 7 0)) ≡ None
  pub fifteen_of_sixteen : read_type (plain (decimal 10 2)) (values_in 1 (replicate 15 0)) ≡ None

-- ---- bytes of a fixed number, and bits

-- Two slots of three bytes each; no slot has 0 bytes. Eight bits take one byte, and the
-- ninth is the lowest of the next.
pub record FixedRows : Type 0 where
  pub three_bytes : read_type (plain (fixed_binary 3)) (values_in 2 (1 ∷ 2 ∷ 3 ∷ 4 ∷ 5 ∷ 6 ∷ []))
      ≡ Some (bytes_slot (1 ∷ 2 ∷ 3 ∷ []) ∷ bytes_slot (4 ∷ 5 ∷ 6 ∷ []) ∷ [])
  pub five_of_six : read_type (plain (fixed_binary 3)) (values_in 2 (1 ∷ 2 ∷ 3 ∷ 4 ∷ 5 ∷ [])) ≡ None
  pub of_no_bytes : read_type (plain (fixed_binary 0)) (values_in 0 []) ≡ None
  pub eight_bits : read_type (plain boolean) (values_in 8 (0x80 ∷ [])) ≡ Some (replicate 7 (truth_slot false) ++ truth_slot true ∷ [])
  pub nine_bits : read_type (plain boolean) (values_in 9 (0 ∷ 1 ∷ [])) ≡ Some (replicate 8 (truth_slot false) ++ truth_slot true ∷ [])
  pub eight_of_nine : read_type (plain boolean) (values_in 9 (0 ∷ [])) ≡ None
  pub eighth_and_ninth_null : read int32_kind None
      (entries Little 0 (node_is 9 2 ∷ []) (buffer_is 0 2 ∷ buffer_is 0 36 ∷ []) (0x7F ∷ 0 ∷ replicate 34 0))
      ≡ Some (number 127 ∷ replicate 6 (number 0) ++ null_slot ∷ null_slot ∷ [])
  pub negative_null_count : read int32_kind None
      (entries Little 0 (record { length = pos 1; null_count = negsuc 0 } ∷ []) (buffer_is 0 0 ∷ buffer_is 0 4 ∷ []) (word 5)) ≡ Some (number 5 ∷ [])
  pub negative_place : read int32_kind None
      (entries Little 0 (node_is 0 0 ∷ []) (buffer_is 0 0 ∷ record { offset = negsuc 0; length = pos 0 } ∷ []) []) ≡ None
  pub nulls_not_counted : read null_kind None (entries Little 0 (node_is 2 0 ∷ []) [] []) ≡ Some (null_slot ∷ null_slot ∷ [])

-- ---- offsets

-- One list of nulls, by two offsets of some bytes, with so many nulls.
abbrev pub list_of_nulls : Kind → List ℕ → ℕ → Entries
list_of_nulls t offsets n = entries Little 0 (node_is 1 0 ∷ node_is n n ∷ []) (buffer_is 0 0 ∷ buffer_is 0 (length offsets) ∷ []) offsets

abbrev pub short_lists : ℕ → Bool
short_lists last = is_well (list_of_nulls null_kind (word 0 ++ to_le_bytes w32 last) last) (list_kind offsets_32 null_kind) 0 0 None

abbrev pub long_lists : ℕ → Bool
long_lists last = is_well (list_of_nulls null_kind (replicate 8 0 ++ to_le_bytes w64 last) last) (list_kind offsets_64 null_kind) 0 0 None

-- Two lists of integers by three offsets of 8 bytes each.
abbrev pub large_lists_of : List ℕ → Entries
large_lists_of body = entries Little 0 (node_is 2 0 ∷ node_is 2 0 ∷ []) (buffer_is 0 0 ∷ buffer_is 0 24 ∷ buffer_is 0 0 ∷ buffer_is 24 8 ∷ []) body

abbrev pub list_field : FieldTree
list_field = field [] (plain int32) true []

abbrev pub three_long_offsets : List ℕ
three_long_offsets = word 0 ++ word 0 ++ word 1 ++ word 0 ++ word 2 ++ word 0

-- One slot of bytes by two offsets, and the bytes after it.
abbrev pub bytes_by : List ℕ → List ℕ → Entries
bytes_by offsets values = entries Little 0 (node_is 1 0 ∷ []) (buffer_is 0 0 ∷ buffer_is 0 (length offsets) ∷ buffer_is (length offsets) (length values) ∷ []) (offsets ++ values)

-- Offsets are signed: the greatest is one less than half of what their bytes can encode. Large
-- forms have offsets of 8 bytes, whatever the numbers. Their bytes are in the schema's order.
-- Offsets are omitted if no slot is read and the buffer is empty; else the first must be valid too.
pub record OffsetRows : Type 0 where
  pub greatest : short_lists (2 ^ 31 - 1) ≡ true
  pub past_the_greatest : short_lists (2 ^ 31) ≡ false
  pub greatest_large : long_lists (2 ^ 63 - 1) ≡ true
  pub past_the_greatest_large : long_lists (2 ^ 63) ≡ false
  pub large_lists : read_type (single large_list list_field) (large_lists_of (three_long_offsets ++ word 3 ++ word 4))
      ≡ Some (numbers_of (3 ∷ []) ∷ numbers_of (4 ∷ []) ∷ [])
  pub short_for_large : read_type (single list list_field) (large_lists_of (three_long_offsets ++ word 3 ++ word 4))
      ≡ Some (numbers_of [] ∷ numbers_of (3 ∷ []) ∷ [])
  pub large_for_short : read_type (single large_list list_field)
      (entries Little 0 (node_is 2 0 ∷ node_is 2 0 ∷ []) (buffer_is 0 0 ∷ buffer_is 0 12 ∷ buffer_is 0 0 ∷ buffer_is 12 8 ∷ []) (word 0 ++ word 1 ++ word 2 ++ word 3 ++ word 4)) ≡ None
  pub large_bytes : read_type (plain large_binary) (bytes_by (replicate 8 0 ++ word 2 ++ word 0) (7 ∷ 8 ∷ [])) ≡ Some (bytes_slot (7 ∷ 8 ∷ []) ∷ [])
  pub large_texts : read_type (plain large_utf8) (bytes_by (replicate 8 0 ++ word 2 ++ word 0) (codes "ab")) ≡ Some (text_slot (codes "ab") ∷ [])
  pub short_bytes : read_type (plain binary) (bytes_by (word 0 ++ word 2) (7 ∷ 8 ∷ [])) ≡ Some (bytes_slot (7 ∷ 8 ∷ []) ∷ [])
  pub short_texts : read_type (plain utf8) (bytes_by (word 0 ++ word 2) (codes "ab")) ≡ Some (text_slot (codes "ab") ∷ [])
  pub no_text : read_type (plain utf8) (bytes_by (word 0 ++ word 1) (0xFF ∷ [])) ≡ None
  pub bytes_without_a_text : read_type (plain binary) (bytes_by (word 0 ++ word 1) (0xFF ∷ [])) ≡ Some (bytes_slot (0xFF ∷ []) ∷ [])
  pub highest_first : read (binary_kind offsets_32) None
      (entries Big 0 (node_is 1 0 ∷ []) (buffer_is 0 0 ∷ buffer_is 0 8 ∷ buffer_is 8 2 ∷ []) (0 ∷ 0 ∷ 0 ∷ 0 ∷ 0 ∷ 0 ∷ 0 ∷ 2 ∷ 7 ∷ 8 ∷ []))
      ≡ Some (bytes_slot (7 ∷ 8 ∷ []) ∷ [])
  pub not_from_0 : read_type (plain binary) (bytes_by (word 1 ++ word 2) (7 ∷ 8 ∷ [])) ≡ Some (bytes_slot (8 ∷ []) ∷ [])
  pub one_offset : read_type (plain binary) (entries Little 0 (node_is 0 0 ∷ []) (buffer_is 0 0 ∷ buffer_is 0 4 ∷ buffer_is 0 0 ∷ []) (word 1)) ≡ None
  pub part_of_an_offset : read_type (plain binary) (entries Little 0 (node_is 0 0 ∷ []) (buffer_is 0 0 ∷ buffer_is 0 3 ∷ buffer_is 0 0 ∷ []) (word 0)) ≡ None
  pub none_read : read (binary_kind offsets_32) (Some 0) (entries Little 0 (node_is 3 0 ∷ []) (buffer_is 0 0 ∷ buffer_is 0 0 ∷ buffer_is 0 0 ∷ []) []) ≡ Some []
  pub first_one_falls : read_type (plain binary) (entries Little 0 (node_is 2 0 ∷ []) (buffer_is 0 0 ∷ buffer_is 0 12 ∷ buffer_is 12 2 ∷ []) (word 2 ++ word 1 ++ word 2 ++ 7 ∷ 8 ∷ [])) ≡ None

-- ---- keys

-- One key by its bytes, under an id with so many values.
abbrev pub under_key : IntegerType → Endianness → List ℕ → ℕ → Bool
under_key k order body n = is_well (record {
  nodes = node_is 1 0 ∷ [];
  parts = map (part_at body 0) (buffer_is 0 0 ∷ buffer_is 0 (length body) ∷ []);
  order = order;
  extra = 0;
  dictionaries = (pos 0, record { type = plain utf8; slots = replicate n null_slot }) ∷ [];
}) (kind_of (dictionary k (plain utf8) false) (Some (pos 0)) no_ids) 0 0 None

abbrev pub at_key : IntegerType → List ℕ → ℕ → Bool
at_key k body n = under_key k Little body n

-- A key is below the number of values and not negative. It has the bytes and the sign of
-- its type, in the schema's order.
pub record KeyRows : Type 0 where
  pub last_value : at_key keys.Int8 (2 ∷ []) 3 ≡ true
  pub past_the_last : at_key keys.Int8 (3 ∷ []) 3 ≡ false
  pub negative_key : at_key keys.Int8 (0xFF ∷ []) 3 ≡ false
  pub negative_128 : at_key keys.Int8 (0x80 ∷ []) 129 ≡ false
  pub unsigned_128 : at_key keys.UInt8 (0x80 ∷ []) 129 ≡ true
  pub two_bytes : at_key keys.Int16 (2 ∷ 0 ∷ []) 3 ≡ true
  pub one_of_two : at_key keys.Int16 (2 ∷ []) 3 ≡ false
  pub second_of_two : at_key keys.Int16 (0 ∷ 1 ∷ []) 3 ≡ false
  pub two_unsigned_bytes : at_key keys.UInt16 (2 ∷ 0 ∷ []) 3 ≡ true
  pub one_of_two_unsigned : at_key keys.UInt16 (2 ∷ []) 3 ≡ false
  pub second_of_two_unsigned : at_key keys.UInt16 (0 ∷ 1 ∷ []) 3 ≡ false
  pub four_bytes : at_key keys.Int32 (2 ∷ 0 ∷ 0 ∷ 0 ∷ []) 3 ≡ true
  pub three_of_four : at_key keys.Int32 (2 ∷ 0 ∷ 0 ∷ []) 3 ≡ false
  pub fourth_of_four : at_key keys.Int32 (0 ∷ 0 ∷ 0 ∷ 1 ∷ []) 3 ≡ false
  pub four_unsigned_bytes : at_key keys.UInt32 (2 ∷ 0 ∷ 0 ∷ 0 ∷ []) 3 ≡ true
  pub three_of_four_unsigned : at_key keys.UInt32 (2 ∷ 0 ∷ 0 ∷ []) 3 ≡ false
  pub fourth_of_four_unsigned : at_key keys.UInt32 (0 ∷ 0 ∷ 0 ∷ 1 ∷ []) 3 ≡ false
  pub eight_bytes : at_key keys.Int64 (2 ∷ replicate 7 0) 3 ≡ true
  pub seven_of_eight : at_key keys.Int64 (2 ∷ replicate 6 0) 3 ≡ false
  pub eighth_of_eight : at_key keys.Int64 (replicate 7 0 ++ 1 ∷ []) 3 ≡ false
  pub eight_unsigned_bytes : at_key keys.UInt64 (2 ∷ replicate 7 0) 3 ≡ true
  pub seven_of_eight_unsigned : at_key keys.UInt64 (2 ∷ replicate 6 0) 3 ≡ false
  pub eighth_of_eight_unsigned : at_key keys.UInt64 (replicate 7 0 ++ 1 ∷ []) 3 ≡ false
  pub highest_first : under_key keys.Int16 Big (0 ∷ 2 ∷ []) 3 ≡ true
  pub lowest_first : under_key keys.Int16 Little (0 ∷ 2 ∷ []) 3 ≡ false

-- ---- children

abbrev pub null_kinds : ℕ → Kinds
null_kinds zero = no_kinds
null_kinds (suc n) = more_kinds null_kind (null_kinds n)

abbrev pub numbers_up_to : ℕ → List ℤ
numbers_up_to n = map (λ i. pos i) (range_with_len 0 n)

-- A sparse union without slots, with so many children of nulls.
abbrev pub union_over : Option (List ℤ) → ℕ → Bool
union_over type_ids n = is_well (entries Little 0 (replicate (1 + n) (node_is 0 0)) (buffer_is 0 0 ∷ []) []) (union_kind Sparse type_ids (null_kinds n)) 0 0 None

-- A sparse union of one slot with two children of nulls, whose type id is this byte.
abbrev pub typed_by : Option (List ℤ) → ℕ → Bool
typed_by type_ids byte = is_well (entries Little 0 (replicate 3 (node_is 1 1)) (buffer_is 0 1 ∷ []) (byte ∷ [])) (union_kind Sparse type_ids (null_kinds 2)) 0 0 None

-- A dense union of two slots with two integers; the second slot has this offset. The
-- children's buffer has so many bytes.
abbrev pub dense_of_two : Endianness → ℕ → List ℕ → ℕ → Limit → Bool
dense_of_two order listed offset values limit =
    is_well (entries order 0 (node_is 2 0 ∷ node_is 2 0 ∷ []) (buffer_is 0 2 ∷ buffer_is 2 listed ∷ buffer_is 0 0 ∷ buffer_is 0 values ∷ [])
    (0 ∷ 0 ∷ word 0 ++ offset)) (union_kind Dense None (more_kinds int32_kind no_kinds)) 0 0 limit

-- A dense union of one slot, with a list of two integers and three integers after it: the slot is
-- that of the second child at this offset.
abbrev pub list_or_integer : ℕ → Option (List Slot)
list_or_integer byte = read (union_kind Dense None (two (list_kind offsets_32 int32_kind) int32_kind)) None
    (entries Little 0 (node_is 1 0 ∷ node_is 1 0 ∷ node_is 2 0 ∷ node_is 3 0 ∷ [])
    (buffer_is 0 1 ∷ buffer_is 1 4 ∷ buffer_is 0 0 ∷ buffer_is 5 8 ∷ buffer_is 0 0 ∷ buffer_is 13 8 ∷ buffer_is 0 0 ∷ buffer_is 13 12 ∷ [])
    (1 ∷ byte ∷ 0 ∷ 0 ∷ 0 ∷ word 0 ++ word 2 ++ word 3 ++ word 4 ++ word 5))

-- A node with a negative length.
abbrev pub negative_node : FieldNode
negative_node = record { length = negsuc 0; null_count = pos 0 }

-- A union has 1 to 127 children. Its type ids, if it has any, are one for each child, distinct,
-- from 0 to 126; else they are 0, 1 and so on. There are type ids and offsets for each slot, and an
-- offset is a signed number in the schema's order. A dense union's children are whole, whatever the
-- limit; the second begins after all of the first. A length isn't negative.
pub record UnionEdgeRows : Type 0 where
  pub no_children : union_over None 0 ≡ false
  pub most_children : union_over None 127 ≡ true
  pub one_child_more : union_over None 128 ≡ false
  pub greatest_id : union_over (Some (pos 126 ∷ [])) 1 ≡ true
  pub past_the_greatest : union_over (Some (pos 127 ∷ [])) 1 ≡ false
  pub negative_id : union_over (Some (negsuc 0 ∷ [])) 1 ≡ false
  pub all_ids : union_over (Some (numbers_up_to 127)) 127 ≡ true
  pub few_ids : union_over (Some (pos 0 ∷ [])) 2 ≡ false
  pub many_ids : union_over (Some (pos 0 ∷ pos 1 ∷ [])) 1 ≡ false
  pub last_child : typed_by None 1 ≡ true
  pub no_such_child : typed_by None 2 ≡ false
  pub negative_type : typed_by None 0xFF ≡ false
  pub given_id : typed_by (Some (pos 3 ∷ pos 1 ∷ [])) 3 ≡ true
  pub not_given : typed_by (Some (pos 3 ∷ pos 1 ∷ [])) 0 ≡ false
  pub all_there : dense_of_two Little 8 (word 1) 8 None ≡ true
  pub highest_first : dense_of_two Big 8 (0 ∷ 0 ∷ 0 ∷ 1 ∷ []) 8 None ≡ true
  pub lowest_first : dense_of_two Big 8 (word 1) 8 None ≡ false
  pub few_offsets : dense_of_two Little 7 (word 1) 8 None ≡ false
  pub whole_child : dense_of_two Little 8 (word 1) 4 (Some 1) ≡ false
  pub first_of_two : dense_of_two Little 4 (word 1) 8 (Some 1) ≡ true
  pub few_types : is_well (entries Little 0 (node_is 2 0 ∷ node_is 2 2 ∷ []) (buffer_is 0 1 ∷ []) (0 ∷ 0 ∷ [])) (union_kind Sparse None (null_kinds 1)) 0 0 None ≡ false
  pub second_child : list_or_integer 2 ≡ Some (variant 1 (number 5) ∷ [])
  pub past_the_second : list_or_integer 3 ≡ None
  pub negative_length : is_well (entries Little 0 (negative_node ∷ node_is 0 0 ∷ []) (buffer_is 0 0 ∷ []) []) (union_kind Sparse None (null_kinds 1)) 0 0 None ≡ false
  pub negative_dense_length : is_well (entries Little 0 (negative_node ∷ node_is 0 0 ∷ []) (buffer_is 0 0 ∷ buffer_is 0 0 ∷ []) []) (union_kind Dense None (null_kinds 1)) 0 0 None ≡ false

-- A struct of a list of two integers and an integer.
abbrev pub list_and_integer : Option (List Slot)
list_and_integer = read (struct_kind (two (list_kind offsets_32 int32_kind) int32_kind)) None
    (entries Little 0 (node_is 1 0 ∷ node_is 1 0 ∷ node_is 2 0 ∷ node_is 1 0 ∷ [])
    (buffer_is 0 0 ∷ buffer_is 0 0 ∷ buffer_is 0 8 ∷ buffer_is 0 0 ∷ buffer_is 8 8 ∷ buffer_is 0 0 ∷ buffer_is 16 4 ∷ [])
    (word 0 ++ word 2 ++ word 3 ++ word 4 ++ word 5))

-- One map, with so many nodes of no slot, whose child is of this kind.
abbrev pub map_over : Kind → Bool
map_over t = is_well (entries Little 0 (replicate 5 (node_is 0 0)) (replicate 8 (buffer_is 0 0)) []) (map_kind t) 0 0 None

-- The child of a map is a struct of two fields, and no extension of one. A field of a struct begins
-- after all of the fields before it.
pub record PairRows : Type 0 where
  pub two_fields : map_over (struct_kind (two null_kind null_kind)) ≡ true
  pub one_field : map_over (struct_kind (null_kinds 1)) ≡ false
  pub three_fields : map_over (struct_kind (null_kinds 3)) ≡ false
  pub an_extension : map_over (extension_kind (struct_kind (two null_kind null_kind))) ≡ false
  pub no_struct : map_over (union_kind Sparse None (two null_kind null_kind)) ≡ false
  pub second_field : list_and_integer ≡ Some (record_slot (slots_of (numbers_of (3 ∷ 4 ∷ []) ∷ number 5 ∷ [])) ∷ [])
  pub an_extended_column : read_type (extension (codes "e") (plain int32) None) (values_in 1 (word 5)) ≡ Some (number 5 ∷ [])

-- The entries of so many columns without slots.
abbrev pub empty_entries : ℕ → ℕ → Entries
empty_entries ns bs = entries Little 0 (replicate ns (node_is 0 0)) (replicate bs (buffer_is 0 0)) []

abbrev pub null_field : FieldTree
null_field = field [] (plain null) true []

-- Types with children. A map isn't read as a list, whether its keys are in order or not, since its
-- child must be a struct of two fields. A fixed-size list has its number, a union its type ids; an
-- extension of a dictionary has the dictionary's id.
pub record NestedKindRows : Type 0 where
  pub a_list : read_type (single list list_field) (empty_entries 2 4) ≡ Some []
  pub no_map : read_type (single (map_of false) list_field) (empty_entries 2 4) ≡ None
  pub no_sorted_map : read_type (single (map_of true) list_field) (empty_entries 2 4) ≡ None
  pub a_map : read_type (single (map_of false) (field [] (group structure (more_fields null_field (more_fields null_field no_fields))) true [])) (empty_entries 4 3) ≡ Some []
  pub two_each : read_type (single (fixed_list 2) list_field) (entries Little 0 (node_is 1 0 ∷ node_is 2 0 ∷ []) (buffer_is 0 0 ∷ buffer_is 0 0 ∷ buffer_is 0 8 ∷ []) (word 3 ++ word 4))
      ≡ Some (numbers_of (3 ∷ 4 ∷ []) ∷ [])
  pub with_its_ids : read_type (group (choice (Some (pos 5 ∷ [])) Sparse) (more_fields null_field no_fields)) (entries Little 0 (replicate 2 (node_is 1 1)) (buffer_is 0 1 ∷ []) (5 ∷ []))
      ≡ Some (variant 5 null_slot ∷ [])
  pub id_of_the_stored : kind_of (extension (codes "e") (dictionary keys.Int8 (plain utf8) false) None) (Some (pos 7)) no_ids
      ≡ extension_kind (dictionary_kind Int8 (Some (pos 7)) (plain utf8))
