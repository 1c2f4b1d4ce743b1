-- Schemas as bytes, and what their tables say of types, keys and levels. A definition that is
-- changed in one word fails one of these cases. Each limit is tried at its edge: the last value
-- that passes, and the first that doesn't.
-- (Arrow columnar format, "Schema message" and "Data Types"; Schema.fbs.)
use Rattle.std.specs.Prelude.{◌≡◌, ℕ, zero, suc, pos, negsuc, ◌+◌, ◌-◌, ◌^◌, true, false, List, [], ◌∷◌, ◌++◌, codes, nat_eq, flat_map, if◌then◌else◌, Option, Some, None, option_map, slice_set, Bool}
use Rattle.std.specs.Int.{w64, to_le_bytes}
use Rattle.lower.specs.Normal.{name_key, data_key}
use Rattle.lower.specs.TypeTrees.{Plain, null, boolean, int8, int16, int32, int64, uint8, uint16, uint32, uint64, float16, float32, float64, timestamp, date32, date64, time32, time64, duration, interval, binary, fixed_binary, large_binary, utf8, large_utf8, decimal, decimal256, list, large_list, fixed_list, entries, structure, choice, TypeTree, plain, single, group, dictionary, extension, FieldTree, field, no_fields, more_fields, Pairs, FieldTrees}
use Rattle.lower.specs.declared.datatypes.IntegerType.TheVariants as keys
use Rattle.lower.specs.declared.datatypes.TimeUnit.TheVariants.{Second, Millisecond, Microsecond, Nanosecond}
use Rattle.lower.specs.declared.datatypes.IntervalUnit.TheVariants.{YearMonth, DayTime, MonthDayNano}
use Rattle.lower.specs.declared.datatypes.UnionMode.TheVariants.{Sparse, Dense}
use Rattle.lower_types.specs.declared.Endianness.{Endianness}
use Rattle.lower_types.specs.declared.Endianness.TheVariants.{Little, Big}
use Rattle.ipc_base.specs.IdTrees.{ids, IdTree, no_ids, more_ids}
use Rattle.ipc_model.specs.Batches.{Schema, type_at}
use Rattle.ipc_examples.specs.SchemaBytes.{short, four, three_slots, counted, field_bytes, all_fields, pair_bytes, all_pairs, schema_bytes, table_bytes}
use Rattle.ipc_model.specs.Schemas.{schema_of, schema_with, fields_count}
use Rattle.ipc_examples.specs.StreamRows.{demo_schema, extended_field}
use Rattle.ipc_model.specs.TypeKinds.{first_ids}
use Rattle.ipc_model.specs.Visits.{visits}

-- ---- definitions for the cases

-- A schema of one field.
abbrev pub one_field_schema : List ℕ → Option Schema
one_field_schema f = schema_of (schema_bytes 0 (all_fields (f ∷ [])) [])

abbrev pub first_of : Schema → TypeTree × IdTree
first_of schema = (type_at schema.fields 0, first_ids schema.ids)

-- The type of a field whose type has this tag and table, and whose children are these.
abbrev pub type_with : ℕ → List ℕ → List (List ℕ) → Option TypeTree
type_with tag type_ children = option_map (λ schema. (first_of schema).0) (one_field_schema (field_bytes tag type_ [] (all_fields children) []))

abbrev pub plain_read : ℕ → List ℕ → Option TypeTree
plain_read tag type_ = type_with tag type_ []

abbrev pub is_plain : Plain → Option TypeTree
is_plain p = Some (plain p)

-- A type's table without fields; with one number of 16 or 32 bits; with one of 16 and one of 32.
abbrev pub bare : List ℕ
bare = three_slots 0 0 0 []

abbrev pub unit_is : ℕ → List ℕ
unit_is unit = three_slots 4 0 0 (short unit)

abbrev pub size_is : ℕ → List ℕ
size_is n = three_slots 4 0 0 (four n)

abbrev pub unit_and_width : ℕ → ℕ → List ℕ
unit_and_width unit width = three_slots 8 4 0 (four width ++ short unit)

abbrev pub integer_is : ℕ → ℕ → List ℕ
integer_is width signed = three_slots 4 8 0 (four width ++ signed ∷ [])

abbrev pub decimal_is : ℕ → ℕ → ℕ → List ℕ
decimal_is precision scale width = three_slots 4 8 12 (four precision ++ four scale ++ four width)

-- A negative number, as 32 bits.
abbrev pub below_zero : ℕ → ℕ
below_zero n = 2 ^ 32 - n

-- ---- types without a child

-- Widths of 8, 16, 32 and 64 bits, signed and not; no other, and none if the width is absent.
pub record IntegerRows : Type 0 where
  pub signed_8 : plain_read 2 (integer_is 8 1) ≡ is_plain int8
  pub signed_16 : plain_read 2 (integer_is 16 1) ≡ is_plain int16
  pub signed_32 : plain_read 2 (integer_is 32 1) ≡ is_plain int32
  pub signed_64 : plain_read 2 (integer_is 64 1) ≡ is_plain int64
  pub unsigned_8 : plain_read 2 (integer_is 8 0) ≡ is_plain uint8
  pub unsigned_16 : plain_read 2 (integer_is 16 0) ≡ is_plain uint16
  pub unsigned_32 : plain_read 2 (integer_is 32 0) ≡ is_plain uint32
  pub unsigned_64 : plain_read 2 (integer_is 64 0) ≡ is_plain uint64
  pub no_sign : plain_read 2 (size_is 8) ≡ is_plain uint8
  pub no_width : plain_read 2 bare ≡ None
  pub seven_bits : plain_read 2 (integer_is 7 1) ≡ None
  pub wide : plain_read 2 (integer_is 128 1) ≡ None

-- Types whose table is empty; half, single and double floats. Dates have 64 bits if the unit is
-- absent. A tag past the last has no type.
pub record PlainRows : Type 0 where
  pub nulls : plain_read 1 bare ≡ is_plain null
  pub bytes : plain_read 4 bare ≡ is_plain binary
  pub texts : plain_read 5 bare ≡ is_plain utf8
  pub bits : plain_read 6 bare ≡ is_plain boolean
  pub large_bytes : plain_read 19 bare ≡ is_plain large_binary
  pub large_texts : plain_read 20 bare ≡ is_plain large_utf8
  pub half : plain_read 3 (unit_is 0) ≡ is_plain float16
  pub single_float : plain_read 3 (unit_is 1) ≡ is_plain float32
  pub double : plain_read 3 (unit_is 2) ≡ is_plain float64
  pub no_float : plain_read 3 (unit_is 3) ≡ None
  pub days : plain_read 8 (unit_is 0) ≡ is_plain date32
  pub milliseconds : plain_read 8 (unit_is 1) ≡ is_plain date64
  pub no_date_unit : plain_read 8 bare ≡ is_plain date64
  pub no_such_tag : plain_read 22 bare ≡ None
  pub no_tag : plain_read 0 bare ≡ None

-- Times of the day: seconds and milliseconds have 32 bits, microseconds and nanoseconds 64, and no
-- other pair is valid. If both are absent, they are milliseconds of 32 bits. Timestamps without a
-- unit count in seconds, durations in milliseconds.
pub record TimeRows : Type 0 where
  pub seconds : plain_read 9 (unit_and_width 0 32) ≡ is_plain (time32 Second)
  pub milliseconds : plain_read 9 (unit_and_width 1 32) ≡ is_plain (time32 Millisecond)
  pub microseconds : plain_read 9 (unit_and_width 2 64) ≡ is_plain (time64 Microsecond)
  pub nanoseconds : plain_read 9 (unit_and_width 3 64) ≡ is_plain (time64 Nanosecond)
  pub no_slots : plain_read 9 bare ≡ is_plain (time32 Millisecond)
  pub wide_seconds : plain_read 9 (unit_and_width 0 64) ≡ None
  pub wide_milliseconds : plain_read 9 (unit_and_width 1 64) ≡ None
  pub short_microseconds : plain_read 9 (unit_and_width 2 32) ≡ None
  pub short_nanoseconds : plain_read 9 (unit_and_width 3 32) ≡ None
  pub points : plain_read 10 bare ≡ is_plain (timestamp Second None)
  pub points_in_a_zone : plain_read 10 (three_slots 8 4 0 (four 6 ++ short 3 ++ counted (codes "UTC"))) ≡ is_plain (timestamp Nanosecond (Some (codes "UTC")))
  pub durations : plain_read 18 bare ≡ is_plain (duration Millisecond)
  pub microsecond_durations : plain_read 18 (unit_is 2) ≡ is_plain (duration Microsecond)
  pub no_such_unit : plain_read 18 (unit_is 4) ≡ None
  pub months : plain_read 11 (unit_is 0) ≡ is_plain (interval YearMonth)
  pub days_and_milliseconds : plain_read 11 (unit_is 1) ≡ is_plain (interval DayTime)
  pub three_parts : plain_read 11 (unit_is 2) ≡ is_plain (interval MonthDayNano)

-- Sizes, precisions and scales are signed numbers of 32 bits, from 0 on. A decimal has 128 bits
-- if the width is absent, or 256.
pub record SizeRows : Type 0 where
  pub sixteen_bytes : plain_read 15 (size_is 16) ≡ is_plain (fixed_binary 16)
  pub no_bytes : plain_read 15 bare ≡ is_plain (fixed_binary 0)
  pub greatest_size : plain_read 15 (size_is (2 ^ 31 - 1)) ≡ is_plain (fixed_binary (2 ^ 31 - 1))
  pub past_the_greatest : plain_read 15 (size_is (2 ^ 31)) ≡ None
  pub negative_size : plain_read 15 (size_is (below_zero 1)) ≡ None
  pub decimals : plain_read 7 (decimal_is 10 2 128) ≡ is_plain (decimal 10 2)
  pub wide_decimals : plain_read 7 (decimal_is 10 2 256) ≡ is_plain (decimal256 10 2)
  pub no_decimal_width : plain_read 7 (three_slots 4 8 0 (four 10 ++ four 2)) ≡ is_plain (decimal 10 2)
  pub short_decimals : plain_read 7 (decimal_is 10 2 64) ≡ None
  pub negative_precision : plain_read 7 (decimal_is (below_zero 1) 2 128) ≡ None
  pub negative_scale : plain_read 7 (decimal_is 10 (below_zero 2) 128) ≡ None

-- ---- types with children

abbrev pub integer_field : List ℕ
integer_field = field_bytes 2 (integer_is 32 1) [] [] []

abbrev pub text_field : List ℕ
text_field = field_bytes 5 bare [] [] []

-- A field without a type has no meaning.
abbrev pub no_type_field : List ℕ
no_type_field = field_bytes 0 bare [] [] []

abbrev pub integer_is_read : FieldTree
integer_is_read = field (codes "f") (plain int32) true []

abbrev pub text_is_read : FieldTree
text_is_read = field (codes "f") (plain utf8) true []

-- Of a list's children the first is used, and no other need be valid. A struct and a union use all,
-- and a type without children none. Types with children have no meaning without one.
pub record ChildRows : Type 0 where
  pub lists : type_with 12 bare (integer_field ∷ []) ≡ Some (single list integer_is_read)
  pub large_lists : type_with 21 bare (integer_field ∷ []) ≡ Some (single large_list integer_is_read)
  pub fixed_lists : type_with 16 (size_is 3) (integer_field ∷ []) ≡ Some (single (fixed_list 3) integer_is_read)
  pub negative_lists : type_with 16 (size_is (below_zero 3)) (integer_field ∷ []) ≡ None
  pub maps : type_with 17 (three_slots 4 0 0 (1 ∷ [])) (integer_field ∷ []) ≡ Some (single (entries true) integer_is_read)
  pub unsorted_maps : type_with 17 bare (integer_field ∷ []) ≡ Some (single (entries false) integer_is_read)
  pub first_alone : type_with 12 bare (integer_field ∷ no_type_field ∷ []) ≡ Some (single list integer_is_read)
  pub first_ill_made : type_with 12 bare (no_type_field ∷ integer_field ∷ []) ≡ None
  pub no_child : type_with 12 bare [] ≡ None
  pub records : type_with 13 bare (integer_field ∷ text_field ∷ []) ≡ Some (group structure (more_fields integer_is_read (more_fields text_is_read no_fields)))
  pub second_ill_made : type_with 13 bare (integer_field ∷ no_type_field ∷ []) ≡ None
  pub no_fields_in_it : type_with 13 bare [] ≡ None
  pub sparse : type_with 14 bare (integer_field ∷ []) ≡ Some (group (choice None Sparse) (more_fields integer_is_read no_fields))
  pub dense_with_ids : type_with 14 (three_slots 8 4 0 (four 6 ++ short 1 ++ four 1 ++ four (below_zero 3))) (integer_field ∷ [])
      ≡ Some (group (choice (Some (negsuc 2 ∷ [])) Dense) (more_fields integer_is_read no_fields))
  pub child_of_an_integer : type_with 2 (integer_is 32 1) (no_type_field ∷ []) ≡ is_plain int32

-- ---- dictionaries and extensions

-- An encoding: the id, the type of the keys, and whether they are in order.
abbrev pub encoding_is : ℕ → ℕ → List ℕ → List ℕ
encoding_is id ordered keys_type = three_slots 8 4 16 (four 23 ++ to_le_bytes w64 id ++ ordered ∷ [] ++ keys_type)

-- Texts by keys of a type.
abbrev pub keyed_by : List ℕ → Option (TypeTree × IdTree)
keyed_by keys_type = option_map first_of (one_field_schema (field_bytes 5 bare (encoding_is 7 0 keys_type) [] []))

abbrev pub texts_under_7 : TypeTree → TypeTree × IdTree
texts_under_7 t = (t, ids (Some (pos 7)) no_ids)

abbrev pub extension_pairs : List ℕ
extension_pairs = all_pairs (pair_bytes name_key (codes "e") ∷ pair_bytes data_key (codes "m") ∷ [])

abbrev pub with_pairs : List ℕ → Option (TypeTree × IdTree)
with_pairs pairs = option_map first_of (one_field_schema (field_bytes 5 bare [] [] pairs))

-- Keys have the integer types; a missing type of keys isn't read as 32 signed bits. An id is
-- signed. Extension metadata without a name make no extension. An extension of a
-- dictionary's field is that of its values.
pub record EncodingRows : Type 0 where
  pub keys_signed_8 : keyed_by (integer_is 8 1) ≡ Some (texts_under_7 (dictionary keys.Int8 (plain utf8) false))
  pub keys_unsigned_64 : keyed_by (integer_is 64 0) ≡ Some (texts_under_7 (dictionary keys.UInt64 (plain utf8) false))
  pub keys_of_7_bits : keyed_by (integer_is 7 1) ≡ None
  pub no_keys_type : option_map first_of (one_field_schema (field_bytes 5 bare (three_slots 4 0 0 (to_le_bytes w64 7)) [] [])) ≡ None
  pub in_order_under_minus_one : option_map first_of (one_field_schema (field_bytes 5 bare (encoding_is (2 ^ 64 - 1) 1 (integer_is 16 1)) [] []))
      ≡ Some (dictionary keys.Int16 (plain utf8) true, ids (Some (negsuc 0)) no_ids)
  pub extended : with_pairs extension_pairs ≡ Some (extension (codes "e") (plain utf8) (Some (codes "m")), ids None no_ids)
  pub without_a_text : with_pairs (all_pairs (pair_bytes name_key (codes "e") ∷ [])) ≡ Some (extension (codes "e") (plain utf8) None, ids None no_ids)
  pub without_a_name : with_pairs (all_pairs (pair_bytes data_key (codes "m") ∷ [])) ≡ Some (plain utf8, ids None no_ids)
  pub extended_values : option_map first_of (one_field_schema (field_bytes 5 bare (encoding_is 7 0 (integer_is 8 1)) [] extension_pairs))
      ≡ Some (texts_under_7 (dictionary keys.Int8 (extension (codes "e") (plain utf8) (Some (codes "m"))) false))

-- ---- the other parts of a field

-- The fields of a schema that has one.
abbrev pub fields_in : List ℕ → Option FieldTrees
fields_in f = option_map (λ (schema : Schema). schema.fields) (one_field_schema f)

abbrev pub is_field : TypeTree → Bool → Pairs → Option FieldTrees
is_field t nullable metadata = Some (more_fields (field (codes "f") t nullable metadata) no_fields)

-- With another value for one byte of the vtable or of the table of a field of integers.
abbrev pub integer_with : ℕ → ℕ → Option FieldTrees
integer_with place byte = fields_in (slice_set integer_field place byte)

-- "v" without a key.
abbrev pub value_alone : List ℕ
value_alone = table_bytes (0 ∷ 4 ∷ []) (four 4 ++ counted (codes "v"))

abbrev pub one_pair : List ℕ
one_pair = all_pairs (pair_bytes (codes "k") (codes "1") ∷ [])

-- Texts by keys of 8 bits, under the id 7.
abbrev pub keyed_field : List ℕ
keyed_field = field_bytes 5 bare (encoding_is 7 0 (integer_is 8 1)) [] []

abbrev pub keyed_texts : FieldTree
keyed_texts = field (codes "f") (dictionary keys.Int8 (plain utf8) false) true []

abbrev pub under_7 : IdTree
under_7 = ids (Some (pos 7)) no_ids

-- A field is nullable if its byte isn't 0, and isn't if the byte is absent. It has its metadata,
-- and so has a child; a pair without a key is skipped. Each field has its own id.
pub record FieldRows : Type 0 where
  pub nullable : integer_with 42 2 ≡ is_field (plain int32) true []
  pub not_nullable : integer_with 42 0 ≡ is_field (plain int32) false []
  pub nothing_said : integer_with 6 0 ≡ is_field (plain int32) false []
  pub metadata : fields_in (field_bytes 5 bare [] [] one_pair) ≡ is_field (plain utf8) true ((codes "k", codes "1") ∷ [])
  pub metadata_of_a_child : type_with 12 bare (field_bytes 5 bare [] [] one_pair ∷ []) ≡ Some (single list (field (codes "f") (plain utf8) true ((codes "k", codes "1") ∷ [])))
  pub no_key : option_map (λ (schema : Schema). schema.metadata) (schema_of (schema_bytes 0 (all_fields []) (all_pairs (value_alone ∷ pair_bytes (codes "k") (codes "1") ∷ []))))
      ≡ Some ((codes "k", codes "1") ∷ [])
  pub ids_in_a_list : option_map first_of (one_field_schema (field_bytes 12 bare [] (all_fields (keyed_field ∷ [])) []))
      ≡ Some (single list keyed_texts, ids None (more_ids under_7 no_ids))
  pub ids_in_a_struct : option_map first_of (one_field_schema (field_bytes 13 bare [] (all_fields (integer_field ∷ keyed_field ∷ [])) []))
      ≡ Some (group structure (more_fields integer_is_read (more_fields keyed_texts no_fields)), ids None (more_ids (ids None no_ids) (more_ids under_7 no_ids)))

-- ---- the whole schema

abbrev pub order_in : Option Schema → Option Endianness
order_in o = option_map (λ schema. schema.order) o

-- So many lists, one in the other, of integers.
abbrev pub nested_lists : ℕ → List ℕ
nested_lists zero = integer_field
nested_lists (suc n) = field_bytes 12 bare [] (all_fields (nested_lists n ∷ [])) []

-- The same, each level in 36 bytes, with nulls below: so many fields from offset p on. All have one
-- vtable, at 4, and all types one, at 22. After a field's table come that of its type, its name,
-- which is empty, and the vector of its one child.
abbrev pub short_levels : ℕ → ℕ → List ℕ
short_levels p zero = []
short_levels p (suc n) =
    four (p - 4) ++ four 20 ++ four 12 ++ four 16 ++ (if nat_eq n 0 then 1 else 12) ∷ 0 ∷ 0 ∷ 0 ∷ [] ++ four (p - 2) ++ four 0 ++ four 1 ++ four 4 ++ short_levels (p + 36) n

-- A schema message of one field that has so many levels.
abbrev pub levels_message : ℕ → List ℕ
levels_message n =
    four 44 ++ short 18 ++ short 36 ++ flat_map short (4 ∷ 0 ∷ 16 ∷ 8 ∷ 0 ∷ 12 ∷ 0 ∷ []) ++ short 4 ++ short 4
    ++ short 10 ++ short 12 ++ flat_map short (8 ∷ 10 ∷ 4 ∷ []) ++ short 8 ++ short 8 ++ flat_map short (0 ∷ 4 ∷ [])
    ++ four 18 ++ four 8 ++ 4 ∷ 0 ∷ 1 ∷ 0 ∷ [] ++ four 20 ++ four 4 ++ four 1 ++ four 4 ++ short_levels 72 n

-- Whether a schema is read, and of how many fields at all levels.
abbrev pub fields_read : Option Schema → Option ℕ
fields_read o = option_map visits o

-- Both byte orders, and no third. Fields go to level 64; a top field is at level 1. A table of
-- fields counts each time that it is visited, and there are no more visits than bytes.
pub record LevelRows : Type 0 where
  pub lowest_first : order_in (schema_of (schema_bytes 0 (all_fields []) [])) ≡ Some Little
  pub highest_first : order_in (schema_of (schema_bytes 1 (all_fields []) [])) ≡ Some Big
  pub no_such_order : order_in (schema_of (schema_bytes 2 (all_fields []) [])) ≡ None
  pub two_fields : visits demo_schema ≡ 2
  pub three_levels : fields_read (one_field_schema (nested_lists 2)) ≡ Some 3
  pub values_count : fields_count (more_fields extended_field.0 no_fields) ≡ 1
  pub in_values : fields_count (more_fields (field [] (dictionary keys.Int8 (single list integer_is_read) false) true []) no_fields) ≡ 2
  pub in_an_extension : fields_count (more_fields (field [] (extension [] (group structure (more_fields integer_is_read (more_fields text_is_read no_fields))) None) true []) no_fields) ≡ 3
  pub as_many_as_bytes : option_map visits (schema_with 2 Little [] (demo_schema.fields, demo_schema.ids)) ≡ Some 2
  pub one_more : schema_with 1 Little [] (demo_schema.fields, demo_schema.ids) ≡ None
  pub two_short_levels : fields_read (schema_of (levels_message 2)) ≡ Some 2

pub record LastLevelRows : Type 0 where
  pub level_64 : fields_read (schema_of (levels_message 64)) ≡ Some 64

pub record PastLevelRows : Type 0 where
  pub level_65 : fields_read (schema_of (levels_message 65)) ≡ None
