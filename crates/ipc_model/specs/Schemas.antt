-- What a schema table means, and a schema message. Only what is used must be valid: of a list's
-- children the first. No field is below level 64.
-- (Arrow columnar format, "Schema message" and "Extension Types"; Schema.fbs and Message.fbs.)
use Rattle.std.specs.Prelude.{ℕ, zero, suc, ℤ, pos, negsuc, ◌+◌, nat_eq, nat_le, if◌then◌else◌, Bool, true, List, [], ◌∷◌, length, Option, Some, None, Result, Ok, Err}
use Rattle.std.specs.Option.{option_map}
use Rattle.std.specs.Ordering.{int_eq}
use Rattle.std.specs.Cmp.Lexicographic.{slice_cmp}
use Rattle.std.specs.Ordering.{nat_cmp, is_eq}
use Rattle.lower.specs.Normal.{name_key, data_key, with_pair}
use Rattle.lower.specs.TypeTrees.{Pairs, Plain, null, boolean, int8, int16, int32, int64, uint8, uint16, uint32, uint64, float16, float32, float64, timestamp, date32, date64, time32, time64, duration, interval, binary, fixed_binary, large_binary, utf8, large_utf8, decimal, decimal256, Single, list, large_list, fixed_list, entries, Group, structure, choice, TypeTree, plain, single, group, dictionary, extension, FieldTree, field, FieldTrees, no_fields, more_fields}
use Rattle.lower.specs.declared.datatypes.IntegerType.{IntegerType}
use Rattle.lower.specs.declared.datatypes.IntegerType.TheVariants.{Int8, Int16, Int32, Int64, UInt8, UInt16, UInt32, UInt64}
use Rattle.lower.specs.declared.datatypes.TimeUnit.{TimeUnit}
use Rattle.lower.specs.declared.datatypes.TimeUnit.TheVariants as units
use Rattle.lower.specs.declared.datatypes.IntervalUnit.{IntervalUnit}
use Rattle.lower.specs.declared.datatypes.IntervalUnit.TheVariants as intervals
use Rattle.lower.specs.declared.datatypes.UnionMode.{UnionMode}
use Rattle.lower.specs.declared.datatypes.UnionMode.TheVariants as modes
use Rattle.lower_types.specs.declared.Endianness.{Endianness}
use Rattle.lower_types.specs.declared.Endianness.TheVariants as orders
use Rattle.ipc_devices.specs.declared.fault.TableFault.{TableFault}
use Rattle.ipc_base.specs.IdTrees.{IdTree, ids, IdTrees, no_ids, more_ids}
use Rattle.ipc_table_views.specs.Spot.{Spot, Vector}
use Rattle.ipc_table_views.specs.Tables.{root_at, table_in}
use Rattle.ipc_table_views.specs.MessageSlots.{message_header, message_version}
use Rattle.ipc_table_views.specs.SchemaSlots.{schema_endianness, schema_fields, schema_custom_metadata, field_name, field_nullable, field_type, field_dictionary, field_children, field_custom_metadata, key_value_key, key_value_value, dictionary_encoding_id, dictionary_encoding_index_type, dictionary_encoding_is_ordered}
use Rattle.ipc_table_views.specs.TypeSlots.{int_bit_width, int_is_signed, floating_point_precision, decimal_precision, decimal_scale, decimal_bit_width, date_unit, time_unit, time_bit_width, timestamp_unit, timestamp_timezone, interval_unit, union_mode, union_type_ids, fixed_size_binary_byte_width, fixed_size_list_list_size, map_keys_sorted, duration_unit}
use Rattle.ipc_table_views.specs.declared.schema.Endianness.{Endianness as Order}
use Rattle.ipc_table_views.specs.declared.schema.Endianness.TheVariants.{Little, Big}
use Rattle.ipc_table_views.specs.declared.types.Precision.{Precision}
use Rattle.ipc_table_views.specs.declared.types.Precision.TheVariants.{Half, Single as single_precision, Double}
use Rattle.ipc_table_views.specs.declared.types.DateUnit.{DateUnit}
use Rattle.ipc_table_views.specs.declared.types.DateUnit.TheVariants.{Day, Millisecond as day_millisecond}
use Rattle.ipc_table_views.specs.declared.types.TimeUnit.{TimeUnit as Unit'}
use Rattle.ipc_table_views.specs.declared.types.TimeUnit.TheVariants.{Second, Millisecond, Microsecond, Nanosecond}
use Rattle.ipc_table_views.specs.declared.types.IntervalUnit.{IntervalUnit as Interval}
use Rattle.ipc_table_views.specs.declared.types.IntervalUnit.TheVariants.{YearMonth, DayTime, MonthDayNano}
use Rattle.ipc_table_views.specs.declared.types.UnionMode.{UnionMode as Mode}
use Rattle.ipc_table_views.specs.declared.types.UnionMode.TheVariants.{Sparse, Dense}
use Rattle.ipc_model.specs.Batches.{Schema}
use Rattle.ipc_model.specs.Streams.{Head}

-- ---- steps that may fail

-- A value that was read without an error.
abbrev pub made : {A : Type 0} → Result A TableFault → Option A
made (Ok x) = Some x
made (Err e) = None

-- A value that was read without an error and is present.
abbrev pub present : {A : Type 0} → Result (Option A) TableFault → Option A
present (Ok (Some x)) = Some x
present (Ok None) = None
present (Err e) = None

-- What a function gives for a value that is there.
abbrev pub given : {A B : Type 0} → Option A → (A → Option B) → Option B
given None f = None
given (Some x) f = f x

-- A size that isn't negative.
abbrev pub size_of : ℤ → Option ℕ
size_of (pos n) = Some n
size_of (negsuc n) = None

-- ---- enumerations

-- The byte order of a schema's buffers.

abbrev pub order_of : Order → Endianness
order_of Little = orders.Little
order_of Big = orders.Big

-- The unit of times.
abbrev pub unit_of : Unit' → TimeUnit
unit_of Second = units.Second
unit_of Millisecond = units.Millisecond
unit_of Microsecond = units.Microsecond
unit_of Nanosecond = units.Nanosecond

-- The unit of intervals.
abbrev pub interval_of : Interval → IntervalUnit
interval_of YearMonth = intervals.YearMonth
interval_of DayTime = intervals.DayTime
interval_of MonthDayNano = intervals.MonthDayNano

-- The mode of a union: sparse or dense.
abbrev pub mode_of : Mode → UnionMode
mode_of Sparse = modes.Sparse
mode_of Dense = modes.Dense

-- ---- types without a child

-- The integer type of a bit width and a sign.

abbrev pub integer_of : ℤ → Bool → Option IntegerType
integer_of width signed =
    if int_eq width (pos 8) then Some (if signed then Int8 else UInt8)
    else if int_eq width (pos 16) then Some (if signed then Int16 else UInt16)
    else if int_eq width (pos 32) then Some (if signed then Int32 else UInt32)
    else if int_eq width (pos 64) then Some (if signed then Int64 else UInt64)
    else None

-- The integer type that an `Int` table means.
unfoldable pub integer_at : Spot → Option IntegerType
integer_at t = given (made (int_bit_width t))
    (λ width. given (made (int_is_signed t)) (λ signed. integer_of width signed))

-- The type without children that an integer type is.
abbrev pub integers : IntegerType → Plain
integers Int8 = int8
integers Int16 = int16
integers Int32 = int32
integers Int64 = int64
integers UInt8 = uint8
integers UInt16 = uint16
integers UInt32 = uint32
integers UInt64 = uint64

-- The type of floats of a precision.
abbrev pub float_of : Precision → Plain
float_of Half = float16
float_of single_precision = float32
float_of Double = float64

-- The type of dates of a unit: days have 32 bits, milliseconds 64.
abbrev pub date_of : DateUnit → Plain
date_of Day = date32
date_of day_millisecond = date64

-- The type of times of day: 32 bits count seconds or milliseconds, 64
-- bits microseconds or nanoseconds.
abbrev pub time_of : Unit' → ℤ → Option Plain
time_of Second width = if int_eq width (pos 32) then Some (time32 units.Second) else None
time_of Millisecond width = if int_eq width (pos 32) then Some (time32 units.Millisecond) else None
time_of Microsecond width = if int_eq width (pos 64) then Some (time64 units.Microsecond) else None
time_of Nanosecond width = if int_eq width (pos 64) then Some (time64 units.Nanosecond) else None

-- The type of decimals of 128 or 256 bits.
abbrev pub decimal_of : ℕ → ℕ → ℤ → Option Plain
decimal_of precision scale width =
    if int_eq width (pos 128) then Some (decimal precision scale)
    else if int_eq width (pos 256) then Some (decimal256 precision scale)
    else None

-- The type that a `Decimal` table means.
unfoldable pub decimal_at : Spot → Option Plain
decimal_at t =
    given (made (decimal_precision t)) (λ p. given (size_of p) (λ precision.
    given (made (decimal_scale t)) (λ s. given (size_of s) (λ scale.
    given (made (decimal_bit_width t)) (λ width. decimal_of precision scale width)))))

-- The type without children that a tag and a table mean.
unfoldable pub plain_at : ℕ → Spot → Option Plain
plain_at tag t =
    if nat_eq tag 1 then Some null
    else if nat_eq tag 2 then option_map integers (integer_at t)
    else if nat_eq tag 3 then option_map float_of (made (floating_point_precision t))
    else if nat_eq tag 4 then Some binary
    else if nat_eq tag 5 then Some utf8
    else if nat_eq tag 6 then Some boolean
    else if nat_eq tag 7 then decimal_at t
    else if nat_eq tag 8 then option_map date_of (made (date_unit t))
    else if nat_eq tag 9 then given (made (time_unit t))
    (λ unit. given (made (time_bit_width t)) (λ width. time_of unit width))
    else if nat_eq tag 10 then given (made (timestamp_unit t))
    (λ unit. option_map (λ zone. timestamp (unit_of unit) zone) (made (timestamp_timezone t)))
    else if nat_eq tag 11 then option_map (λ unit. interval (interval_of unit)) (made (interval_unit t))
    else if nat_eq tag 15 then given (made (fixed_size_binary_byte_width t))
    (λ n. option_map fixed_binary (size_of n))
    else if nat_eq tag 18 then option_map (λ unit. duration (unit_of unit)) (made (duration_unit t))
    else if nat_eq tag 19 then Some large_binary
    else if nat_eq tag 20 then Some large_utf8
    else None

-- ---- types with children

-- The type of one child that a tag and a table mean: a list of any form, or a map.
unfoldable pub single_at : ℕ → Spot → Option Single
single_at tag t =
    if nat_eq tag 12 then Some list
    else if nat_eq tag 16 then given (made (fixed_size_list_list_size t)) (λ n. option_map fixed_list (size_of n))
    else if nat_eq tag 17 then option_map entries (made (map_keys_sorted t))
    else if nat_eq tag 21 then Some large_list
    else None

-- The type of several children that a tag and a table mean: a struct, or a union.
unfoldable pub group_at : ℕ → Spot → Option Group
group_at tag t =
    if nat_eq tag 13 then Some structure
    else if nat_eq tag 14 then given (made (union_mode t))
    (λ mode. option_map (λ type_ids. choice type_ids (mode_of mode)) (made (union_type_ids t)))
    else None

-- A field with its dictionary ids.
abbrev pub Read : Type 0
Read = FieldTree × IdTree

-- Some fields with their dictionary ids.
abbrev pub ReadAll : Type 0
ReadAll = FieldTrees × IdTrees

-- The n fields of a vector from index k on; `read` says what the table of a field means.
abbrev pub fields_from : (Spot → Option Read) → Vector → ℕ → ℕ → Option ReadAll
fields_from read v k zero = Some (no_fields, no_ids)
fields_from read v k (suc n) =
    given (made (table_in v k))
    (λ t. given (read t) (λ x. option_map (λ (all : ReadAll). (more_fields x.0 all.0, more_ids x.1 all.1))
    (fields_from read v (k + 1) n)))

-- The first field of a vector; the others aren't read.
abbrev pub first_field : (Spot → Option Read) → Vector → Option Read
first_field read v = if nat_eq v.count 0 then None else given (made (table_in v 0)) read

-- All fields of a vector, at least one.
abbrev pub some_fields : (Spot → Option Read) → Vector → Option ReadAll
some_fields read v = if nat_eq v.count 0 then None else fields_from read v 0 v.count

-- A type with the dictionary ids of its children.
abbrev pub ReadType : Type 0
ReadType = TypeTree × IdTrees

-- A type of one child, with the child's ids.
abbrev pub single_with : Single → Read → ReadType
single_with s x = (single s x.0, more_ids x.1 no_ids)

-- A type of several children, with their ids.
abbrev pub group_with : Group → ReadAll → ReadType
group_with g x = (group g x.0, x.1)

-- The tag is that of a type with one child: a list of any form, or a map.
abbrev pub is_single_tag : ℕ → Bool
is_single_tag tag = if nat_eq tag 12 then true else if nat_eq tag 16 then true else if nat_eq tag 17 then true else nat_eq tag 21

-- The tag is that of a type with several children: a struct, or a union.
abbrev pub is_group_tag : ℕ → Bool
is_group_tag tag = if nat_eq tag 13 then true else nat_eq tag 14

-- The type of a field, by the tag and the table of its type; the
-- children are in the field's own table.
abbrev pub type_of_field : (Spot → Option Read) → Spot → ℕ × Spot → Option ReadType
type_of_field read t type_ =
    if is_single_tag type_.0 then
    given (single_at type_.0 type_.1)
    (λ s. given (present (field_children t)) (λ v. option_map (single_with s) (first_field read v)))
    else if is_group_tag type_.0 then
    given (group_at type_.0 type_.1)
    (λ g. given (present (field_children t)) (λ v. option_map (group_with g) (some_fields read v)))
    else option_map (λ p. (plain p, no_ids)) (plain_at type_.0 type_.1)

-- ---- metadata

-- Pairs with one more that was read: the later of equal keys wins. A pair without a key
-- or without a value is skipped.
abbrev pub with_read : Option (List ℕ) → Option (List ℕ) → Pairs → Pairs
with_read (Some k) (Some v) es = with_pair k v es
with_read None _ es = es
with_read (Some k) None es = es

-- Pairs with one more from a table, whose key and value must be valid.
abbrev pub with_key_value : Spot → Pairs → Option Pairs
with_key_value t es = given (made (key_value_key t))
    (λ k. given (made (key_value_value t)) (λ v. Some (with_read k v es)))

-- Some pairs and then the n pairs of a vector from index k on.
abbrev pub pairs_from : Vector → ℕ → ℕ → Pairs → Option Pairs
pairs_from v k zero es = Some es
pairs_from v k (suc n) es = given (made (table_in v k))
    (λ t. given (with_key_value t es) (λ after. pairs_from v (k + 1) n after))

-- The pairs of a vector; none if it is absent.
unfoldable pub pairs_at : Option Vector → Option Pairs
pairs_at None = Some []
pairs_at (Some v) = pairs_from v 0 v.count []

-- The value of a key.
abbrev pub value_under : List ℕ → Pairs → Option (List ℕ)
value_under k [] = None
value_under k (e ∷ es) = if is_eq (slice_cmp nat_cmp k e.0) then Some e.1 else value_under k es

-- A type as an extension of this name, if there is a name.
abbrev pub extended : Option (List ℕ) → Option (List ℕ) → TypeTree → TypeTree
extended None text t = t
extended (Some name) text t = extension name t text

-- A type as the extension that its field's metadata name, if they do.
abbrev pub with_extension : Pairs → TypeTree → TypeTree
with_extension es t = extended (value_under name_key es) (value_under data_key es) t

-- ---- fields

-- A dictionary encoding: the type of the keys, the dictionary's id,
-- and whether the keys are ordered.
pub record Encoding : Type 0 where
  pub keys : IntegerType
  pub id : ℤ
  pub ordered : Bool

-- The dictionary encoding that a table means.
unfoldable pub encoding_at : Spot → Option Encoding
encoding_at t =
    given (made (dictionary_encoding_id t))
    (λ id. given (present (dictionary_encoding_index_type t)) (λ i. given (integer_at i) (λ keys.
    given (made (dictionary_encoding_is_ordered t))
    (λ ordered. Some (record { keys = keys; id = id; ordered = ordered })))))

-- The dictionary encoding of a table that may be absent.
abbrev pub optional_encoding : Option Spot → Option (Option Encoding)
optional_encoding None = Some None
optional_encoding (Some t) = option_map Some (encoding_at t)

-- A type with a dictionary encoding, if there is one. An extension is then
-- that of the dictionary's values.
abbrev pub encoded : Option Encoding → TypeTree → TypeTree
encoded None t = t
encoded (Some e) t = dictionary e.keys t e.ordered

-- The id of a dictionary encoding, if there is one.
abbrev pub id_of : Option Encoding → Option ℤ
id_of None = None
id_of (Some e) = Some e.id

-- A field with its ids, from its parts. The extension is that of the values if the
-- field has a dictionary encoding.
abbrev pub field_with : List ℕ → Bool → Pairs → Option Encoding → ReadType → Read
field_with name nullable es encoding t =
    (field name (encoded encoding (with_extension es t.0)) nullable es, ids (id_of encoding) t.1)

-- What the table of a field means; `read` says what the tables of its children mean.
unfoldable pub field_from : (Spot → Option Read) → Spot → Option Read
field_from read t =
    given (present (field_name t)) (λ name. given (made (field_nullable t)) (λ nullable.
    given (made (field_custom_metadata t)) (λ v. given (pairs_at v) (λ es.
    given (made (field_dictionary t)) (λ d. given (optional_encoding d) (λ encoding.
    given (present (field_type t))
    (λ type_. option_map (field_with name nullable es encoding) (type_of_field read t type_))))))))

-- What the table of a field means, if it has at most n levels.
unfoldable pub field_at : ℕ → Spot → Option Read
field_at zero t = None
field_at (suc n) t = field_from (λ s. field_at n s) t

-- The largest number of levels of fields.
abbrev pub most_levels : ℕ
most_levels = 64

-- ---- how many fields there are, at all levels

abbrev mutual
  -- How many fields a field has at all levels, itself included.
  pub field_count : FieldTree → ℕ
  field_count (field name t nullable es) = 1 + inner_count t

  -- How many fields are below a type.
  pub inner_count : TypeTree → ℕ
  inner_count (plain p) = 0
  inner_count (single s f) = field_count f
  inner_count (group g fs) = fields_count fs
  inner_count (dictionary keys t ordered) = inner_count t
  inner_count (extension name t text) = inner_count t

  -- How many fields there are at all levels.
  pub fields_count : FieldTrees → ℕ
  fields_count no_fields = 0
  fields_count (more_fields f fs) = field_count f + fields_count fs

-- ---- schemas

-- The schema, if it has at most `most` fields at all levels. A table that is
-- shared counts each time it is used.
abbrev pub schema_with : ℕ → Endianness → Pairs → ReadAll → Option Schema
schema_with most order es all =
    if nat_le (fields_count all.0) most then Some
    (record { fields = all.0; metadata = es; ids = all.1; order = order }) else None

-- What a schema table means.
unfoldable pub schema_at : Spot → Option Schema
schema_at t =
    given (made (schema_endianness t))
    (λ order. given (made (schema_custom_metadata t)) (λ v. given (pairs_at v) (λ es.
    given (present (schema_fields t))
    (λ fields. given (fields_from (λ s. field_at most_levels s) fields 0 fields.count)
    (λ all. schema_with (length t.message) (order_of order) es all)))))

-- What the header of a message means as a schema: it must have the tag 1.
abbrev pub schema_header : ℕ × Spot → Option Schema
schema_header h = if nat_eq h.0 1 then schema_at h.1 else None

-- What a schema message means.
unfoldable pub schema_of : List ℕ → Option Schema
schema_of metadata = given (made (root_at metadata)) (λ t. given (present (message_header t)) schema_header)

-- What a schema message means, with the version of its metadata.
unfoldable pub head_of : List ℕ → Option Head
head_of metadata =
    given (schema_of metadata) (λ schema. given (made (root_at metadata)) (λ t. given (made (message_version t))
    (λ version. Some (record { schema = schema; version = version }))))
