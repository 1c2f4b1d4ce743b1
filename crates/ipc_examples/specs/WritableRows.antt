-- Schemas that can be written. Beside each is one that can't. A definition that is changed in one
-- word fails one of these cases. Each limit is tried at its edge. If a limit is too large to write
-- out (weights, dictionary fields), the case is for every number.
-- (Arrow columnar format, "Schema message" and "Data Types"; the limits are this project's own.)
use Rattle.std.specs.Prelude.{ℕ, zero, suc, ℤ, pos, negsuc, ◌-◌, ◌^◌, ◌≤◌, ◌↔◌, true, false, List, [], ◌∷◌, codes, replicate, Option, Some, None}
use Rattle.lower.specs.Normal.{data_key}
use Rattle.lower.specs.TypeTrees.{Pairs, Plain, int32, float16, float32, float64, time32, time64, utf8, binary, fixed_binary, decimal, decimal256, Single, list, large_list, fixed_list, entries, structure, choice, TypeTree, plain, single, group, dictionary, extension, FieldTree, field, FieldTrees, no_fields, more_fields}
use Rattle.lower.specs.declared.datatypes.IntegerType.TheVariants.{Int8}
use Rattle.lower.specs.declared.datatypes.TimeUnit.TheVariants.{Second, Millisecond, Microsecond, Nanosecond}
use Rattle.lower.specs.declared.datatypes.UnionMode.TheVariants.{Sparse, Dense}
use Rattle.ipc_base.specs.IdTrees.{IdTree, ids, IdTrees, no_ids, more_ids}
use Rattle.ipc_model.specs.Samples.{named, alone}
use Rattle.ipc_model.specs.Writable.{IsWritableType, IsWritable, IsWritableFile}

-- ---- types

abbrev pub IsWritablePlainType : Plain → Type 0
IsWritablePlainType p = IsWritableType (plain p)

-- No float can be written. Times of the day have the pairs of unit and width that the format lists.
-- Sizes are above 0, and sizes, precisions and scales are numbers of 31 bits.
pub record PlainTypeRows : Type 0 where
  pub half_float : ¬ IsWritablePlainType float16
  pub single_float : ¬ IsWritablePlainType float32
  pub double_float : ¬ IsWritablePlainType float64
  pub seconds : IsWritablePlainType (time32 Second)
  pub milliseconds : IsWritablePlainType (time32 Millisecond)
  pub short_microseconds : ¬ IsWritablePlainType (time32 Microsecond)
  pub short_nanoseconds : ¬ IsWritablePlainType (time32 Nanosecond)
  pub long_seconds : ¬ IsWritablePlainType (time64 Second)
  pub long_milliseconds : ¬ IsWritablePlainType (time64 Millisecond)
  pub microseconds : IsWritablePlainType (time64 Microsecond)
  pub nanoseconds : IsWritablePlainType (time64 Nanosecond)
  pub no_bytes : ¬ IsWritablePlainType (fixed_binary 0)
  pub one_byte : IsWritablePlainType (fixed_binary 1)
  pub greatest_bytes : IsWritablePlainType (fixed_binary (2 ^ 31 - 1))
  pub past_the_greatest_bytes : ¬ IsWritablePlainType (fixed_binary (2 ^ 31))
  pub greatest_decimal : IsWritablePlainType (decimal (2 ^ 31 - 1) (2 ^ 31 - 1))
  pub past_the_greatest_precision : ¬ IsWritablePlainType (decimal (2 ^ 31) 0)
  pub past_the_greatest_scale : ¬ IsWritablePlainType (decimal 0 (2 ^ 31))
  pub greatest_wide_decimal : IsWritablePlainType (decimal256 (2 ^ 31 - 1) (2 ^ 31 - 1))
  pub past_the_greatest_wide_precision : ¬ IsWritablePlainType (decimal256 (2 ^ 31) 0)
  pub past_the_greatest_wide_scale : ¬ IsWritablePlainType (decimal256 0 (2 ^ 31))
  pub no_digits : IsWritablePlainType (decimal 0 0)

abbrev pub of_type : TypeTree → FieldTree
of_type t = named t (codes "f")

abbrev pub float_field : FieldTree
float_field = of_type (plain float64)

abbrev pub integer_field : FieldTree
integer_field = of_type (plain int32)

abbrev pub listed : Single → TypeTree
listed s = single s integer_field

abbrev pub both : FieldTree → FieldTree → FieldTrees
both f g = more_fields f (alone g)

-- So many integers.
abbrev pub integer_fields : ℕ → FieldTrees
integer_fields zero = no_fields
integer_fields (suc n) = more_fields integer_field (integer_fields n)

abbrev pub record_of : FieldTrees → TypeTree
record_of fs = group structure fs

abbrev pub map_over : TypeTree → TypeTree
map_over t = single (entries false) (of_type t)

abbrev pub union_over : Option (List ℤ) → ℕ → TypeTree
union_over type_ids n = group (choice type_ids Dense) (integer_fields n)

abbrev pub keyed : TypeTree → TypeTree
keyed t = dictionary Int8 t false

abbrev pub extended : TypeTree → TypeTree
extended t = extension (codes "e") t None

-- Fixed-size lists have at least one slot each; a struct has a child. A map's child is a
-- struct of two fields, and no extension of one. A union has 1 to 127 children, and
-- distinct type ids from 0 to 126, one for each. A dictionary is neither right under a
-- dictionary nor right under an extension, and no extension right under one. What is inside
-- a type can be written too, at all levels.
pub record NestedTypeRows : Type 0 where
  pub lists : IsWritableType (listed list)
  pub large_lists : IsWritableType (listed large_list)
  pub lists_of_none : ¬ IsWritableType (listed (fixed_list 0))
  pub lists_of_one : IsWritableType (listed (fixed_list 1))
  pub greatest_lists : IsWritableType (listed (fixed_list (2 ^ 31 - 1)))
  pub past_the_greatest_lists : ¬ IsWritableType (listed (fixed_list (2 ^ 31)))
  pub no_child : ¬ IsWritableType (record_of no_fields)
  pub one_child : IsWritableType (record_of (integer_fields 1))
  pub maps : IsWritableType (map_over (record_of (integer_fields 2)))
  pub maps_of_one_field : ¬ IsWritableType (map_over (record_of (integer_fields 1)))
  pub maps_of_three_fields : ¬ IsWritableType (map_over (record_of (integer_fields 3)))
  pub maps_of_no_struct : ¬ IsWritableType (map_over (union_over None 2))
  pub maps_of_an_extension : ¬ IsWritableType (map_over (extended (record_of (integer_fields 2))))
  pub unions_of_none : ¬ IsWritableType (union_over None 0)
  pub unions_of_one : IsWritableType (union_over None 1)
  pub unions_of_one_too_many : ¬ IsWritableType (union_over None 128)
  pub greatest_id : IsWritableType (union_over (Some (pos 126 ∷ [])) 1)
  pub past_the_greatest_id : ¬ IsWritableType (union_over (Some (pos 127 ∷ [])) 1)
  pub negative_id : ¬ IsWritableType (union_over (Some (negsuc 0 ∷ [])) 1)
  pub few_ids : ¬ IsWritableType (union_over (Some (pos 5 ∷ [])) 2)
  pub equal_ids : ¬ IsWritableType (union_over (Some (pos 5 ∷ pos 5 ∷ [])) 2)
  pub dictionaries : IsWritableType (keyed (plain utf8))
  pub dictionaries_of_dictionaries : ¬ IsWritableType (keyed (keyed (plain utf8)))
  pub dictionaries_of_lists_of_dictionaries : IsWritableType (keyed (single list (of_type (keyed (plain utf8)))))
  pub dictionaries_of_extensions : IsWritableType (keyed (extended (plain utf8)))
  pub extensions : IsWritableType (extended (plain utf8))
  pub extensions_of_dictionaries : ¬ IsWritableType (extended (keyed (plain utf8)))
  pub extensions_of_extensions : ¬ IsWritableType (extended (extended (plain utf8)))
  pub float_in_a_list : ¬ IsWritableType (single list float_field)
  pub float_in_a_struct : ¬ IsWritableType (record_of (both integer_field float_field))
  pub float_in_a_union : ¬ IsWritableType (group (choice None Sparse) (both integer_field float_field))
  pub float_in_a_dictionary : ¬ IsWritableType (keyed (plain float64))
  pub float_in_an_extension : ¬ IsWritableType (extended (plain float64))

-- ---- schemas

abbrev pub no_id : IdTree
no_id = ids None no_ids

abbrev pub id_is : ℤ → IdTree
id_is z = ids (Some z) no_ids

abbrev pub one_id : IdTree → IdTrees
one_id i = more_ids i no_ids

abbrev pub two_ids : IdTree → IdTree → IdTrees
two_ids i j = more_ids i (one_id j)

-- So many lists, one in the other, of integers; and their ids.
abbrev pub nested_lists : ℕ → FieldTree
nested_lists zero = integer_field
nested_lists (suc n) = of_type (single list (nested_lists n))

abbrev pub nested_ids : ℕ → IdTree
nested_ids zero = no_id
nested_ids (suc n) = ids None (one_id (nested_ids n))

-- Lists of texts under an id.
abbrev pub lists_under : ℤ → IdTree
lists_under z = ids (Some (pos 0)) (one_id (id_is z))

abbrev pub text_lists : TypeTree
text_lists = keyed (single list (of_type (keyed (plain utf8))))

-- Lists of integers, whose field has metadata.
abbrev pub integer_lists : Pairs → FieldTree
integer_lists metadata = of_type (keyed (single list (field (codes "f") (plain int32) true metadata)))

-- A field whose name has so many bytes.
abbrev pub long_named : ℕ → FieldTrees
long_named n = alone (named (plain int32) (replicate n 97))

-- So many dictionaries of texts, and their ids.
abbrev pub dictionaries_of : ℕ → FieldTrees
dictionaries_of zero = no_fields
dictionaries_of (suc n) = more_fields (of_type (keyed (plain utf8))) (dictionaries_of n)

abbrev pub zero_ids : ℕ → IdTrees
zero_ids zero = no_ids
zero_ids (suc n) = more_ids (id_is (pos 0)) (zero_ids n)

-- Exactly the dictionaries have ids. There are at most 64 levels of fields; a top field is at level
-- 1. Two fields of one id have one type of values, in its normal form, and the same ids in them. A
-- schema's weight is at most 2 ^ 30. Here it is 1,536 and the bytes of a name; for a file with the
-- pairs of its footer, 1,602 and the bytes of a value. There are at most 65,536 dictionary fields.
pub record WritableSchemaRows : Type 0 where
  pub an_integer : IsWritable (alone integer_field) [] (one_id no_id)
  pub a_float : ¬ IsWritable (alone float_field) [] (one_id no_id)
  pub second_a_float : ¬ IsWritable (both integer_field float_field) [] (two_ids no_id no_id)
  pub no_ids_at_all : ¬ IsWritable (alone integer_field) [] no_ids
  pub an_id_too_many : ¬ IsWritable (alone integer_field) [] (two_ids no_id no_id)
  pub an_id_at_an_integer : ¬ IsWritable (alone integer_field) [] (one_id (id_is (pos 0)))
  pub no_id_at_a_dictionary : ¬ IsWritable (alone (of_type (keyed (plain utf8)))) [] (one_id no_id)
  pub level_64 : IsWritable (alone (nested_lists 63)) [] (one_id (nested_ids 63))
  pub level_65 : ¬ IsWritable (alone (nested_lists 64)) [] (one_id (nested_ids 64))
  pub one_type : IsWritable (both (of_type (keyed (plain utf8))) (of_type (keyed (plain utf8)))) [] (two_ids (id_is (pos 0)) (id_is (pos 0)))
  pub two_types : ¬ IsWritable (both (of_type (keyed (plain utf8))) (of_type (keyed (plain binary)))) [] (two_ids (id_is (pos 0)) (id_is (pos 0)))
  pub two_ids_for_two_types : IsWritable (both (of_type (keyed (plain utf8))) (of_type (keyed (plain binary)))) [] (two_ids (id_is (pos 0)) (id_is (pos 1)))
  pub normal_types : IsWritable (both (integer_lists ((data_key, codes "m") ∷ [])) (integer_lists [])) [] (two_ids (ids (Some (pos 0)) (one_id no_id)) (ids (Some (pos 0)) (one_id no_id)))
  pub other_metadata : ¬ IsWritable (both (integer_lists ((codes "k", codes "m") ∷ [])) (integer_lists [])) [] (two_ids (ids (Some (pos 0)) (one_id no_id)) (ids (Some (pos 0)) (one_id no_id)))
  pub nested_alike : IsWritable (both (of_type text_lists) (of_type text_lists)) [] (two_ids (lists_under (pos 1)) (lists_under (pos 1)))
  pub nested_otherwise : ¬ IsWritable (both (of_type text_lists) (of_type text_lists)) [] (two_ids (lists_under (pos 1)) (lists_under (pos 2)))
  pub weight : (n : ℕ) → IsWritable (long_named n) [] (one_id no_id) ↔ (n ≤ 2 ^ 30 - 1536)
  pub places : (n : ℕ) → IsWritable (dictionaries_of n) [] (zero_ids n) ↔ (n ≤ 65536)
  pub third_of_another_type : ¬ IsWritable (more_fields (of_type (keyed (plain utf8))) (both (of_type (keyed (plain utf8))) (of_type (keyed (plain binary))))) [] (zero_ids 3)
  pub file_weight : (n : ℕ) → IsWritableFile (alone integer_field) [] (one_id no_id) ((codes "k", replicate n 97) ∷ []) ↔ (n ≤ 2 ^ 30 - 1602)
