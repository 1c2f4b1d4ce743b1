-- The arrays that columns are read to, type by type, and what arrays of each width bring to a
-- writer. A definition that is changed in one word fails one of these cases. Each limit is tried at
-- its edge: the last value that passes, and the first that doesn't.
-- (Arrow columnar format, "Physical Memory Layout" and "Buffer Listing for Each Layout".)
use Rattle.std.specs.Prelude.{◌≡◌, ℕ, pos, true, false, List, [], ◌∷◌, ◌++◌, codes, replicate, Some, None}
use Rattle.lower.specs.TypeTrees.{int16, int64, large_binary, decimal, fixed_binary, utf8, list, large_list, plain, single, dictionary, int32, TypeTree, structure, group}
use Rattle.lower.specs.declared.datatypes.IntegerType.{IntegerType}
use Rattle.lower.specs.declared.datatypes.IntegerType.TheVariants as integers
use Rattle.lower_types.specs.NumberTypes.{whole}
use Rattle.lower_types.specs.declared.Endianness.TheVariants.{Little}
use Rattle.lower_types.specs.declared.PrimitiveType.{PrimitiveType}
use Rattle.lower_types.specs.declared.PrimitiveType.TheVariants.{Int16, Int32, Int64, Int128}
use Rattle.lower_arrays.specs.Cases.{HasListCases}
use Rattle.lower_arrays.specs.Layouts.{Parts, numbers, fixed_bytes, bytes, lists, keys, Layout, layout, no_layouts, records}
use Rattle.ipc_base.specs.IdTrees.{IdTree, ids, no_ids, more_ids, IdTrees}
use Rattle.ipc_examples.specs.AcceptedRows.{column_is}
use Rattle.ipc_model.specs.Samples.{node_is, buffer_is, entries, read_array, array_is}
use Rattle.ipc_examples.specs.ColumnRows.{word, number}
use Rattle.ipc_examples.specs.DictionaryRows.{a, b, values_are, list_of_text, lists as lists_of_texts}
use Rattle.ipc_model.specs.Entries.{Entries, Dictionaries}
use Rattle.ipc_examples.specs.KindRows.{large_lists_of, three_long_offsets, list_field}
use Rattle.ipc_model.specs.ReadChunks.{IsArrayOf, HaveMeaning}
use Rattle.ipc_examples.specs.OfferRows.{one_child, field_is, list_of, dictionary_of_texts, keyed_texts, texts_are, lengths_of, lengths_are, both_fields, two_children, numbers_are, keyed_lists}
use Rattle.ipc_model.specs.TypeKinds.{kind_of}
use Rattle.lower_arrays.specs.Slots.{list_slot, record_slot, slots_of, Slot}
use Rattle.ipc_model.specs.Batches.{Column}

abbrev pub own_parts : Layout → Parts
own_parts (layout h cs) = h.parts

abbrev pub two_bytes_each : Entries
two_bytes_each = entries Little 0 (node_is 1 0 ∷ []) (buffer_is 0 0 ∷ buffer_is 0 16 ∷ []) (2 ∷ replicate 15 0)

-- One key, 2, of each type.
abbrev pub key_read : IntegerType → Parts
key_read k = own_parts (read_array (kind_of (dictionary k (plain utf8) false) (Some (pos 0)) no_ids) (dictionary k (plain utf8) false) None two_bytes_each)

-- Keys keep their type, and offsets theirs.
pub record KeyTypeRows : Type 0 where
  pub signed_8 : key_read integers.Int8 ≡ keys integers.Int8 (pos 2 ∷ [])
  pub signed_16 : key_read integers.Int16 ≡ keys integers.Int16 (pos 2 ∷ [])
  pub signed_32 : key_read integers.Int32 ≡ keys integers.Int32 (pos 2 ∷ [])
  pub signed_64 : key_read integers.Int64 ≡ keys integers.Int64 (pos 2 ∷ [])
  pub unsigned_8 : key_read integers.UInt8 ≡ keys integers.UInt8 (pos 2 ∷ [])
  pub unsigned_16 : key_read integers.UInt16 ≡ keys integers.UInt16 (pos 2 ∷ [])
  pub unsigned_32 : key_read integers.UInt32 ≡ keys integers.UInt32 (pos 2 ∷ [])
  pub unsigned_64 : key_read integers.UInt64 ≡ keys integers.UInt64 (pos 2 ∷ [])
  pub large_offsets : own_parts (read_array (kind_of (single large_list list_field) None no_ids) (single large_list list_field) None
      (large_lists_of (three_long_offsets ++ word 3 ++ word 4))) ≡ lists Int64 Int64 (0 ∷ 1 ∷ 2 ∷ [])
  pub small_offsets : own_parts (read_array (kind_of (single list list_field) None no_ids) (single list list_field) None
      (entries Little 0 (node_is 2 0 ∷ node_is 2 0 ∷ []) (buffer_is 0 0 ∷ buffer_is 0 12 ∷ buffer_is 0 0 ∷ buffer_is 12 8 ∷ []) (word 0 ++ word 1 ++ word 2 ++ word 3 ++ word 4)))
      ≡ lists Int32 Int32 (0 ∷ 1 ∷ 2 ∷ [])

-- Keys of a type with a validity, for one text.
abbrev pub keys_of : IntegerType → Layout
keys_of k = array_is (dictionary k (plain utf8) false) 3 (Some (true ∷ false ∷ true ∷ [])) (keys k (pos 0 ∷ pos 0 ∷ pos 0 ∷ [])) (one_child (texts_are 1 (0 ∷ 1 ∷ []) (codes "a")))

-- The lengths of nodes and buffers of three slots: what a number, a key, an offset
-- and a fixed number of bytes take.
pub record OfferWidthRows : Type 0 where
  pub short_numbers : lengths_of (array_is (plain int16) 3 None (numbers Int16 (replicate 3 (whole (pos 1)))) no_layouts) ≡ lengths_are (3 ∷ []) (0 ∷ 6 ∷ [])
  pub long_numbers : lengths_of (array_is (plain int64) 3 None (numbers Int64 (replicate 3 (whole (pos 1)))) no_layouts) ≡ lengths_are (3 ∷ []) (0 ∷ 24 ∷ [])
  pub decimals : lengths_of (array_is (plain (decimal 10 2)) 3 None (numbers Int128 (replicate 3 (whole (pos 1)))) no_layouts) ≡ lengths_are (3 ∷ []) (0 ∷ 48 ∷ [])
  pub fixed : lengths_of (array_is (plain (fixed_binary 5)) 3 None (fixed_bytes 5 (replicate 15 0)) no_layouts) ≡ lengths_are (3 ∷ []) (0 ∷ 15 ∷ [])
  pub large_offsets : lengths_of (array_is (plain large_binary) 1 None (bytes Int64 (0 ∷ 2 ∷ []) (7 ∷ 8 ∷ [])) no_layouts) ≡ lengths_are (1 ∷ []) (0 ∷ 16 ∷ 2 ∷ [])
  pub keys_of_a_byte : lengths_of (keys_of integers.Int8) ≡ lengths_are (3 ∷ []) (1 ∷ 3 ∷ [])
  pub keys_of_two : lengths_of (keys_of integers.UInt16) ≡ lengths_are (3 ∷ []) (1 ∷ 6 ∷ [])
  pub keys_of_eight : lengths_of (keys_of integers.Int64) ≡ lengths_are (3 ∷ []) (1 ∷ 24 ∷ [])
  pub nine_slots : lengths_of (array_is (plain int16) 9 (Some (replicate 9 true)) (numbers Int16 (replicate 9 (whole (pos 1)))) no_layouts) ≡ lengths_are (9 ∷ []) (2 ∷ 18 ∷ [])

-- ---- values that are known

abbrev pub known_texts : Dictionaries
known_texts = (pos 0, values_are (a ∷ b ∷ [])) ∷ []

-- The text "b" by the key 1 of two texts.
abbrev pub second_of : List ℕ → Layout
second_of letters = keyed_texts (pos 1 ∷ []) (texts_are 2 (0 ∷ 1 ∷ 2 ∷ []) letters)

abbrev pub one_id : IdTree
one_id = ids (Some (pos 0)) no_ids

abbrev pub list_of_ids : IdTree
list_of_ids = ids None (more_ids one_id no_ids)

-- One list of the text "b".
abbrev pub listed_second : List ℕ → Layout
listed_second letters = list_of 1 (0 ∷ 1 ∷ []) (second_of letters) dictionary_of_texts

abbrev pub p_and_q : List Slot
p_and_q = list_of_text (codes "p") ∷ list_of_text (codes "q") ∷ []

abbrev pub no_id : IdTree
no_id = ids None no_ids

abbrev pub both_ids : IdTrees
both_ids = more_ids no_id (more_ids one_id no_ids)

-- A struct of the number 1 and the text "b".
abbrev pub number_and_text : TypeTree
number_and_text = group structure (both_fields (plain int32) dictionary_of_texts)

abbrev pub struct_with : List ℕ → Layout
struct_with letters = array_is number_and_text 1 None records (two_children (numbers_are (1 ∷ [])) (second_of letters))

abbrev pub struct_column : Column
struct_column = column_is number_and_text (record_slot (slots_of (number 1 ∷ b ∷ [])) ∷ [])

-- At each dictionary field the array of a column has all values that are known, also those that no
-- key names. It has the column's type and slots. Fields inside values aren't compared. Each column
-- has its own ids, whichever columns are chosen.
pub record KnownRows : Type 0 where
  pub known_values : IsArrayOf known_texts one_id (column_is dictionary_of_texts (b ∷ [])) (second_of (codes "ab"))
  pub other_values : ¬ IsArrayOf known_texts one_id (column_is dictionary_of_texts (b ∷ [])) (second_of (codes "xb"))
  pub nothing_known : ¬ IsArrayOf [] one_id (column_is dictionary_of_texts (b ∷ [])) (second_of (codes "ab"))
  pub in_a_list : IsArrayOf known_texts list_of_ids (column_is (single list (field_is dictionary_of_texts)) (list_of_text (codes "b") ∷ [])) (listed_second (codes "ab"))
  pub others_in_a_list : ¬ IsArrayOf known_texts list_of_ids (column_is (single list (field_is dictionary_of_texts)) (list_of_text (codes "b") ∷ [])) (listed_second (codes "xb"))
  pub in_a_struct : IsArrayOf known_texts (ids None both_ids) struct_column (struct_with (codes "ab"))
  pub others_in_a_struct : ¬ IsArrayOf known_texts (ids None both_ids) struct_column (struct_with (codes "xb"))
  pub another_type : ¬ IsArrayOf known_texts one_id (column_is (plain utf8) (b ∷ [])) (second_of (codes "ab"))
  pub other_slots : ¬ IsArrayOf known_texts one_id (column_is dictionary_of_texts (a ∷ [])) (second_of (codes "ab"))
  pub second_column : HaveMeaning known_texts both_ids (1 ∷ []) (column_is dictionary_of_texts (b ∷ []) ∷ []) (second_of (codes "ab") ∷ [])
  pub others_in_the_second : ¬ HaveMeaning known_texts both_ids (1 ∷ []) (column_is dictionary_of_texts (b ∷ []) ∷ []) (second_of (codes "xb") ∷ [])
  pub one_array_missing : ¬ HaveMeaning known_texts both_ids (1 ∷ []) (column_is dictionary_of_texts (b ∷ []) ∷ []) []
  pub inner_values_aside : IsArrayOf ((pos 0, record { type = plain utf8; slots = p_and_q }) ∷ []) (ids (Some (pos 0)) (more_ids (ids (Some (pos 1)) no_ids) no_ids)) (column_is lists_of_texts p_and_q)
      (keyed_lists (pos 0 ∷ pos 1 ∷ []) (pos 0 ∷ pos 1 ∷ []) (codes "pq"))

-- ---- variants of AnyArray

-- A list of the number 1, with offsets of 64 bits, in the variant that names such offsets.
abbrev pub large_list_in : PrimitiveType → Layout
large_list_in named = array_is (single large_list (field_is (plain int32))) 1 None (lists named Int64 (0 ∷ 1 ∷ [])) (one_child (numbers_are (1 ∷ [])))

-- A list of such a list, with offsets of 32 bits.
abbrev pub list_of_large : PrimitiveType → Layout
list_of_large named = list_of 1 (0 ∷ 1 ∷ []) (large_list_in named) (single large_list (field_is (plain int32)))

-- A key of such a list.
abbrev pub key_of_large : PrimitiveType → Layout
key_of_large named =
    array_is (dictionary integers.Int8 (single large_list (field_is (plain int32))) false) 1 None (keys integers.Int8 (pos 0 ∷ [])) (one_child (large_list_in named))

-- Lists with 32-bit offsets are List, those with 64-bit offsets LargeList, at each level but
-- in the values of dictionaries.
pub record CaseRows : Type 0 where
  pub numbers_have_none : HasListCases (numbers_are (1 ∷ []))
  pub small : HasListCases (list_of 1 (0 ∷ 1 ∷ []) (numbers_are (1 ∷ [])) (plain int32))
  pub large : HasListCases (large_list_in Int64)
  pub large_as_small : ¬ HasListCases (large_list_in Int32)
  pub large_in_small : HasListCases (list_of_large Int64)
  pub large_as_small_in_small : ¬ HasListCases (list_of_large Int32)
  pub large_in_values : HasListCases (key_of_large Int64)
  pub values_aside : HasListCases (key_of_large Int32)
  pub not_the_column : ¬ IsArrayOf [] no_id (column_is (single large_list (field_is (plain int32))) (list_slot (slots_of (number 1 ∷ [])) ∷ [])) (large_list_in Int32)
  pub the_column : IsArrayOf [] no_id (column_is (single large_list (field_is (plain int32))) (list_slot (slots_of (number 1 ∷ [])) ∷ [])) (large_list_in Int64)
