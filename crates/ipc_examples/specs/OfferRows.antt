-- Arrays, and what chunks of them bring to a writer. Mutated definitions fail here:
-- * with the whole child of a sliced list: `slice_of_lists`, `lists_in_lists`, `structs_in_lists`
-- * without the validity of a struct: `structs`, and `EntryCountLaw`
-- (Arrow columnar format, "Buffer Listing for Each Layout", "RecordBatch
-- message" and "Dictionary messages".)
use Rattle.std.specs.Prelude.{◌≡◌, ℕ, ℤ, pos, negsuc, ◌-◌, ◌^◌, Bool, true, false, List, [], ◌∷◌, length, map, codes, Option, Some, None}
use Rattle.lower.specs.Normal.{data_key}
use Rattle.lower.specs.TypeTrees.{Pairs, TypeTree, null, boolean, int32, int64, binary, utf8, large_utf8, list, fixed_list, entries, structure, choice, plain, single, group, dictionary, FieldTree, field, FieldTrees, no_fields, more_fields}
use Rattle.lower.specs.declared.datatypes.IntegerType.TheVariants as integers
use Rattle.lower.specs.declared.datatypes.UnionMode.{UnionMode}
use Rattle.lower.specs.declared.datatypes.UnionMode.TheVariants.{Sparse, Dense}
use Rattle.lower_types.specs.NumberTypes.{whole}
use Rattle.lower_types.specs.declared.PrimitiveType.TheVariants.{Int32, Int64}
use Rattle.lower_arrays.specs.Layouts.{truths, numbers, bytes, texts, lists, fixed_lists, maps, records, choices, keys, Layout, Layouts, no_layouts, more_layouts}
use Rattle.lower_arrays.specs.Slots.{Slot, number_slot, text_slot}
use Rattle.ipc_base.specs.IdTrees.{ids, IdTrees, no_ids, more_ids}
use Rattle.ipc_model.specs.Accepted.{body_length, Brought}
use Rattle.ipc_examples.specs.AcceptedRows.{column_is}
use Rattle.ipc_examples.specs.DictionaryRows.{lists as lists_of_texts, list_of_text, values_are}
use Rattle.ipc_model.specs.Offers.{offer_of, IsAcceptedChunk}
use Rattle.ipc_model.specs.Samples.{array_is, nulls_are, integers_are, demo}

-- ---- definitions for the cases

abbrev pub one_child : Layout → Layouts
one_child c = more_layouts c no_layouts

abbrev pub two_children : Layout → Layout → Layouts
two_children c d = more_layouts c (one_child d)

abbrev pub field_is : TypeTree → FieldTree
field_is t = field (codes "f") t true []

abbrev pub one_field : TypeTree → FieldTrees
one_field t = more_fields (field_is t) no_fields

abbrev pub both_fields : TypeTree → TypeTree → FieldTrees
both_fields t u = more_fields (field_is t) (one_field u)

abbrev pub numbers_are : List ℕ → Layout
numbers_are ns = integers_are (map (λ n. pos n) ns)

abbrev pub bits_are : List Bool → Layout
bits_are xs = array_is (plain boolean) (length xs) None (truths xs) no_layouts

-- Texts by their offsets.
abbrev pub texts_are : ℕ → List ℕ → List ℕ → Layout
texts_are n os xs = array_is (plain utf8) n None (texts Int32 os xs) no_layouts

abbrev pub list_of : ℕ → List ℕ → Layout → TypeTree → Layout
list_of n os c t = array_is (single list (field_is t)) n None (lists Int32 Int32 os) (one_child c)

-- The lengths of the nodes and of the buffers of one column, without dictionaries.
pub record Lengths : Type 0 where
  pub nodes : List ℕ
  pub bodies : List (List ℕ)

abbrev pub lengths_of : Layout → Lengths
lengths_of l = record { nodes = (offer_of (l ∷ []) no_ids).nodes; bodies = (offer_of (l ∷ []) no_ids).bodies }

abbrev pub lengths_are : List ℕ → List ℕ → Lengths
lengths_are ns body = record { nodes = ns; bodies = body ∷ [] }

-- ---- arrays

-- The second slot of two.
abbrev pub sliced_binary : Layout
sliced_binary = array_is (plain binary) 1 None (bytes Int32 (1 ∷ 3 ∷ []) (0x61 ∷ 0x62 ∷ 0x63 ∷ [])) no_layouts

-- The slots [] and [3] of four lists.
abbrev pub sliced_list : Layout
sliced_list = list_of 2 (2 ∷ 2 ∷ 3 ∷ []) (numbers_are (1 ∷ 2 ∷ 3 ∷ 4 ∷ 5 ∷ [])) (plain int32)

-- The second of two lists of lists: it has the last of two lists, which
-- has the last of three numbers.
abbrev pub list_of_lists : Layout
list_of_lists = list_of 1 (1 ∷ 2 ∷ []) (list_of 2 (0 ∷ 2 ∷ 3 ∷ []) (numbers_are (1 ∷ 2 ∷ 3 ∷ [])) (plain int32))
    (single list (field_is (plain int32)))

-- Four structs, the third of them null.
abbrev pub struct_of_two : Layout
struct_of_two = array_is (group structure (both_fields (plain boolean) (plain int32))) 4 (Some (true ∷ true ∷ false ∷ true ∷ [])) records
    (two_children (bits_are (false ∷ false ∷ true ∷ true ∷ [])) (numbers_are (42 ∷ 28 ∷ 19 ∷ 31 ∷ [])))

-- Two of these four structs, as one list.
abbrev pub list_of_records : Layout
list_of_records = list_of 1 (1 ∷ 3 ∷ []) struct_of_two (group structure (both_fields (plain boolean) (plain int32)))

-- The type ids of slots of two children.
abbrev pub union_is : UnionMode → Option (List ℤ) → List ℤ → Layout → Layout → Layout
union_is mode os ts c d = array_is (group (choice None mode) (both_fields (plain int32) (plain boolean))) (length ts) None (choices None ts os)
    (two_children c d)

abbrev pub zero_one_zero : List ℤ
zero_one_zero = pos 0 ∷ pos 1 ∷ pos 0 ∷ []

abbrev pub dense_union : List ℤ → List ℤ → Layout
dense_union ts os = union_is Dense (Some os) ts (numbers_are (10 ∷ 20 ∷ [])) (bits_are (true ∷ []))

-- The second list of three, two numbers each.
abbrev pub sliced_pairs : Layout
sliced_pairs = array_is (single (fixed_list 2) (field_is (plain int32))) 1 None (fixed_lists 2) (one_child (numbers_are (3 ∷ 4 ∷ [])))

-- The keys "a", "b", "c" of the values 1, 2 and null.
abbrev pub three_pairs : Layout
three_pairs = array_is (group structure (both_fields (plain utf8) (plain int32))) 3 None records
    (two_children (texts_are 3 (0 ∷ 1 ∷ 2 ∷ 3 ∷ []) (codes "abc"))
    (array_is (plain int32) 3 (Some (true ∷ true ∷ false ∷ [])) (numbers Int32 (whole (pos 1) ∷ whole (pos 2) ∷ whole (pos 0) ∷ [])) no_layouts))

abbrev pub two_maps : Layout
two_maps = array_is (single (entries false) (field_is (group structure (both_fields (plain utf8) (plain int32))))) 2 None
    (maps (0 ∷ 1 ∷ 3 ∷ [])) (one_child three_pairs)

-- Five bits with a validity, a byte each. Texts with large offsets have 8 bytes for each. A slice
-- has one offset more than slots, and what they cut is written with it, level by level. The
-- children of a sparse union are cut too, those of a dense one are written whole.
pub record LengthRows : Type 0 where
  pub two_numbers : lengths_of (integers_are (negsuc 0 ∷ pos 1 ∷ [])) ≡ lengths_are (2 ∷ []) (0 ∷ 8 ∷ [])
  pub five_bits : lengths_of (array_is (plain boolean) 5 (Some (true ∷ true ∷ false ∷ true ∷ false ∷ [])) (truths (true ∷ true ∷ true ∷ true ∷ true ∷ []))
      no_layouts) ≡ lengths_are (5 ∷ []) (1 ∷ 1 ∷ [])
  pub nulls : lengths_of (nulls_are 3) ≡ lengths_are (3 ∷ []) []
  pub large_texts : lengths_of (array_is (plain large_utf8) 2 None (texts Int64 (0 ∷ 1 ∷ 3 ∷ []) (codes "abc")) no_layouts)
      ≡ lengths_are (2 ∷ []) (0 ∷ 24 ∷ 3 ∷ [])
  pub slice_of_bytes : lengths_of sliced_binary ≡ lengths_are (1 ∷ []) (0 ∷ 8 ∷ 2 ∷ [])
  pub slice_of_lists : lengths_of sliced_list ≡ lengths_are (2 ∷ 1 ∷ []) (0 ∷ 12 ∷ 0 ∷ 4 ∷ [])
  pub lists_in_lists : lengths_of list_of_lists ≡ lengths_are (1 ∷ 1 ∷ 1 ∷ []) (0 ∷ 8 ∷ 0 ∷ 8 ∷ 0 ∷ 4 ∷ [])
  pub structs : lengths_of struct_of_two ≡ lengths_are (4 ∷ 4 ∷ 4 ∷ []) (1 ∷ 0 ∷ 1 ∷ 0 ∷ 16 ∷ [])
  pub structs_in_lists : lengths_of list_of_records ≡ lengths_are (1 ∷ 2 ∷ 2 ∷ 2 ∷ []) (0 ∷ 8 ∷ 1 ∷ 0 ∷ 1 ∷ 0 ∷ 8 ∷ [])
  pub slice_of_pairs : lengths_of sliced_pairs ≡ lengths_are (1 ∷ 2 ∷ []) (0 ∷ 0 ∷ 8 ∷ [])
  pub map_of_two : lengths_of two_maps ≡ lengths_are (2 ∷ 3 ∷ 3 ∷ 3 ∷ []) (0 ∷ 12 ∷ 0 ∷ 0 ∷ 16 ∷ 3 ∷ 1 ∷ 12 ∷ [])
  pub sparse : lengths_of (union_is Sparse None (pos 1 ∷ pos 0 ∷ []) (numbers_are (2 ∷ 3 ∷ [])) (bits_are (false ∷ true ∷ [])))
      ≡ lengths_are (2 ∷ 2 ∷ 2 ∷ []) (2 ∷ 0 ∷ 8 ∷ 0 ∷ 1 ∷ [])
  pub dense : lengths_of (dense_union zero_one_zero (pos 0 ∷ pos 0 ∷ pos 1 ∷ [])) ≡ lengths_are (3 ∷ 2 ∷ 1 ∷ []) (3 ∷ 12 ∷ 0 ∷ 8 ∷ 0 ∷ 1 ∷ [])
  pub dense_slice : lengths_of (dense_union (pos 1 ∷ pos 0 ∷ []) (pos 0 ∷ pos 1 ∷ [])) ≡ lengths_are (2 ∷ 2 ∷ 1 ∷ []) (2 ∷ 8 ∷ 0 ∷ 8 ∷ 0 ∷ 1 ∷ [])
  pub body_of_structs : body_length (1 ∷ 0 ∷ 1 ∷ 0 ∷ 16 ∷ []) ≡ 192
  pub body_of_maps : body_length (0 ∷ 12 ∷ 0 ∷ 0 ∷ 16 ∷ 3 ∷ 1 ∷ 12 ∷ []) ≡ 320

-- ---- dictionaries

-- Keys of 32 bits, in a type with values of another.
abbrev pub keys_are : TypeTree → List ℤ → Layout → Layout
keys_are t ks values = array_is (dictionary integers.Int32 t false) (length ks) None (keys integers.Int32 ks) (one_child values)

-- Keys of texts.
abbrev pub keyed_texts : List ℤ → Layout → Layout
keyed_texts ks values = keys_are (plain utf8) ks values

abbrev pub dictionary_of_texts : TypeTree
dictionary_of_texts = dictionary integers.Int32 (plain utf8) false

abbrev pub zero_ids : IdTrees
zero_ids = more_ids (ids (Some (pos 0)) no_ids) no_ids

abbrev pub both_zero : IdTrees
both_zero = more_ids (ids (Some (pos 0)) no_ids) zero_ids

-- The texts "b", "a" by the values "a", "b".
abbrev pub b_then_a : Layout
b_then_a = keyed_texts (pos 1 ∷ pos 0 ∷ []) (texts_are 2 (0 ∷ 1 ∷ 2 ∷ []) (codes "ab"))

abbrev pub text_alone : List ℕ → Layout
text_alone xs = keyed_texts (pos 0 ∷ []) (texts_are 1 (0 ∷ 1 ∷ []) xs)

-- The text "a" of the values "x", "a", cut to the second.
abbrev pub second_text : Layout
second_text = keyed_texts (pos 0 ∷ []) (texts_are 1 (1 ∷ 2 ∷ []) (codes "xa"))

-- Lists of one text each, by keys, which are themselves under these keys.
abbrev pub keyed_lists : List ℤ → List ℤ → List ℕ → Layout
keyed_lists outer inner text = keys_are (single list (field (codes "item") dictionary_of_texts true [])) outer
    (array_is (single list (field (codes "item") dictionary_of_texts true [])) (length inner) None (lists Int32 Int32 (0 ∷ 1 ∷ 2 ∷ []))
    (one_child (keyed_texts inner (texts_are 2 (0 ∷ 1 ∷ 2 ∷ []) text))))

abbrev pub one_then_zero : IdTrees
one_then_zero = more_ids (ids (Some (pos 1)) no_ids) zero_ids

-- A dictionary has a message of its own, in which its values are a column. Inner values come before
-- those that contain them, and those of a column before those of the next.
pub record FilledRows : Type 0 where
  pub one_place : offer_of (b_then_a ∷ []) zero_ids ≡ record {
    columns = column_is dictionary_of_texts (text_slot (codes "b") ∷ text_slot (codes "a") ∷ []) ∷ [];
    dictionaries = record { id = pos 0; values = values_are (text_slot (codes "a") ∷ text_slot (codes "b") ∷ []) } ∷ [];
    nodes = 2 ∷ 2 ∷ [];
    bodies = (0 ∷ 12 ∷ 2 ∷ []) ∷ (0 ∷ 8 ∷ []) ∷ [];
  }
  pub nested_places : offer_of (keyed_lists (pos 0 ∷ pos 1 ∷ []) (pos 0 ∷ pos 1 ∷ []) (codes "pq") ∷ [])
      (more_ids (ids (Some (pos 0)) (more_ids (ids (Some (pos 1)) no_ids) no_ids)) no_ids) ≡ record {
        columns = column_is lists_of_texts (list_of_text (codes "p") ∷ list_of_text (codes "q") ∷ []) ∷ [];
        dictionaries = record { id = pos 1; values = values_are (text_slot (codes "p") ∷ text_slot (codes "q") ∷ []) }
            ∷ record { id = pos 0; values = record { type = single list (field (codes "item") dictionary_of_texts true []); slots = list_of_text (codes "p") ∷ list_of_text (codes "q") ∷ [] } } ∷ [];
        nodes = 2 ∷ 2 ∷ 2 ∷ 2 ∷ [];
        bodies = (0 ∷ 12 ∷ 2 ∷ []) ∷ (0 ∷ 12 ∷ 0 ∷ 8 ∷ []) ∷ (0 ∷ 8 ∷ []) ∷ [];
      }
  pub in_column_order : map (λ (p : Brought). p.id) (offer_of (text_alone (codes "a") ∷ text_alone (codes "b") ∷ []) one_then_zero).dictionaries ≡ pos 1 ∷ pos 0 ∷ []

-- ---- chunks

abbrev pub number : ℤ → Slot
number z = number_slot (whole z)

-- A list whose field has metadata of its own.
abbrev pub list_with : Pairs → TypeTree
list_with metadata = single list (field (codes "f") (plain int32) true metadata)

-- A dense union without slots, whose child has so many.
abbrev pub children_alone : ℕ → Layout
children_alone n = array_is (group (choice None Dense) (one_field (plain null))) 0 None (choices None [] (Some [])) (one_child (nulls_are n))

-- The demo's chunk, and a nested list, are accepted by a writer of their schema, and by no other.
-- Types are compared in their normal form, which leaves out the key of an extension without a name;
-- names of children count. Columns of one id have the same values, however they are laid out. A
-- length fits in a signed 64-bit integer.
pub record ChunkRows : Type 0 where
  pub demo_offer : offer_of demo no_ids ≡ record {
    columns = column_is (plain int32) (number (negsuc 0) ∷ number (pos 1) ∷ []) ∷ column_is (plain int32) (number (pos 1) ∷ number (negsuc 0) ∷ []) ∷ [];
    dictionaries = [];
    nodes = 2 ∷ 2 ∷ [];
    bodies = (0 ∷ 8 ∷ 0 ∷ 8 ∷ []) ∷ [];
  }
  pub demo_chunk : IsAcceptedChunk (both_fields (plain int32) (plain int32)) no_ids demo
  pub another_type : ¬ IsAcceptedChunk (both_fields (plain int32) (plain int64)) no_ids demo
  pub column_missing : ¬ IsAcceptedChunk (both_fields (plain int32) (plain int32)) no_ids (integers_are (pos 1 ∷ []) ∷ [])
  pub nested_list : IsAcceptedChunk (one_field (list_with ((data_key, codes "m") ∷ []))) no_ids (sliced_list ∷ [])
  pub another_metadata : ¬ IsAcceptedChunk (one_field (list_with ((codes "k", codes "m") ∷ []))) no_ids (sliced_list ∷ [])
  pub another_name : ¬ IsAcceptedChunk (one_field (single list (field (codes "g") (plain int32) true []))) no_ids (sliced_list ∷ [])
  pub same_values : IsAcceptedChunk (both_fields dictionary_of_texts dictionary_of_texts) both_zero (text_alone (codes "a") ∷ second_text ∷ [])
  pub other_values : ¬ IsAcceptedChunk (both_fields dictionary_of_texts dictionary_of_texts) both_zero (text_alone (codes "a") ∷ text_alone (codes "b") ∷ [])
  pub long_child : IsAcceptedChunk (one_field (group (choice None Dense) (one_field (plain null)))) no_ids (children_alone (2 ^ 63 - 1) ∷ [])
  pub longer_child : ¬ IsAcceptedChunk (one_field (group (choice None Dense) (one_field (plain null)))) no_ids (children_alone (2 ^ 63) ∷ [])
