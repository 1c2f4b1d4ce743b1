-- Columns as bytes, and what they mean. Beside most is one that has no meaning.
-- Mutated definitions fail here:
-- * without a union's extra buffer before version 5: `dense_buffers_before`,
--   `sparse_buffers_before`, and `ExtendLaw`
-- * with an empty buffer of offsets for any number of slots: `one_slot`, and `LimitLaw`
-- * with its parent's limit for the child of a fixed-size list: `fixed_limit`, and `LimitLaw`
-- (Arrow columnar format, "Physical Memory Layout".)
use Rattle.std.specs.Prelude.{◌≡◌, ℕ, pos, negsuc, ◌-◌, Bool, true, false, List, [], ◌∷◌, ◌++◌, length, map, replicate, if◌then◌else◌, Option, Some, None}
use Rattle.lower_types.specs.NumberTypes.{whole}
use Rattle.lower.specs.declared.datatypes.UnionMode.TheVariants.{Sparse, Dense}
use Rattle.lower_types.specs.declared.Endianness.TheVariants.{Little, Big}
use Rattle.lower_arrays.specs.Slots.{Slot, null_slot, truth_slot, number_slot, bytes_slot, text_slot, list_slot, record_slot, variant_slot, slots_of}
use Rattle.ipc_model.specs.Kinds.{offsets_32, Kind, null_kind, boolean_kind, binary_kind, utf8_kind, list_kind, map_kind, fixed_list_kind, struct_kind, union_kind, no_kinds, more_kinds, nodes, buffers}
use Rattle.ipc_model.specs.Entries.{Entries, Limit}
use Rattle.ipc_model.specs.Columns.{column}
use Rattle.ipc_model.specs.Tests.{is_well}
use Rattle.ipc_model.specs.Samples.{node_is, buffer_is, entries, int32, two}

-- ---- definitions for the cases

-- The slots of the first column, if it is well formed.
abbrev pub read : Kind → Limit → Entries → Option (List Slot)
read t limit s = if is_well s t 0 0 limit then Some (column s t 0 0 limit) else None

-- A buffer in a body, padded to 64 bytes.
abbrev pub padded : List ℕ → List ℕ
padded bytes = bytes ++ replicate (64 - length bytes) 0

abbrev pub word : ℕ → List ℕ
word n = n ∷ 0 ∷ 0 ∷ 0 ∷ []

abbrev pub number : ℕ → Slot
number n = number_slot (whole (pos n))

-- ---- flat columns

abbrev pub ones : List ℕ
ones = 0xFF ∷ 0xFF ∷ 0xFF ∷ 0xFF ∷ 1 ∷ 0 ∷ 0 ∷ 0 ∷ []

-- Numbers. A validity that isn't read may be anything, and one that is read must be valid. Nothing
-- is needed for no slot. Both byte orders.
pub record FlatRows : Type 0 where
  pub numbers : read int32 None
      (entries Little 0 (node_is 2 0 ∷ []) (record { offset = negsuc 4; length = pos 0 } ∷ buffer_is 0 8 ∷ []) ones)
      ≡ Some (number_slot (whole (negsuc 0)) ∷ number 1 ∷ [])
  pub no_validity : read int32 None
      (entries Little 0 (node_is 2 1 ∷ []) (record { offset = negsuc 4; length = pos 0 } ∷ buffer_is 0 8 ∷ []) ones)
      ≡ None
  pub a_null : read int32 None
      (entries Little 0 (node_is 2 1 ∷ []) (buffer_is 8 1 ∷ buffer_is 0 8 ∷ []) (ones ++ 2 ∷ []))
      ≡ Some (null_slot ∷ number 1 ∷ [])
  pub short : read int32 None (entries Little 0 (node_is 2 0 ∷ []) (buffer_is 0 0 ∷ buffer_is 0 7 ∷ []) ones) ≡ None
  pub cut_off : read int32 None (entries Little 0 (node_is 2 0 ∷ []) (buffer_is 0 0 ∷ buffer_is 1 8 ∷ []) ones) ≡ None
  pub empty : read int32 None (entries Little 0 (node_is 0 0 ∷ []) (buffer_is 0 0 ∷ buffer_is 1000000 0 ∷ []) [])
      ≡ Some []
  pub not_there : read int32 None (entries Little 0 (node_is 1 0 ∷ []) (buffer_is 0 0 ∷ buffer_is 1000000 0 ∷ []) [])
      ≡ None
  pub big_endian : read int32 None
      (entries Big 0 (node_is 1 0 ∷ []) (buffer_is 0 0 ∷ buffer_is 0 4 ∷ []) (0 ∷ 0 ∷ 0 ∷ 5 ∷ []))
      ≡ Some (number 5 ∷ [])
  pub bits : read boolean_kind None
      (entries Little 0 (node_is 5 0 ∷ []) (buffer_is 0 0 ∷ buffer_is 0 1 ∷ []) (0x14 ∷ []))
      ≡ Some (truth_slot false ∷ truth_slot false ∷ truth_slot true ∷ truth_slot false ∷ truth_slot true ∷ [])
  pub below_zero : read null_kind None
      (entries Little 0 (record { length = negsuc 0; null_count = pos 0 } ∷ []) [] []) ≡ None
  pub nulls : read null_kind (Some 2) (entries Little 0 (node_is 3 3 ∷ []) [] []) ≡ Some (null_slot ∷ null_slot ∷ [])

-- Bytes and texts. Each slot of a text is UTF-8, a null one too. An empty buffer of offsets means
-- the one offset 0, only if there is no slot.
pub record TextRows : Type 0 where
  pub sliced : read (binary_kind offsets_32) None
      (entries Little 0 (node_is 1 0 ∷ []) (buffer_is 0 0 ∷ buffer_is 0 8 ∷ buffer_is 64 2 ∷ [])
      (padded (word 0 ++ word 2) ++ 7 ∷ 8 ∷ []))
      ≡ Some (bytes_slot (7 ∷ 8 ∷ []) ∷ [])
  pub falling : read (binary_kind offsets_32) None
      (entries Little 0 (node_is 2 0 ∷ []) (buffer_is 0 0 ∷ buffer_is 0 12 ∷ buffer_is 12 2 ∷ []) (word 0 ++ word 2
      ++ word 1 ++ 7 ∷ 8 ∷ [])) ≡ None
  pub text : read (utf8_kind offsets_32) None
      (entries Little 0 (node_is 1 0 ∷ []) (buffer_is 0 0 ∷ buffer_is 0 8 ∷ buffer_is 8 2 ∷ []) (word 0 ++ word 2
      ++ 0xC3 ∷ 0xA9 ∷ []))
      ≡ Some (text_slot (0xC3 ∷ 0xA9 ∷ []) ∷ [])
  pub parted : read (utf8_kind offsets_32) None
      (entries Little 0 (node_is 2 0 ∷ []) (buffer_is 0 0 ∷ buffer_is 0 12 ∷ buffer_is 12 2 ∷ []) (word 0 ++ word 1
      ++ word 2 ++ 0xC3 ∷ 0xA9 ∷ [])) ≡ None
  pub under_null : read (utf8_kind offsets_32) None
      (entries Little 0 (node_is 1 1 ∷ []) (buffer_is 9 1 ∷ buffer_is 0 8 ∷ buffer_is 8 1 ∷ []) (word 0 ++ word 1
      ++ 0xFF ∷ 0 ∷ [])) ≡ None
  pub null_text : read (utf8_kind offsets_32) None
      (entries Little 0 (node_is 1 1 ∷ []) (buffer_is 9 1 ∷ buffer_is 0 8 ∷ buffer_is 8 1 ∷ []) (word 0 ++ word 1
      ++ 0x41 ∷ 0 ∷ [])) ≡ Some (null_slot ∷ [])
  pub omitted : read (utf8_kind offsets_32) None
      (entries Little 0 (node_is 0 0 ∷ []) (buffer_is 0 0 ∷ buffer_is 0 0 ∷ buffer_is 0 0 ∷ []) []) ≡ Some []
  pub one_slot : read (utf8_kind offsets_32) None
      (entries Little 0 (node_is 1 0 ∷ []) (buffer_is 0 0 ∷ buffer_is 0 0 ∷ buffer_is 0 0 ∷ []) []) ≡ None

-- ---- lists and structs

abbrev pub numbers_of : List ℕ → Slot
numbers_of ns = list_slot (slots_of (map number ns))

-- Offsets 0, 2, 2, 3, 5 of the numbers 1 to 5.
abbrev pub five_numbers : Entries
five_numbers = entries Little 0 (node_is 4 0 ∷ node_is 5 0 ∷ [])
    (buffer_is 0 0 ∷ buffer_is 0 20 ∷ buffer_is 20 0 ∷ buffer_is 20 20 ∷ [])
    (word 0 ++ word 2 ++ word 2 ++ word 3 ++ word 5 ++ word 1 ++ word 2 ++ word 3 ++ word 4 ++ word 5)

-- A list of two numbers, whose child has three.
abbrev pub three_for_a_pair : Entries
three_for_a_pair = entries Little 0 (node_is 1 0 ∷ node_is 3 0 ∷ []) (buffer_is 0 0 ∷ buffer_is 0 0 ∷ buffer_is 0 12 ∷ []) (word 3 ++ word 4 ++ word 5)

-- A list, as a whole, under a limit, and sliced; its child has as many slots as its last offset
-- says. Without a limit the child of a fixed-size list has no slot more.
pub record ListRows : Type 0 where
  pub all : read (list_kind offsets_32 int32) None five_numbers
      ≡ Some (numbers_of (1 ∷ 2 ∷ []) ∷ numbers_of [] ∷ numbers_of (3 ∷ []) ∷ numbers_of (4 ∷ 5 ∷ []) ∷ [])
  pub first_two : read (list_kind offsets_32 int32) (Some 2) five_numbers
      ≡ Some (numbers_of (1 ∷ 2 ∷ []) ∷ numbers_of [] ∷ [])
  pub few_offsets : read (list_kind offsets_32 int32) (Some 2)
      (entries Little 0 (node_is 4 0 ∷ node_is 5 0 ∷ [])
      (buffer_is 0 0 ∷ buffer_is 0 8 ∷ buffer_is 20 0 ∷ buffer_is 20 20 ∷ []) (word 0 ++ word 2 ++ word 2)) ≡ None
  pub sliced : read (list_kind offsets_32 int32) None
      (entries Little 0 (node_is 2 0 ∷ node_is 1 0 ∷ [])
      (buffer_is 0 0 ∷ buffer_is 0 12 ∷ buffer_is 64 0 ∷ buffer_is 64 4 ∷ []) (padded (word 0 ++ word 0 ++ word 1)
      ++ word 3))
      ≡ Some (numbers_of [] ∷ numbers_of (3 ∷ []) ∷ [])
  pub few : read (list_kind offsets_32 int32) None
      (entries Little 0 (node_is 2 0 ∷ node_is 0 0 ∷ [])
      (buffer_is 0 0 ∷ buffer_is 0 12 ∷ buffer_is 64 0 ∷ buffer_is 64 4 ∷ []) (padded (word 0 ++ word 0 ++ word 1)
      ++ word 3)) ≡ None
  pub fixed : read (fixed_list_kind 2 int32) None
      (entries Little 0 (node_is 1 0 ∷ node_is 2 0 ∷ []) (buffer_is 0 0 ∷ buffer_is 0 0 ∷ buffer_is 0 8 ∷ []) (word 3
      ++ word 4))
      ≡ Some (numbers_of (3 ∷ 4 ∷ []) ∷ [])
  pub fixed_limit : read (fixed_list_kind 2 int32) (Some 1)
      (entries Little 0 (node_is 3 0 ∷ node_is 6 0 ∷ []) (buffer_is 0 0 ∷ buffer_is 0 0 ∷ buffer_is 0 8 ∷ []) (word 3
      ++ word 4))
      ≡ Some (numbers_of (3 ∷ 4 ∷ []) ∷ [])
  pub fixed_few : read (fixed_list_kind 2 int32) None
      (entries Little 0 (node_is 1 0 ∷ node_is 1 0 ∷ []) (buffer_is 0 0 ∷ buffer_is 0 0 ∷ buffer_is 0 8 ∷ []) (word 3
      ++ word 4)) ≡ None
  pub fixed_zero : read (fixed_list_kind 0 int32) None
      (entries Little 0 (node_is 1 0 ∷ node_is 0 0 ∷ []) (buffer_is 0 0 ∷ buffer_is 0 0 ∷ buffer_is 0 0 ∷ []) [])
      ≡ None
  pub fixed_many : read (fixed_list_kind 2 int32) None three_for_a_pair ≡ None
  pub fixed_many_limited : read (fixed_list_kind 2 int32) (Some 1) three_for_a_pair ≡ Some (numbers_of (3 ∷ 4 ∷ []) ∷ [])

abbrev pub truth_and_number : Bool → ℕ → Slot
truth_and_number b n = record_slot (slots_of (truth_slot b ∷ number n ∷ []))

-- A struct whose third slot is null; its children have as many slots as it has, under a limit too.
pub record StructRows : Type 0 where
  pub third_null : read (struct_kind (two boolean_kind int32)) None
      (entries Little 0 (node_is 4 1 ∷ node_is 4 0 ∷ node_is 4 0 ∷ [])
      (buffer_is 0 1 ∷ buffer_is 64 0 ∷ buffer_is 64 1 ∷ buffer_is 128 0 ∷ buffer_is 128 16 ∷ [])
      (padded (0x0B ∷ []) ++ padded (0x0C ∷ []) ++ padded (word 42 ++ word 28 ++ word 19 ++ word 31)))
      ≡ Some (truth_and_number false 42 ∷ truth_and_number false 28 ∷ null_slot ∷ truth_and_number true 31 ∷ [])
  pub unequal : read (struct_kind (two int32 int32)) None
      (entries Little 0 (node_is 2 0 ∷ node_is 2 0 ∷ node_is 3 0 ∷ [])
      (buffer_is 0 0 ∷ buffer_is 0 0 ∷ buffer_is 0 8 ∷ buffer_is 8 0 ∷ buffer_is 8 12 ∷ []) (word 1 ++ word 2
      ++ word 3 ++ word 4 ++ word 5)) ≡ None
  pub two_rows : read (struct_kind (two int32 int32)) (Some 2)
      (entries Little 0 (node_is 2 0 ∷ node_is 2 0 ∷ node_is 3 0 ∷ [])
      (buffer_is 0 0 ∷ buffer_is 0 0 ∷ buffer_is 0 8 ∷ buffer_is 8 0 ∷ buffer_is 8 12 ∷ []) (word 1 ++ word 2
      ++ word 3 ++ word 4 ++ word 5))
      ≡ Some (record_slot (slots_of (number 1 ∷ number 3 ∷ [])) ∷ record_slot
      (slots_of (number 2 ∷ number 4 ∷ [])) ∷ [])
  pub no_child : read (struct_kind no_kinds) None (entries Little 0 (node_is 1 0 ∷ []) (buffer_is 0 0 ∷ []) []) ≡ None

-- ---- maps

-- Offsets 0, 1, 3, keys "a", "b", "c", values 1, 2, null.
abbrev pub map_entries : Entries
map_entries =
    entries Little 0 (node_is 2 0 ∷ node_is 3 0 ∷ node_is 3 0 ∷ node_is 3 1 ∷ [])
    (buffer_is 0 0 ∷ buffer_is 0 12 ∷ buffer_is 64 0 ∷ buffer_is 64 0 ∷ buffer_is 64 16 ∷ buffer_is 128 3 ∷ buffer_is 192 1 ∷ buffer_is 256 12 ∷ [])
    (padded (word 0 ++ word 1 ++ word 3) ++ padded (word 0 ++ word 1 ++ word 2 ++ word 3)
    ++ padded (0x61 ∷ 0x62 ∷ 0x63 ∷ [])
    ++ padded (3 ∷ []) ++ padded (word 1 ++ word 2 ++ word 0))

abbrev pub key_and_value : ℕ → Slot → Slot
key_and_value key value = record_slot (slots_of (text_slot (key ∷ []) ∷ value ∷ []))

-- The child of a map is a struct of two fields.
pub record MapRows : Type 0 where
  pub two_maps : read (map_kind (struct_kind (two (utf8_kind offsets_32) int32))) None map_entries
      ≡ Some (list_slot (slots_of (key_and_value 0x61 (number 1) ∷ [])) ∷ list_slot
      (slots_of (key_and_value 0x62 (number 2) ∷ key_and_value 0x63 null_slot ∷ [])) ∷ [])
  pub no_pair : read (map_kind (struct_kind (more_kinds (utf8_kind offsets_32) no_kinds))) None map_entries ≡ None

-- ---- unions

abbrev pub variant : ℕ → Slot → Slot
variant id x = variant_slot (pos id) x

-- The type ids 1, 0 with the numbers 2, 3 and the bits false, true.
abbrev pub sparse_entries : ℕ → Entries
sparse_entries extra =
    entries Little extra (node_is 2 0 ∷ node_is 2 0 ∷ node_is 2 0 ∷ [])
    (buffer_is 0 2 ∷ buffer_is 64 0 ∷ buffer_is 64 8 ∷ buffer_is 128 0 ∷ buffer_is 128 1 ∷ [])
    (padded (1 ∷ 0 ∷ []) ++ padded (word 2 ++ word 3) ++ padded (2 ∷ []))

-- Type ids and offsets with the numbers 10, 20 and a bit; the second offset must be 0.
abbrev pub dense_entries : ℕ → Entries
dense_entries offset =
    entries Little 0 (node_is 3 0 ∷ node_is 2 0 ∷ node_is 1 0 ∷ [])
    (buffer_is 0 3 ∷ buffer_is 64 12 ∷ buffer_is 128 0 ∷ buffer_is 128 8 ∷ buffer_is 192 0 ∷ buffer_is 192 1 ∷ [])
    (padded (0 ∷ 1 ∷ 0 ∷ []) ++ padded (word 0 ++ word offset ++ word 1) ++ padded (word 10 ++ word 20)
    ++ padded (1 ∷ []))

abbrev pub sparse : Kind
sparse = union_kind Sparse None (two int32 boolean_kind)

abbrev pub dense : Kind
dense = union_kind Dense None (two int32 boolean_kind)

-- Unions of both modes. Before version 5 a union has one more buffer, before its own: then
-- these entries have no meaning.
pub record UnionRows : Type 0 where
  pub two_variants : read sparse None (sparse_entries 0)
      ≡ Some (variant 1 (truth_slot false) ∷ variant 0 (number 3) ∷ [])
  pub older_version : read sparse None (sparse_entries 1) ≡ None
  pub in_front : read sparse None
      (entries Little 1 (node_is 1 0 ∷ node_is 1 0 ∷ node_is 1 0 ∷ [])
      (buffer_is 0 0 ∷ buffer_is 0 1 ∷ buffer_is 0 0 ∷ buffer_is 1 4 ∷ buffer_is 0 0 ∷ buffer_is 5 1 ∷ [])
      (0 ∷ word 7 ++ 0 ∷ []))
      ≡ Some (variant 0 (number 7) ∷ [])
  pub three_variants : read dense None (dense_entries 0)
      ≡ Some (variant 0 (number 10) ∷ variant 1 (truth_slot true) ∷ variant 0 (number 20) ∷ [])
  pub past_the_child : read dense None (dense_entries 1) ≡ None
  pub negative_offset : read (union_kind Dense None (more_kinds null_kind no_kinds)) None
      (entries Little 0 (node_is 1 0 ∷ node_is 4294967296 0 ∷ []) (buffer_is 0 1 ∷ buffer_is 1 4 ∷ [])
      (0 ∷ 0xFF ∷ 0xFF ∷ 0xFF ∷ 0xFF ∷ [])) ≡ None
  pub given_ids : read (union_kind Sparse (Some (pos 5 ∷ pos 9 ∷ [])) (two null_kind null_kind)) None
      (entries Little 0 (node_is 2 0 ∷ node_is 2 2 ∷ node_is 2 2 ∷ []) (buffer_is 0 2 ∷ []) (9 ∷ 5 ∷ []))
      ≡ Some (variant 9 null_slot ∷ variant 5 null_slot ∷ [])
  pub no_such_id : read (union_kind Sparse (Some (pos 5 ∷ pos 9 ∷ [])) (two null_kind null_kind)) None
      (entries Little 0 (node_is 2 0 ∷ node_is 2 2 ∷ node_is 2 2 ∷ []) (buffer_is 0 2 ∷ []) (9 ∷ 6 ∷ [])) ≡ None
  pub equal_ids : read (union_kind Sparse (Some (pos 5 ∷ pos 5 ∷ [])) (two null_kind null_kind)) None
      (entries Little 0 (node_is 0 0 ∷ node_is 0 0 ∷ node_is 0 0 ∷ []) (buffer_is 0 0 ∷ []) []) ≡ None
  pub under_a_list : read (list_kind offsets_32 (union_kind Sparse None (more_kinds int32 no_kinds))) None
      (entries Little 0 (node_is 1 0 ∷ node_is 3 0 ∷ node_is 3 0 ∷ [])
      (buffer_is 0 0 ∷ buffer_is 0 8 ∷ buffer_is 8 3 ∷ buffer_is 11 0 ∷ buffer_is 11 12 ∷ [])
      (word 0 ++ word 2 ++ 0 ∷ 0 ∷ 0 ∷ word 1 ++ word 2 ++ word 3))
      ≡ Some (list_slot (slots_of (variant 0 (number 1) ∷ variant 0 (number 2) ∷ [])) ∷ [])
  pub few_under_a_list : read (list_kind offsets_32 (union_kind Sparse None (more_kinds int32 no_kinds))) None
      (entries Little 0 (node_is 1 0 ∷ node_is 3 0 ∷ node_is 1 0 ∷ [])
      (buffer_is 0 0 ∷ buffer_is 0 8 ∷ buffer_is 8 3 ∷ buffer_is 11 0 ∷ buffer_is 11 12 ∷ [])
      (word 0 ++ word 2 ++ 0 ∷ 0 ∷ 0 ∷ word 1 ++ word 2 ++ word 3)) ≡ None

-- The nodes and buffers of a union of two flat columns, from version 5 on and before.
pub record CountRows : Type 0 where
  pub sparse_nodes : nodes sparse ≡ 3
  pub sparse_buffers : buffers 0 sparse ≡ 5
  pub sparse_buffers_before : buffers 1 sparse ≡ 6
  pub dense_nodes : nodes dense ≡ 3
  pub dense_buffers : buffers 0 dense ≡ 6
  pub dense_buffers_before : buffers 1 dense ≡ 7
