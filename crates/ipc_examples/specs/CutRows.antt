-- Arrays, some of their slots, and bytes that mean these slots. Beside most are bytes that don't.
-- (Arrow columnar format, "Physical Memory Layout".)
use Rattle.std.specs.Prelude.{◌≡◌, ℕ, pos, true, false, List, [], ◌∷◌, ◌++◌, codes, replicate, Some, None}
use Rattle.lower.specs.TypeTrees.{boolean, int32, binary, fixed_list, plain, single}
use Rattle.lower.specs.declared.datatypes.UnionMode.TheVariants.{Sparse}
use Rattle.lower_types.specs.declared.Endianness.TheVariants.{Little}
use Rattle.lower_types.specs.declared.PrimitiveType.TheVariants.{Int32}
use Rattle.lower_arrays.specs.Cuts.{cut}
use Rattle.lower_arrays.specs.Layouts.{truths, bytes, fixed_lists, Layout, no_layouts, nulls_of}
use Rattle.lower_arrays.specs.Slots.{null_slot, truth_slot, slots}
use Rattle.ipc_model.specs.Accepted.{body_length}
use Rattle.ipc_model.specs.Samples.{node_is, buffer_is, entries, two, int32 as int32_kind, array_is, nulls_are}
use Rattle.ipc_examples.specs.ColumnRows.{read, padded, word, five_numbers, map_entries, sparse, sparse_entries, dense, dense_entries}
use Rattle.ipc_model.specs.Entries.{Entries}
use Rattle.ipc_model.specs.Kinds.{offsets_32, Kind, null_kind, boolean_kind, binary_kind, utf8_kind, list_kind, map_kind, fixed_list_kind, struct_kind}
use Rattle.ipc_examples.specs.OfferRows.{lengths_of, lengths_are, one_child, field_is, numbers_are, bits_are, list_of, union_is, zero_one_zero, dense_union, struct_of_two, two_maps}
use Rattle.ipc_examples.specs.SlicedRows.{sliced_entries}

-- ---- bits

-- The bits of the bytes 0, 0, 0, 15, three of the last, as the validity of 27 bits.
abbrev pub many_bits : Layout
many_bits = array_is (plain boolean) 27 (Some (replicate 24 false ++ true ∷ false ∷ true ∷ [])) (truths (replicate 27 true)) no_layouts

-- Five bits whose validity has so many bytes, and is this byte.
abbrev pub five_bits : ℕ → ℕ → Entries
five_bits listed byte = entries Little 0 (node_is 5 3 ∷ []) (buffer_is 0 listed ∷ buffer_is 64 1 ∷ []) (padded (byte ∷ []) ++ 0x1F ∷ [])

-- The bits of a slice count from its first slot. Unshifted bytes mean something else,
-- and a validity must have a byte.
pub record BitRows : Type 0 where
  pub packed : read boolean_kind None (five_bits 1 0x14) ≡ Some (slots (cut 22 5 many_bits))
  pub its_slots : slots (cut 22 5 many_bits) ≡ null_slot ∷ null_slot ∷ truth_slot true ∷ null_slot ∷ truth_slot true ∷ []
  pub as_they_stood : read boolean_kind None (five_bits 1 0) ≡ Some (replicate 5 null_slot)
  pub not_listed : read boolean_kind None (five_bits 0 0x14) ≡ None

-- ---- bytes and lists

abbrev pub two_binaries : Layout
two_binaries = array_is (plain binary) 2 None (bytes Int32 (0 ∷ 1 ∷ 3 ∷ []) (codes "abc")) no_layouts

-- The bytes "bc" by two offsets.
abbrev pub second_binary : ℕ → Entries
second_binary last = entries Little 0 (node_is 1 0 ∷ []) (buffer_is 0 0 ∷ buffer_is 0 8 ∷ buffer_is 64 2 ∷ [])
    (padded (word 0 ++ word last) ++ padded (codes "bc"))

abbrev pub four_lists : Layout
four_lists = list_of 4 (0 ∷ 2 ∷ 2 ∷ 3 ∷ 5 ∷ []) (numbers_are (1 ∷ 2 ∷ 3 ∷ 4 ∷ 5 ∷ [])) (plain int32)

-- Two lists by three offsets, with one number.
abbrev pub two_lists : List ℕ → Entries
two_lists offsets = entries Little 0 (node_is 2 0 ∷ node_is 1 0 ∷ []) (buffer_is 0 0 ∷ buffer_is 0 12 ∷ buffer_is 64 0 ∷ buffer_is 64 4 ∷ [])
    (padded offsets ++ padded (word 3))

abbrev pub list_kind_32 : Kind
list_kind_32 = list_kind offsets_32 int32_kind

-- Three lists of two numbers each.
abbrev pub three_pairs : Layout
three_pairs = array_is (single (fixed_list 2) (field_is (plain int32))) 3 None (fixed_lists 2) (one_child (numbers_are (1 ∷ 2 ∷ 3 ∷ 4 ∷ 5 ∷ 6 ∷ [])))

-- The second of these, whose numbers' node has this length.
abbrev pub second_pair : ℕ → Entries
second_pair n = entries Little 0 (node_is 1 0 ∷ node_is n 0 ∷ []) (buffer_is 0 0 ∷ buffer_is 0 0 ∷ buffer_is 0 8 ∷ []) (padded (word 3 ++ word 4))

-- The offsets of a slice count from its first one: unshifted offsets with the cut bytes have no
-- meaning. Under a limit the first slots are read.
pub record ListCutRows : Type 0 where
  pub second_bytes : read (binary_kind offsets_32) None (second_binary 2) ≡ Some (slots (cut 1 1 two_binaries))
  pub offset_kept : read (binary_kind offsets_32) None (second_binary 3) ≡ None
  pub middle_lists : read list_kind_32 None (two_lists (word 0 ++ word 0 ++ word 1)) ≡ Some (slots (cut 1 2 four_lists))
  pub offsets_kept : read list_kind_32 None (two_lists (word 2 ++ word 2 ++ word 3)) ≡ None
  pub first_lists : read list_kind_32 (Some 2) five_numbers ≡ Some (slots (cut 0 2 four_lists))
  pub second_pair_alone : read (fixed_list_kind 2 int32_kind) None (second_pair 2) ≡ Some (slots (cut 1 1 three_pairs))
  pub half_a_pair : read (fixed_list_kind 2 int32_kind) None (second_pair 1) ≡ None
  pub first_nulls : read null_kind (Some 2) (entries Little 0 (node_is 3 3 ∷ []) [] []) ≡ Some (slots (cut 0 2 (nulls_are 3)))
  pub null_count : nulls_of (nulls_are 3) ≡ 3
  pub both_maps : read (map_kind (struct_kind (two (utf8_kind offsets_32) int32_kind))) None map_entries ≡ Some (slots two_maps)

-- ---- structs and unions

-- Four structs, whose numbers' node has this length.
abbrev pub four_records : ℕ → Entries
four_records n = entries Little 0 (node_is 4 1 ∷ node_is 4 0 ∷ node_is n 0 ∷ [])
    (buffer_is 0 1 ∷ buffer_is 64 0 ∷ buffer_is 64 1 ∷ buffer_is 128 0 ∷ buffer_is 128 16 ∷ [])
    (padded (0x0B ∷ []) ++ padded (0x0C ∷ []) ++ padded (word 42 ++ word 28 ++ word 19 ++ word 31))

-- The type ids 0, 1, 0 with numbers and bits.
abbrev pub three_variants : Layout
three_variants = union_is Sparse None zero_one_zero (numbers_are (1 ∷ 2 ∷ 3 ∷ [])) (bits_are (true ∷ false ∷ true ∷ []))

-- Two of these slots, whose children's nodes have the length 3.
abbrev pub whole_children : Entries
whole_children = entries Little 0 (node_is 2 0 ∷ node_is 3 0 ∷ node_is 3 0 ∷ [])
    (buffer_is 0 2 ∷ buffer_is 64 0 ∷ buffer_is 64 12 ∷ buffer_is 128 0 ∷ buffer_is 128 1 ∷ [])
    (padded (1 ∷ 0 ∷ []) ++ padded (word 1 ++ word 2 ++ word 3) ++ padded (5 ∷ []))

abbrev pub dense_variants : Layout
dense_variants = dense_union zero_one_zero (pos 0 ∷ pos 0 ∷ pos 1 ∷ [])

-- The children of a struct and of a sparse union are sliced like their parent;
-- those of a dense union are whole.
pub record ChildCutRows : Type 0 where
  pub records : read (struct_kind (two boolean_kind int32_kind)) None (four_records 4) ≡ Some (slots struct_of_two)
  pub few_numbers : read (struct_kind (two boolean_kind int32_kind)) None (four_records 3) ≡ None
  pub sparse_slice : read sparse None (sparse_entries 0) ≡ Some (slots (cut 1 2 three_variants))
  pub sparse_whole : read sparse None whole_children ≡ None
  pub dense_whole : read dense None (dense_entries 0) ≡ Some (slots dense_variants)
  pub dense_slice : read dense None (sliced_entries 2 1) ≡ Some (slots (cut 1 2 dense_variants))

-- ---- lengths

-- The lengths of the nodes and of the buffers of these slices, and of their bodies. A slice of
-- lists takes fewer bytes than all of them.
pub record LengthCutRows : Type 0 where
  pub bits : lengths_of (cut 22 5 many_bits) ≡ lengths_are (5 ∷ []) (1 ∷ 1 ∷ [])
  pub second_bytes : lengths_of (cut 1 1 two_binaries) ≡ lengths_are (1 ∷ []) (0 ∷ 8 ∷ 2 ∷ [])
  pub middle_lists : lengths_of (cut 1 2 four_lists) ≡ lengths_are (2 ∷ 1 ∷ []) (0 ∷ 12 ∷ 0 ∷ 4 ∷ [])
  pub all_lists : lengths_of four_lists ≡ lengths_are (4 ∷ 5 ∷ []) (0 ∷ 20 ∷ 0 ∷ 20 ∷ [])
  pub second_pair_alone : lengths_of (cut 1 1 three_pairs) ≡ lengths_are (1 ∷ 2 ∷ []) (0 ∷ 0 ∷ 8 ∷ [])
  pub sparse_slice : lengths_of (cut 1 2 three_variants) ≡ lengths_are (2 ∷ 2 ∷ 2 ∷ []) (2 ∷ 0 ∷ 8 ∷ 0 ∷ 1 ∷ [])
  pub dense_slice : lengths_of (cut 1 2 dense_variants) ≡ lengths_are (2 ∷ 2 ∷ 1 ∷ []) (2 ∷ 8 ∷ 0 ∷ 8 ∷ 0 ∷ 1 ∷ [])
  pub body_of_bytes : body_length (0 ∷ 8 ∷ 2 ∷ []) ≡ 128
  pub body_of_lists : body_length (0 ∷ 12 ∷ 0 ∷ 4 ∷ []) ≡ 128
  pub body_of_a_pair : body_length (0 ∷ 0 ∷ 8 ∷ []) ≡ 64
  pub body_of_sparse : body_length (2 ∷ 0 ∷ 8 ∷ 0 ∷ 1 ∷ []) ≡ 192
  pub body_of_dense : body_length (2 ∷ 8 ∷ 0 ∷ 8 ∷ 0 ∷ 1 ∷ []) ≡ 256
  pub second_map : lengths_of (cut 1 1 two_maps) ≡ lengths_are (1 ∷ 2 ∷ 2 ∷ 2 ∷ []) (0 ∷ 8 ∷ 0 ∷ 0 ∷ 12 ∷ 2 ∷ 1 ∷ 8 ∷ [])
