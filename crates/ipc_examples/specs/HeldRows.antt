-- Columns, the arrays that they are read to, and how many bytes these retain. A definition by which
-- omitted offsets retain nothing fails `omitted_offset`, and `ReadHeldLaw`. One by which a sparse
-- union's children are read without its limit fails `ReadHeldLaw`.
-- (Arrow columnar format, "Buffer Listing for Each Layout".)
use Rattle.std.specs.Prelude.{◌≡◌, false, [], ◌∷◌, ◌++◌, Some, None}
use Rattle.lower.specs.TypeTrees.{TypeTree, boolean, int32, utf8, list, entries as map_of, structure, choice, plain, single, group}
use Rattle.lower.specs.declared.datatypes.UnionMode.TheVariants.{Dense}
use Rattle.lower_arrays.specs.Cuts.{cut}
use Rattle.lower_arrays.specs.Held.{held}
use Rattle.lower_arrays.specs.Slots.{slots}
use Rattle.ipc_model.specs.Samples.{two, int32 as int32_kind, read_array, no_texts}
use Rattle.ipc_examples.specs.ColumnRows.{word, numbers_of, five_numbers, map_entries, dense}
use Rattle.ipc_model.specs.Columns.{column}
use Rattle.ipc_examples.specs.CutRows.{many_bits, two_lists, list_kind_32, four_lists}
use Rattle.ipc_model.specs.HeldColumns.{omitted, HoldsNeeded}
use Rattle.ipc_model.specs.Kinds.{offsets_32, Kind, utf8_kind, map_kind, struct_kind}
use Rattle.ipc_model.specs.Needed.{needed}
use Rattle.ipc_examples.specs.OfferRows.{field_is, both_fields, b_then_a}
use Rattle.ipc_examples.specs.SlicedRows.{sliced_entries}

abbrev pub list_type : TypeTree
list_type = single list (field_is (plain int32))

abbrev pub pairs_kind : Kind
pairs_kind = map_kind (struct_kind (two (utf8_kind offsets_32) int32_kind))

abbrev pub pairs_type : TypeTree
pairs_type = single (map_of false) (field_is (group structure (both_fields (plain utf8) (plain int32))))

abbrev pub union_type : TypeTree
union_type = group (choice None Dense) (both_fields (plain int32) (plain boolean))

-- Five offsets and five numbers; three and two under a limit. Two maps: bytes, offsets, bits
-- and numbers. A slice of a dense union, and its children whole. No text needs a byte, and yet
-- there is one offset. 27 bits and their validity; and five of these. Keys, without their
-- values. An array with a whole child has the slots of the sliced column and retains more than
-- that needs: the column isn't read to it.
pub record HeldRows : Type 0 where
  pub lists : read_array list_kind_32 list_type None five_numbers ≡ four_lists
  pub whole_list : held (read_array list_kind_32 list_type None five_numbers) ≡ 40
  pub first_lists : held (read_array list_kind_32 list_type (Some 2) five_numbers) ≡ 20
  pub first_slots : slots (read_array list_kind_32 list_type (Some 2) five_numbers) ≡ numbers_of (1 ∷ 2 ∷ []) ∷ numbers_of [] ∷ []
  pub two_maps : held (read_array pairs_kind pairs_type None map_entries) ≡ 44
  pub map_slots : slots (read_array pairs_kind pairs_type None map_entries) ≡ column map_entries pairs_kind 0 0 None
  pub sliced_union : held (read_array dense union_type None (sliced_entries 2 1)) ≡ 19
  pub one_offset : held (read_array (utf8_kind offsets_32) (plain utf8) None no_texts) ≡ 4
  pub none_needed : needed no_texts (utf8_kind offsets_32) 0 0 None ≡ 0
  pub omitted_offset : omitted no_texts (utf8_kind offsets_32) 0 0 None ≡ 4
  pub bits : held many_bits ≡ 8
  pub five_of_them : held (cut 22 5 many_bits) ≡ 2
  pub keys_alone : held b_then_a ≡ 8
  pub slice : held (cut 1 2 four_lists) ≡ 32
  pub slice_slots : slots (cut 1 2 four_lists) ≡ column (two_lists (word 0 ++ word 0 ++ word 1)) list_kind_32 0 0 None
  pub slice_needs : needed (two_lists (word 0 ++ word 0 ++ word 1)) list_kind_32 0 0 None ≡ 16
  pub more_than_needed : ¬ HoldsNeeded (two_lists (word 0 ++ word 0 ++ word 1)) list_kind_32 0 0 None (cut 1 2 four_lists)
