-- Columns, and how many bytes they need.
-- (Arrow columnar format, "Buffer Listing for Each Layout".)
use Rattle.std.specs.Prelude.{◌≡◌, [], ◌∷◌, ◌++◌, Some, None}
use Rattle.lower_types.specs.declared.Endianness.TheVariants.{Little}
use Rattle.ipc_model.specs.Samples.{node_is, buffer_is, entries, int32, two}
use Rattle.ipc_examples.specs.ColumnRows.{padded, word, five_numbers, map_entries, ones, dense}
use Rattle.ipc_model.specs.Entries.{Entries}
use Rattle.ipc_model.specs.Kinds.{offsets_32, utf8_kind, list_kind, map_kind, fixed_list_kind, struct_kind}
use Rattle.ipc_model.specs.Needed.{needed, columns_needed, columns_listed}
use Rattle.ipc_examples.specs.SlicedRows.{sliced_entries}

-- Two columns of two numbers.
abbrev pub two_columns : Entries
two_columns = entries Little 0 (node_is 2 0 ∷ node_is 2 0 ∷ []) (buffer_is 0 0 ∷ buffer_is 0 8 ∷ buffer_is 0 0 ∷ buffer_is 64 8 ∷ []) (padded ones ++ padded ones)

-- Five offsets and five numbers; three and two under a limit. Numbers with a null have one byte for
-- its bit. Three offsets of two maps, four of the three keys, a byte each, three numbers and the
-- bits of their null. A slice of a dense union has two type ids and offsets, and its children
-- whole. Offsets that are omitted need nothing. A chosen column's own buffers count, also under a
-- limit; they count twice for a column that is chosen twice.
pub record NeededRows : Type 0 where
  pub whole_list : needed five_numbers (list_kind offsets_32 int32) 0 0 None ≡ 40
  pub first_lists : needed five_numbers (list_kind offsets_32 int32) 0 0 (Some 2) ≡ 20
  pub a_null : needed (entries Little 0 (node_is 2 1 ∷ []) (buffer_is 8 1 ∷ buffer_is 0 8 ∷ []) (ones ++ 2 ∷ [])) int32 0 0 None ≡ 9
  pub fixed_list : needed
      (entries Little 0 (node_is 3 0 ∷ node_is 6 0 ∷ []) (buffer_is 0 0 ∷ buffer_is 0 0 ∷ buffer_is 0 8 ∷ []) (word 3
      ++ word 4)) (fixed_list_kind 2 int32) 0 0 (Some 1) ≡ 8
  pub two_maps : needed map_entries (map_kind (struct_kind (two (utf8_kind offsets_32) int32))) 0 0 None ≡ 44
  pub sliced_union : needed (sliced_entries 2 1) dense 0 0 None ≡ 19
  pub omitted : needed (entries Little 0 (node_is 0 0 ∷ []) (buffer_is 0 0 ∷ buffer_is 0 0 ∷ buffer_is 0 0 ∷ []) [])
      (utf8_kind offsets_32) 0 0 None ≡ 0
  pub both_columns : columns_needed two_columns (two int32 int32) None (0 ∷ 1 ∷ []) ≡ 16
  pub second_column : columns_needed two_columns (two int32 int32) (Some 1) (1 ∷ []) ≡ 4
  pub second_listed : columns_listed two_columns (two int32 int32) (1 ∷ []) ≡ 8
  pub chosen_twice : columns_listed two_columns (two int32 int32) (0 ∷ 1 ∷ 1 ∷ []) ≡ 24
