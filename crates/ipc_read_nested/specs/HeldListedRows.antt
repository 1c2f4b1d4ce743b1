-- Which single offsets stand for empty buffers of offsets, computed.
-- (Arrow columnar format, "Variable-size Binary Layout".)
use Rattle.std.specs.Prelude.{◌≡◌, ℕ, ◌≤◌, List, [], ◌∷◌, slice_index, None}
use Rattle.lower.specs.TypeTrees.{utf8, plain}
use Rattle.lower.specs.declared.datatypes.UnionMode.TheVariants.{Sparse, Dense}
use Rattle.lower_arrays.specs.Held.{held}
use Rattle.ipc_model.specs.Samples.{two, int32, read_array, no_texts}
use Rattle.ipc_model.specs.Kinds.{offsets_32, offsets_64, Kind, binary_kind, utf8_kind, list_kind, map_kind, fixed_list_kind, struct_kind, union_kind}
use Rattle.ipc_read_flat.specs.HeldListed.{empty_offsets, most_held}
use Rattle.ipc_read_flat.specs.Kinds.{listed_in}

-- The bytes of such offsets in the first column, whose buffers have these encoded lengths.
abbrev pub empty_of : ℕ → Kind → List ℕ → ℕ
empty_of extra t ns = empty_offsets (λ c. slice_index ns c) extra t 0

-- A validity, offsets and bytes: only the offsets count. The offsets of lists, and those of
-- the texts in them. A second field. Texts in a union, after its type ids, its offsets, and
-- the extra buffer before version 5. The array of no texts retains as much as it may, which is
-- more than the encoded lengths.
pub record HeldListedRows : Type 0 where
  pub none_listed : empty_of 0 (utf8_kind offsets_32) (0 ∷ 0 ∷ 0 ∷ []) ≡ 4
  pub one_listed : empty_of 0 (utf8_kind offsets_32) (0 ∷ 4 ∷ 0 ∷ []) ≡ 0
  pub large : empty_of 0 (binary_kind offsets_64) (9 ∷ 0 ∷ 9 ∷ []) ≡ 8
  pub both_levels : empty_of 0 (list_kind offsets_64 (utf8_kind offsets_32)) (0 ∷ 0 ∷ 0 ∷ 0 ∷ 0 ∷ []) ≡ 12
  pub inner_level : empty_of 0 (list_kind offsets_64 (utf8_kind offsets_32)) (0 ∷ 8 ∷ 0 ∷ 0 ∷ 0 ∷ []) ≡ 4
  pub outer_level : empty_of 0 (map_kind (struct_kind (two (utf8_kind offsets_32) int32))) (0 ∷ 0 ∷ 0 ∷ 0 ∷ 4 ∷ 0 ∷ 0 ∷ 0 ∷ []) ≡ 4
  pub below_sizes : empty_of 0 (fixed_list_kind 2 (utf8_kind offsets_32)) (9 ∷ 9 ∷ 0 ∷ 9 ∷ []) ≡ 4
  pub second_field : empty_of 0 (struct_kind (two (utf8_kind offsets_32) (utf8_kind offsets_64))) (9 ∷ 9 ∷ 9 ∷ 9 ∷ 9 ∷ 0 ∷ 9 ∷ []) ≡ 8
  pub sparse : empty_of 0 (union_kind Sparse None (two (utf8_kind offsets_32) int32)) (9 ∷ 9 ∷ 0 ∷ 9 ∷ 9 ∷ 9 ∷ []) ≡ 4
  pub dense : empty_of 0 (union_kind Dense None (two (utf8_kind offsets_32) int32)) (9 ∷ 9 ∷ 9 ∷ 0 ∷ 9 ∷ 9 ∷ 9 ∷ []) ≡ 4
  pub before_5 : empty_of 1 (union_kind Dense None (two (utf8_kind offsets_32) int32)) (9 ∷ 9 ∷ 9 ∷ 9 ∷ 0 ∷ 9 ∷ 9 ∷ 9 ∷ []) ≡ 4
  pub as_much : held (read_array (utf8_kind offsets_32) (plain utf8) None no_texts) ≡ most_held no_texts 0 (utf8_kind offsets_32) 0
  pub more_than_listed : ¬ (held (read_array (utf8_kind offsets_32) (plain utf8) None no_texts) ≤ listed_in no_texts 0 (utf8_kind offsets_32) 0)
