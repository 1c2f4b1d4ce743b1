-- The array that a column is read to is List if its offsets have 32 bits,
-- and LargeList if they have 64.
use Rattle.std.proofs.Common.{refl, ℕ, ℤ, ◌+◌, Option, None, Some}
use Rattle.lower.specs.TypeTrees.{TypeTree, FieldTrees}
use Rattle.lower.specs.declared.datatypes.UnionMode.TheVariants.{Sparse, Dense}
use Rattle.lower_arrays.specs.Cases.{HasListCases, HaveListCases}
use Rattle.lower_arrays.specs.Children.{child_fields}
use Rattle.lower_arrays.specs.Layouts.{Layout}
use Rattle.ipc_model.specs.Columns.{last_offset}
use Rattle.ipc_model.specs.Entries.{Entries, Limit, rows, times}
use Rattle.ipc_model.specs.Kinds.{offsets_32, offset_width, Kind, null_kind, boolean_kind, number_kind, float_kind, fixed_binary_kind, binary_kind, utf8_kind, list_kind, map_kind, fixed_list_kind, struct_kind, union_kind, dictionary_kind, extension_kind, Kinds, no_kinds, more_kinds, nodes, buffers}
use Rattle.ipc_model.specs.ReadArrays.{first_type, other_fields, array_at, arrays_at}

mutual
  pub read_cases : (s : Entries) (vs : Option ℤ → Layout) (t : Kind) (u : TypeTree) (a b : ℕ) (limit : Limit) → HasListCases (array_at s vs t u a b limit)
  read_cases s vs null_kind u a b limit = (tt, tt)
  read_cases s vs boolean_kind u a b limit = (tt, tt)
  read_cases s vs (number_kind f) u a b limit = (tt, tt)
  read_cases s vs float_kind u a b limit = (tt, tt)
  read_cases s vs (fixed_binary_kind n) u a b limit = (tt, tt)
  read_cases s vs (binary_kind w) u a b limit = (tt, tt)
  read_cases s vs (utf8_kind w) u a b limit = (tt, tt)
  read_cases s vs (list_kind w t) u a b limit =
      (refl, (read_cases s vs t (first_type (child_fields u)) (a + 1) (b + 2) (Some (last_offset s (b + 1) (offset_width w) (rows s a limit))), tt))
  read_cases s vs (map_kind t) u a b limit =
      (tt, (read_cases s vs t (first_type (child_fields u)) (a + 1) (b + 2) (Some (last_offset s (b + 1) (offset_width offsets_32) (rows s a limit))), tt))
  read_cases s vs (fixed_list_kind n t) u a b limit = (tt, (read_cases s vs t (first_type (child_fields u)) (a + 1) (b + 1) (times limit n), tt))
  read_cases s vs (struct_kind ts) u a b limit = (tt, all_read_cases s vs ts (child_fields u) (a + 1) (b + 1) limit)
  read_cases s vs (union_kind Sparse ids ts) u a b limit = (tt, all_read_cases s vs ts (child_fields u) (a + 1) (b + s.extra + 1) limit)
  read_cases s vs (union_kind Dense ids ts) u a b limit = (tt, all_read_cases s vs ts (child_fields u) (a + 1) (b + s.extra + 2) None)
  read_cases s vs (dictionary_kind f id t) u a b limit = (tt, tt)
  read_cases s vs (extension_kind t) u a b limit = read_cases s vs t u a b limit

  all_read_cases : (s : Entries) (vs : Option ℤ → Layout) (ts : Kinds) (fs : FieldTrees) (a b : ℕ) (limit : Limit) → HaveListCases (arrays_at s vs ts fs a b limit)
  all_read_cases s vs no_kinds fs a b limit = tt
  all_read_cases s vs (more_kinds t ts) fs a b limit =
      (read_cases s vs t (first_type fs) a b limit, all_read_cases s vs ts (other_fields fs) (a + nodes t) (b + buffers s.extra t) limit)
