-- How many bytes an array with children retains, by the encoded lengths of its buffers.
use Rattle.std.proofs.Common.{arith, ◌≡◌, ℕ, ℤ, ◌+◌, ◌*◌, ◌≤◌, ◌==◌, ◌&&◌, List, [], ◌∷◌, ◌++◌, length, Option, None, Some, ap, ◌∙◌}
use Rattle.lower.specs.TypeTrees.{TypeTree}
use Rattle.lower.specs.declared.datatypes.IntegerType.{IntegerType}
use Rattle.lower.specs.declared.datatypes.IntegerType.TheVariants as Integers
use Rattle.lower.specs.declared.datatypes.UnionMode.TheVariants.{Sparse, Dense}
use Rattle.lower_types.specs.declared.PrimitiveType.{PrimitiveType}
use Rattle.lower_types.specs.declared.PrimitiveType.TheVariants as Named
use Rattle.lower_flat_arrays.specs.Validities.{Validity}
use Rattle.lower_arrays.specs.Held.{validity_held, held, all_held}
use Rattle.lower_arrays.specs.Layouts.{Layout, layouts}
use Rattle.lower_arrays.specs.Lists.{list_seen, list_layout}
use Rattle.lower_arrays.specs.Maps.{map_seen, map_layout}
use Rattle.lower_arrays.specs.Unions.{union_seen, union_layout}
use Rattle.ipc_model.specs.Entries.{Entries, listed}
use Rattle.ipc_model.specs.Kinds.{offsets_32, OffsetWidth, Kind, list_kind, map_kind, fixed_list_kind, struct_kind, union_kind, Kinds}
use Rattle.ipc_read_nested.specs.FixedLevels.{sized_layout}
use Rattle.ipc_read_flat.specs.HeldListed.{HoldsListed, HoldAllListed, HoldsOffsets}
use Rattle.ipc_read_nested.specs.StructLevels.{records_layout}

-- ---- columns over others

module _ (s : Entries) (extra b : ℕ) (u : TypeTree) (v : Validity) (x : Layout) (mask : validity_held v ≤ listed s b) where
  pub list_held : (form : OffsetWidth) (t : Kind) (p : PrimitiveType) (os : List ℕ) (c : Layout) → x ≡ list_layout (list_seen u p os c v) → HoldsOffsets s form (b + 1) p os
      → HoldsListed s extra t (b + 2) c → HoldsListed s extra (list_kind form t) b x
  list_held form t p os c made o h = let e = ap held made in omega (arith, e, o, h, mask)

  pub map_held : (t : Kind) (os : List ℕ) (c : Layout) → x ≡ map_layout (map_seen u os c v) → HoldsOffsets s offsets_32 (b + 1) Named.Int32 os
      → HoldsListed s extra t (b + 2) c → HoldsListed s extra (map_kind t) b x
  map_held t os c made o h = let e = ap held made in omega (arith, e, o, h, mask)

  pub sized_held : (n m : ℕ) (t : Kind) (c : Layout) → x ≡ sized_layout u m n v c → HoldsListed s extra t (b + 1) c → HoldsListed s extra (fixed_list_kind n t) b x
  sized_held n m t c made h = let e = ap held made in omega (arith, e, h, mask)

  pub records_held : (m : ℕ) (ts : Kinds) (cs : List Layout) → x ≡ records_layout u m v cs → HoldAllListed s extra ts (b + 1) (layouts cs)
      → HoldsListed s extra (struct_kind ts) b x
  records_held m ts cs made h = let e = ap held made in omega (arith, e, h, mask)

module _ (s : Entries) (extra b : ℕ) (u : TypeTree) (ids : Option (List ℤ)) (ts : Kinds) (zs : List ℤ) (cs : List Layout) (x : Layout) (types : length zs ≤ listed s (b + extra)) where
  pub sparse_held : x ≡ union_layout (union_seen u zs cs None) → HoldAllListed s extra ts (b + extra + 1) (layouts cs) → HoldsListed s extra (union_kind Sparse ids ts) b x
  sparse_held made h = let e = ap held made in omega (arith, e, h, types)

  pub dense_held : (os : List ℤ) → x ≡ union_layout (union_seen u zs cs (Some os)) → 4 * length os ≤ listed s (b + extra + 1)
      → HoldAllListed s extra ts (b + extra + 2) (layouts cs) → HoldsListed s extra (union_kind Dense ids ts) b x
  dense_held os made o h = let e = ap held made in omega (arith, e, o, h, types)

-- ---- one column after the other

pub one_more_held : (cs : List Layout) (c : Layout) → all_held (layouts (cs ++ c ∷ [])) ≡ all_held (layouts cs) + held c
one_more_held [] c = omega arith
one_more_held (d ∷ cs) c = omega (arith, one_more_held cs c)
