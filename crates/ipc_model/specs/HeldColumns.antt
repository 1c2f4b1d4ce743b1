-- How many bytes the arrays retain that columns are read to: bitmaps, offsets, numbers and bytes at
-- every level, without the values of dictionaries. Only theorems and cases of this crate cite these
-- definitions; contracts of readers use `HeldListed` of `ipc_read_flat`.
-- (Arrow columnar format, "Buffer Listing for Each Layout".)
use Rattle.std.specs.Prelude.{ℕ, ℤ, ◌+◌, ◌≤◌, List, [], ◌∷◌, if◌then◌else◌, Option, None, Some}
use Rattle.std.specs.List.{sum_by}
use Rattle.lower.specs.TypeTrees.{TypeTree}
use Rattle.lower.specs.declared.datatypes.UnionMode.TheVariants.{Sparse, Dense}
use Rattle.lower_arrays.specs.Held.{held}
use Rattle.lower_arrays.specs.Layouts.{Layout}
use Rattle.ipc_model.specs.Batches.{kind_at, own, chosen, IsBatch}
use Rattle.ipc_model.specs.Columns.{is_omitted, last_offset}
use Rattle.ipc_model.specs.Entries.{Entries, Limit, rows, times}
use Rattle.ipc_model.specs.Kinds.{offsets_32, OffsetWidth, offset_width, Kind, null_kind, boolean_kind, number_kind, float_kind, fixed_binary_kind, binary_kind, utf8_kind, list_kind, map_kind, fixed_list_kind, struct_kind, union_kind, dictionary_kind, extension_kind, Kinds, no_kinds, more_kinds, count, nodes, buffers}
use Rattle.ipc_model.specs.Needed.{needed, IsOnce, columns_listed}
use Rattle.ipc_model.specs.ReadArrays.{array_at}

-- The bytes of the one offset that an array has if its offsets in buffer b are omitted; else 0.
abbrev pub omitted_offset : Entries → ℕ → OffsetWidth → ℕ → ℕ
omitted_offset s b w k = if is_omitted s b k then offset_width w else 0

abbrev mutual
  -- The bytes of the single offsets that stand for empty buffers of offsets, in the column at node
  -- a and buffer b, at all levels.
  pub omitted : Entries → Kind → ℕ → ℕ → Limit → ℕ
  omitted s null_kind a b limit = 0
  omitted s boolean_kind a b limit = 0
  omitted s (number_kind f) a b limit = 0
  omitted s float_kind a b limit = 0
  omitted s (fixed_binary_kind n) a b limit = 0
  omitted s (binary_kind w) a b limit = omitted_offset s (b + 1) w (rows s a limit)
  omitted s (utf8_kind w) a b limit = omitted_offset s (b + 1) w (rows s a limit)
  omitted s (list_kind w t) a b limit = omitted_offset s (b + 1) w (rows s a limit)
      + omitted s t (a + 1) (b + 2) (Some (last_offset s (b + 1) (offset_width w) (rows s a limit)))
  omitted s (map_kind t) a b limit = omitted_offset s (b + 1) offsets_32 (rows s a limit)
      + omitted s t (a + 1) (b + 2) (Some (last_offset s (b + 1) (offset_width offsets_32) (rows s a limit)))
  omitted s (fixed_list_kind n t) a b limit = omitted s t (a + 1) (b + 1) (times limit n)
  omitted s (struct_kind ts) a b limit = all_omitted s ts (a + 1) (b + 1) limit
  omitted s (union_kind Sparse ids ts) a b limit = all_omitted s ts (a + 1) (b + s.extra + 1) limit
  omitted s (union_kind Dense ids ts) a b limit = all_omitted s ts (a + 1) (b + s.extra + 2) None
  omitted s (dictionary_kind f id t) a b limit = 0
  omitted s (extension_kind t) a b limit = omitted s t a b limit

  -- The bytes of these single offsets in some columns, one after the other.
  pub all_omitted : Entries → Kinds → ℕ → ℕ → Limit → ℕ
  all_omitted s no_kinds a b limit = 0
  all_omitted s (more_kinds t ts) a b limit = omitted s t a b limit + all_omitted s ts (a + nodes t) (b + buffers s.extra t) limit

-- An array retains no more bytes than its column needs, plus one offset
-- for each empty buffer of offsets.
abbrev pub HoldsNeeded : Entries → Kind → ℕ → ℕ → Limit → Layout → Type 0
HoldsNeeded s t a b limit l = held l ≤ needed s t a b limit + omitted s t a b limit

-- Theorem: the array that a column is read to retains no more than `HoldsNeeded` says.
abbrev pub ReadHeldLaw : Type 0
ReadHeldLaw = (s : Entries) (vs : Option ℤ → Layout) (t : Kind) (u : TypeTree) (a b : ℕ) (limit : Limit)
    → HoldsNeeded s t a b limit (array_at s vs t u a b limit)

-- ---- chosen columns

-- The bytes of the single offsets in the chosen columns, each read from its own entries.
abbrev pub columns_omitted : Entries → Kinds → Limit → List ℕ → ℕ
columns_omitted s ts limit js = sum_by (λ j. omitted (own s ts j) (kind_at ts j) 0 0 limit) js

-- There is an array for each of these columns, which retains no more than its column needs.
abbrev pub AllHoldNeeded : Entries → Kinds → Limit → List ℕ → List Layout → Type 0
AllHoldNeeded s ts limit [] [] = Unit {0}
AllHoldNeeded s ts limit (j ∷ js) (l ∷ ls) = HoldsNeeded (own s ts j) (kind_at ts j) 0 0 limit l × AllHoldNeeded s ts limit js ls
AllHoldNeeded s ts limit _ _ = ⊥

-- Some arrays together retain at most the encoded length of their columns' own buffers, or `most`
-- bytes, plus the single offsets.
pub record HoldNoMore (s : Entries) (most : ℕ) (ts : Kinds) (js : List ℕ) (limit : Limit) (ls : List Layout) : Type 0 where
  pub own_buffers : sum_by held ls ≤ columns_listed s ts js + columns_omitted s ts limit js
  pub all_buffers : sum_by held ls ≤ most + columns_omitted s ts limit js

-- Theorem: the arrays of a batch's chosen columns, each chosen once, retain
-- no more than `HoldNoMore` says.
abbrev pub ChosenHeldLaw : Type 0
ChosenHeldLaw = (s : Entries) (most : ℕ) (ts : Kinds) (projection : Option (List ℕ)) (limit : Limit) (ls : List Layout) → IsOnce projection
    → IsBatch s most ts (chosen projection (count ts)) limit → AllHoldNeeded s ts limit (chosen projection (count ts)) ls
    → HoldNoMore s most ts (chosen projection (count ts)) limit ls
