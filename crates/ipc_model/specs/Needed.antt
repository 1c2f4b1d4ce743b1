-- How many bytes a column needs: what an array retains of it, without the values of dictionaries.
-- Contracts of readers cite none of this: they use `HeldListed` of `ipc_read_flat`.
-- (Arrow columnar format, "Buffer Listing for Each Layout".)
use Rattle.std.specs.Prelude.{ℕ, zero, suc, ◌+◌, ◌*◌, ◌≤◌, ◌==◌, List, if◌then◌else◌, Option, None, Some}
use Rattle.std.specs.List.{IsDistinct, sum_by}
use Rattle.lower.specs.declared.datatypes.UnionMode.TheVariants.{Sparse, Dense}
use Rattle.lower_types.specs.NumberTypes.{width_of}
use Rattle.ipc_model.specs.Batches.{kind_at, own, chosen, listed_bytes, IsBatch}
use Rattle.ipc_model.specs.Columns.{is_omitted, last_offset, IsWell}
use Rattle.ipc_model.specs.Entries.{Entries, size, node, listed, Limit, rows, times, bytes_for}
use Rattle.ipc_model.specs.Kinds.{offsets_32, OffsetWidth, offset_width, Kind, null_kind, boolean_kind, number_kind, float_kind, fixed_binary_kind, binary_kind, utf8_kind, list_kind, map_kind, fixed_list_kind, struct_kind, union_kind, dictionary_kind, extension_kind, Kinds, no_kinds, more_kinds, count, nodes, buffers}

-- The bytes of the validity of k slots; 0 if no slot is null.
abbrev pub validity_bytes : Entries → ℕ → ℕ → ℕ
validity_bytes s a k = if size (node s a).null_count == 0 then 0 else bytes_for k

-- The bytes of the k + 1 offsets of w bytes in buffer b; 0 if they are omitted.
abbrev pub offset_bytes : Entries → ℕ → ℕ → ℕ → ℕ
offset_bytes s b w k = if is_omitted s b k then 0 else w * (k + 1)

-- The bytes of the k + 1 offsets in buffer b, and the bytes that they cut into slots.
abbrev pub cut_bytes : Entries → ℕ → OffsetWidth → ℕ → ℕ
cut_bytes s b w k = offset_bytes s b (offset_width w) k + last_offset s b (offset_width w) k

abbrev mutual
  -- The bytes that the first slots of the column at node a and buffer b need, at all levels.
  pub needed : Entries → Kind → ℕ → ℕ → Limit → ℕ
  needed s null_kind a b limit = 0
  needed s boolean_kind a b limit = validity_bytes s a (rows s a limit) + bytes_for (rows s a limit)
  needed s (number_kind f) a b limit = validity_bytes s a (rows s a limit) + width_of f * rows s a limit
  needed s float_kind a b limit = 0
  needed s (fixed_binary_kind n) a b limit = validity_bytes s a (rows s a limit) + n * rows s a limit
  needed s (binary_kind w) a b limit = validity_bytes s a (rows s a limit) + cut_bytes s (b + 1) w (rows s a limit)
  needed s (utf8_kind w) a b limit = validity_bytes s a (rows s a limit) + cut_bytes s (b + 1) w (rows s a limit)
  needed s (list_kind w t) a b limit = validity_bytes s a (rows s a limit)
      + offset_bytes s (b + 1) (offset_width w) (rows s a limit)
      + needed s t (a + 1) (b + 2) (Some (last_offset s (b + 1) (offset_width w) (rows s a limit)))
  needed s (map_kind t) a b limit = validity_bytes s a (rows s a limit)
      + offset_bytes s (b + 1) (offset_width offsets_32) (rows s a limit)
      + needed s t (a + 1) (b + 2) (Some (last_offset s (b + 1) (offset_width offsets_32) (rows s a limit)))
  needed s (fixed_list_kind n t) a b limit = validity_bytes s a (rows s a limit) + needed s t (a + 1) (b + 1) (times limit n)
  needed s (struct_kind ts) a b limit = validity_bytes s a (rows s a limit) + all_needed s ts (a + 1) (b + 1) limit
  needed s (union_kind Sparse ids ts) a b limit = rows s a limit + all_needed s ts (a + 1) (b + s.extra + 1) limit
  needed s (union_kind Dense ids ts) a b limit = rows s a limit + 4 * rows s a limit + all_needed s ts (a + 1) (b + s.extra + 2) None
  needed s (dictionary_kind f id t) a b limit = validity_bytes s a (rows s a limit) + width_of f * rows s a limit
  needed s (extension_kind t) a b limit = needed s t a b limit

  -- The bytes that the first slots of some columns need, one after the other.
  pub all_needed : Entries → Kinds → ℕ → ℕ → Limit → ℕ
  all_needed s no_kinds a b limit = 0
  all_needed s (more_kinds t ts) a b limit = needed s t a b limit + all_needed s ts (a + nodes t) (b + buffers s.extra t) limit

-- The sum of the encoded lengths of n buffers from buffer b on.
abbrev pub listed_from : Entries → ℕ → ℕ → ℕ
listed_from s b zero = 0
listed_from s b (suc n) = listed s b + listed_from s (b + 1) n

-- A well formed column needs at most the encoded length of its buffers.
abbrev pub NeededLaw : Type 0
NeededLaw = (s : Entries) (t : Kind) (a b : ℕ) (limit : Limit) → IsWell s t a b limit
    → needed s t a b limit ≤ listed_from s b (buffers s.extra t)

-- All columns of a batch together need at most the size that its buffers may have.
abbrev pub BatchNeededLaw : Type 0
BatchNeededLaw = (s : Entries) (most : ℕ) (ts : Kinds) (limit : Limit) → IsBatch s most ts (chosen None (count ts)) limit
    → all_needed s ts 0 0 limit ≤ most

-- ---- chosen columns

-- No column is chosen twice.
abbrev pub IsOnce : Option (List ℕ) → Type 0
IsOnce None = Unit {0}
IsOnce (Some js) = IsDistinct (λ i j. i == j) js

-- The bytes that the chosen columns need, each read from its own entries.
abbrev pub columns_needed : Entries → Kinds → Limit → List ℕ → ℕ
columns_needed s ts limit js = sum_by (λ j. needed (own s ts j) (kind_at ts j) 0 0 limit) js

-- The encoded lengths of the chosen columns' own buffers.
abbrev pub columns_listed : Entries → Kinds → List ℕ → ℕ
columns_listed s ts js = sum_by (λ j. listed_bytes (own s ts j)) js

-- The chosen columns need at most the encoded lengths of their own buffers,
-- and these sum to at most `most`.
pub record NeedNoMore (s : Entries) (most : ℕ) (ts : Kinds) (js : List ℕ) (limit : Limit) : Type 0 where
  pub own_buffers : columns_needed s ts limit js ≤ columns_listed s ts js
  pub all_buffers : columns_listed s ts js ≤ most

-- The chosen columns of a batch, each chosen once, need at most the encoded lengths of their own
-- buffers. These sum to at most the size that all buffers may have.
abbrev pub ChosenNeededLaw : Type 0
ChosenNeededLaw = (s : Entries) (most : ℕ) (ts : Kinds) (projection : Option (List ℕ)) (limit : Limit) → IsOnce projection
    → IsBatch s most ts (chosen projection (count ts)) limit → NeedNoMore s most ts (chosen projection (count ts)) limit
