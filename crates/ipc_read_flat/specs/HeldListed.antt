-- How many bytes the array of a column retains at most, by the encoded lengths of its
-- buffers. They are those of bitmaps, offsets, numbers and bytes at every level,
-- without the values of dictionaries.
-- (Arrow columnar format, "Buffer Listing for Each Layout".)
use Rattle.std.specs.Prelude.{ℕ, ◌+◌, ◌*◌, ◌≤◌, ◌==◌, List, length, if◌then◌else◌}
use Rattle.lower.specs.declared.datatypes.UnionMode.TheVariants.{Sparse, Dense}
use Rattle.lower.specs.Physical.{physical, integer}
use Rattle.lower.specs.TypeTrees.{plain}
use Rattle.lower_types.specs.NumberTypes.{width_of}
use Rattle.lower_types.specs.declared.PrimitiveType.{PrimitiveType}
use Rattle.lower_validation.specs.Keys.{KeysSeen}
use Rattle.lower_arrays.specs.Held.{validity_held, width_in, held, all_held}
use Rattle.lower_arrays.specs.Layouts.{Layout, Layouts}
use Rattle.ipc_model.specs.Entries.{Entries, listed}
use Rattle.ipc_model.specs.Kinds.{offsets_32, OffsetWidth, offset_width, Kind, null_kind, boolean_kind, number_kind, float_kind, fixed_binary_kind, binary_kind, utf8_kind, list_kind, map_kind, fixed_list_kind, struct_kind, union_kind, dictionary_kind, extension_kind, Kinds, no_kinds, more_kinds, buffers}
use Rattle.ipc_read_flat.specs.Kinds.{listed_in, all_listed}

-- The bytes of the one offset 0 that an array has if its buffer of offsets has n = 0 bytes; else 0.
abbrev pub empty_offset : OffsetWidth → ℕ → ℕ
empty_offset w n = if n == 0 then offset_width w else 0

abbrev mutual
  -- The bytes of these single offsets in the column at buffer b; buffer c
  -- has the encoded length `lists c`.
  pub empty_offsets : (ℕ → ℕ) → ℕ → Kind → ℕ → ℕ
  empty_offsets lists extra null_kind b = 0
  empty_offsets lists extra boolean_kind b = 0
  empty_offsets lists extra (number_kind f) b = 0
  empty_offsets lists extra float_kind b = 0
  empty_offsets lists extra (fixed_binary_kind n) b = 0
  empty_offsets lists extra (binary_kind w) b = empty_offset w (lists (b + 1))
  empty_offsets lists extra (utf8_kind w) b = empty_offset w (lists (b + 1))
  empty_offsets lists extra (list_kind w t) b = empty_offset w (lists (b + 1)) + empty_offsets lists extra t (b + 2)
  empty_offsets lists extra (map_kind t) b = empty_offset offsets_32 (lists (b + 1)) + empty_offsets lists extra t (b + 2)
  empty_offsets lists extra (fixed_list_kind n t) b = empty_offsets lists extra t (b + 1)
  empty_offsets lists extra (struct_kind ts) b = all_empty_offsets lists extra ts (b + 1)
  empty_offsets lists extra (union_kind Sparse ids ts) b = all_empty_offsets lists extra ts (b + extra + 1)
  empty_offsets lists extra (union_kind Dense ids ts) b = all_empty_offsets lists extra ts (b + extra + 2)
  empty_offsets lists extra (dictionary_kind f id t) b = 0
  empty_offsets lists extra (extension_kind t) b = empty_offsets lists extra t b

  -- The bytes of these single offsets in some columns, one after the other.
  pub all_empty_offsets : (ℕ → ℕ) → ℕ → Kinds → ℕ → ℕ
  all_empty_offsets lists extra no_kinds b = 0
  all_empty_offsets lists extra (more_kinds t ts) b = empty_offsets lists extra t b + all_empty_offsets lists extra ts (b + buffers extra t)

-- How many bytes the array of a column retains at most: the encoded length of its
-- buffers, and the single offsets.
abbrev pub most_held : Entries → ℕ → Kind → ℕ → ℕ
most_held s extra t b = listed_in s extra t b + empty_offsets (λ c. listed s c) extra t b

-- How many bytes the arrays of some columns retain at most.
abbrev pub all_most_held : Entries → ℕ → Kinds → ℕ → ℕ
all_most_held s extra ts b = all_listed s extra ts b + all_empty_offsets (λ c. listed s c) extra ts b

-- An array retains at most that.
abbrev pub HoldsListed : Entries → ℕ → Kind → ℕ → Layout → Type 0
HoldsListed s extra t b l = held l ≤ most_held s extra t b

-- Some arrays together retain at most that.
abbrev pub HoldAllListed : Entries → ℕ → Kinds → ℕ → Layouts → Type 0
HoldAllListed s extra ts b ls = all_held ls ≤ all_most_held s extra ts b

-- Offsets of the type p retain at most the encoded length of buffer b,
-- or one offset if that is empty.
abbrev pub HoldsOffsets : Entries → OffsetWidth → ℕ → PrimitiveType → List ℕ → Type 0
HoldsOffsets s w b p os = width_of p * length os ≤ listed s b + empty_offset w (listed s b)

-- The bytes of keys and of their validity.
abbrev pub keys_held : KeysSeen → ℕ
keys_held ks = validity_held ks.validity + width_in (physical (plain (integer ks.key))) * length ks.integers
