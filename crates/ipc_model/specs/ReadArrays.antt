-- The array that a column is read to: of each buffer it has as much as its slots need. If offsets
-- are omitted, the array has the one offset 0. The contract of `ipc_read_nested` promises this
-- array; that of `ipc_read` promises the column's type and slots.
-- (Arrow columnar format, "Physical Memory Layout".)
use Rattle.std.specs.Prelude.{◌≡◌, ℕ, ℤ, ◌+◌, ◌*◌, ◌==◌, Bool, List, [], ◌∷◌, map, take, if◌then◌else◌, Option, None, Some}
use Rattle.std.specs.List.{range_with_len}
use Rattle.lower.specs.TypeTrees.{TypeTree, null, plain, FieldTrees, no_fields, more_fields}
use Rattle.lower.specs.declared.datatypes.IntegerType.{IntegerType}
use Rattle.lower.specs.declared.datatypes.IntegerType.TheVariants as integers
use Rattle.lower.specs.declared.datatypes.UnionMode.TheVariants.{Sparse, Dense}
use Rattle.lower_types.specs.NumberTypes.{Number, width_of, number_in}
use Rattle.lower_types.specs.declared.PrimitiveType.{PrimitiveType}
use Rattle.lower_types.specs.declared.PrimitiveType.TheVariants as numbers_in
use Rattle.lower_arrays.specs.Children.{child_fields, field_type}
use Rattle.lower_arrays.specs.Layouts.{Validity, Parts, nothing, truths, numbers, fixed_bytes, bytes, texts, lists, fixed_lists, maps, records, choices, keys, Level, Layout, layout, Layouts, no_layouts, more_layouts}
use Rattle.lower_arrays.specs.Slots.{slots}
use Rattle.ipc_model.specs.Columns.{is_omitted, last_offset, values_slots, IsWell, column}
use Rattle.ipc_model.specs.Entries.{Entries, size, node, bytes as bytes_in, Limit, rows, times, bit, value_bytes, integer, offset}
use Rattle.ipc_model.specs.Kinds.{OffsetWidth, offsets_32, offsets_64, offset_width, Kind, null_kind, boolean_kind, number_kind, float_kind, fixed_binary_kind, binary_kind, utf8_kind, list_kind, map_kind, fixed_list_kind, struct_kind, union_kind, dictionary_kind, extension_kind, Kinds, no_kinds, more_kinds, nodes, buffers}

-- ---- what it has of a buffer

-- The first k bits of buffer b.

abbrev pub bits_of : Entries → ℕ → ℕ → List Bool
bits_of s b k = map (λ i. bit (bytes_in s b) i) (range_with_len 0 k)

-- The validity of k slots; none if no slot is null.
abbrev pub validity_of : Entries → ℕ → ℕ → ℕ → Validity
validity_of s a b k = if size (node s a).null_count == 0 then None else Some (bits_of s b k)

-- The first k numbers of buffer b.
abbrev pub numbers_of : Entries → ℕ → PrimitiveType → ℕ → List Number
numbers_of s b f k = map (λ i. number_in f s.order (value_bytes s b (width_of f) i)) (range_with_len 0 k)

-- The first k integers of buffer b.
abbrev pub integers_of : Entries → ℕ → PrimitiveType → ℕ → List ℤ
integers_of s b f k = map (λ i. integer s b f i) (range_with_len 0 k)

-- The k + 1 offsets of w bytes in buffer b; the one offset 0 if they are omitted.
abbrev pub offsets_of : Entries → ℕ → ℕ → ℕ → List ℕ
offsets_of s b w k = if is_omitted s b k then 0 ∷ [] else map (λ i. offset s b w i) (range_with_len 0 (k + 1))

-- The first n bytes of buffer b.
abbrev pub bytes_of : Entries → ℕ → ℕ → List ℕ
bytes_of s b n = take n (bytes_in s b)

-- ---- types

-- The type of the integers that offsets are.

abbrev pub offset_type : OffsetWidth → PrimitiveType
offset_type offsets_32 = numbers_in.Int32
offset_type offsets_64 = numbers_in.Int64

-- The integer type of a dictionary's keys.
abbrev pub key_type : PrimitiveType → IntegerType
key_type numbers_in.Int16 = integers.Int16
key_type numbers_in.Int32 = integers.Int32
key_type numbers_in.Int64 = integers.Int64
key_type numbers_in.UInt8 = integers.UInt8
key_type numbers_in.UInt16 = integers.UInt16
key_type numbers_in.UInt32 = integers.UInt32
key_type numbers_in.UInt64 = integers.UInt64
key_type _ = integers.Int8

-- The type of the first field; the null type if there is no field.
abbrev pub first_type : FieldTrees → TypeTree
first_type no_fields = plain null
first_type (more_fields f fs) = field_type f

-- The fields after the first.
abbrev pub other_fields : FieldTrees → FieldTrees
other_fields no_fields = no_fields
other_fields (more_fields f fs) = fs

-- ---- the array

-- The children of an array that has one child.

abbrev pub only : Layout → Layouts
only c = more_layouts c no_layouts

-- A level of k slots of the column at node a and buffer b, with their validity.
abbrev pub masked_level : Entries → TypeTree → ℕ → ℕ → ℕ → Parts → Level
masked_level s u a b k p = record { type = u; len = k; validity = validity_of s a b k; parts = p }

-- A level of k slots without a validity.
abbrev pub whole_level : TypeTree → ℕ → Parts → Level
whole_level u k p = record { type = u; len = k; validity = None; parts = p }

-- The bytes of k slots, by the offsets in buffer b.
abbrev pub cut_by : (PrimitiveType → List ℕ → List ℕ → Parts) → Entries → ℕ → OffsetWidth → ℕ → Parts
cut_by parts s b w k = parts (offset_type w) (offsets_of s b (offset_width w) k) (bytes_of s (b + 1) (last_offset s b (offset_width w) k))

abbrev mutual
  -- The array of type u that the column at node a and buffer b is read to. `vs` gives the
  -- arrays of the dictionaries' values.
  pub array_at : Entries → (Option ℤ → Layout) → Kind → TypeTree → ℕ → ℕ → Limit → Layout
  array_at s vs null_kind u a b limit = layout (whole_level u (rows s a limit) nothing) no_layouts
  array_at s vs boolean_kind u a b limit =
      layout (masked_level s u a b (rows s a limit) (truths (bits_of s (b + 1) (rows s a limit)))) no_layouts
  array_at s vs (number_kind f) u a b limit =
      layout (masked_level s u a b (rows s a limit) (numbers f (numbers_of s (b + 1) f (rows s a limit)))) no_layouts
  array_at s vs float_kind u a b limit = layout (whole_level u (rows s a limit) nothing) no_layouts
  array_at s vs (fixed_binary_kind n) u a b limit =
      layout (masked_level s u a b (rows s a limit) (fixed_bytes n (bytes_of s (b + 1) (n * rows s a limit)))) no_layouts
  array_at s vs (binary_kind w) u a b limit =
      layout (masked_level s u a b (rows s a limit) (cut_by bytes s (b + 1) w (rows s a limit))) no_layouts
  array_at s vs (utf8_kind w) u a b limit =
      layout (masked_level s u a b (rows s a limit) (cut_by texts s (b + 1) w (rows s a limit))) no_layouts
  array_at s vs (list_kind w t) u a b limit =
      layout (masked_level s u a b (rows s a limit) (lists (offset_type w) (offset_type w) (offsets_of s (b + 1) (offset_width w) (rows s a limit))))
      (only (array_at s vs t (first_type (child_fields u)) (a + 1) (b + 2) (Some (last_offset s (b + 1) (offset_width w) (rows s a limit)))))
  array_at s vs (map_kind t) u a b limit =
      layout (masked_level s u a b (rows s a limit) (maps (offsets_of s (b + 1) (offset_width offsets_32) (rows s a limit))))
      (only (array_at s vs t (first_type (child_fields u)) (a + 1) (b + 2) (Some (last_offset s (b + 1) (offset_width offsets_32) (rows s a limit)))))
  array_at s vs (fixed_list_kind n t) u a b limit =
      layout (masked_level s u a b (rows s a limit) (fixed_lists n))
      (only (array_at s vs t (first_type (child_fields u)) (a + 1) (b + 1) (times limit n)))
  array_at s vs (struct_kind ts) u a b limit =
      layout (masked_level s u a b (rows s a limit) records) (arrays_at s vs ts (child_fields u) (a + 1) (b + 1) limit)
  array_at s vs (union_kind Sparse ids ts) u a b limit =
      layout (whole_level u (rows s a limit) (choices ids (integers_of s (b + s.extra) numbers_in.Int8 (rows s a limit)) None))
      (arrays_at s vs ts (child_fields u) (a + 1) (b + s.extra + 1) limit)
  array_at s vs (union_kind Dense ids ts) u a b limit =
      layout (whole_level u (rows s a limit) (choices ids (integers_of s (b + s.extra) numbers_in.Int8 (rows s a limit))
      (Some (integers_of s (b + s.extra + 1) numbers_in.Int32 (rows s a limit)))))
      (arrays_at s vs ts (child_fields u) (a + 1) (b + s.extra + 2) None)
  array_at s vs (dictionary_kind f id t) u a b limit =
      layout (masked_level s u a b (rows s a limit) (keys (key_type f) (integers_of s (b + 1) f (rows s a limit)))) (only (vs id))
  array_at s vs (extension_kind t) u a b limit = array_at s vs t u a b limit

  -- The arrays that some columns are read to, one after the other.
  pub arrays_at : Entries → (Option ℤ → Layout) → Kinds → FieldTrees → ℕ → ℕ → Limit → Layouts
  arrays_at s vs no_kinds fs a b limit = no_layouts
  arrays_at s vs (more_kinds t ts) fs a b limit =
      more_layouts (array_at s vs t (first_type fs) a b limit)
      (arrays_at s vs ts (other_fields fs) (a + nodes t) (b + buffers s.extra t) limit)

-- ---- its slots

-- The arrays of the dictionaries' values have the slots that are known under their ids.
pub record AreValues (s : Entries) (vs : Option ℤ → Layout) : Type 0 where
  pub each : (id : Option ℤ) → slots (vs id) ≡ values_slots s id

-- The array that a well formed column is read to has the column's slots.
abbrev pub ReadSlotsLaw : Type 0
ReadSlotsLaw = (s : Entries) (vs : Option ℤ → Layout) (t : Kind) (u : TypeTree) (a b : ℕ) (limit : Limit) → AreValues s vs
    → IsWell s t a b limit → slots (array_at s vs t u a b limit) ≡ column s t a b limit
