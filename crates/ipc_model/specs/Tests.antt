-- Whether a column is well formed, as tests that compute; the definitions
-- that they decide are in `Columns`.
-- (Arrow columnar format, "Physical Memory Layout".)
use Rattle.std.specs.Prelude.{ℕ, zero, suc, ℤ, pos, negsuc, ◌+◌, ◌*◌, ◌^◌, ◌-◌, ◌==◌, ◌&&◌, ◌||◌, not, nat_lt, nat_le, Bool, true, false, List, [], ◌∷◌, length, Option, Some, None, if◌then◌else◌}
use Rattle.std.specs.List.{list_all}
use Rattle.std.specs.Str.{is_utf8}
use Rattle.std.specs.Ordering.{int_eq}
use Rattle.lower.specs.declared.datatypes.UnionMode.TheVariants.{Sparse, Dense}
use Rattle.lower.specs.Same.{same_type}
use Rattle.lower.specs.TypeTrees.{TypeTree}
use Rattle.lower_types.specs.NumberTypes.{width_of}
use Rattle.lower_types.specs.declared.PrimitiveType.{PrimitiveType}
use Rattle.ipc_model.specs.Kinds.{offsets_32, offset_width, Kind, null_kind, boolean_kind, number_kind, float_kind, fixed_binary_kind, binary_kind, utf8_kind, list_kind, map_kind, fixed_list_kind, struct_kind, union_kind, dictionary_kind, extension_kind, Kinds, no_kinds, more_kinds, count, nodes, buffers}
use Rattle.ipc_model.specs.Entries.{Entries, size, node, buffer, bytes, listed, Limit, rows, times, bytes_for, integer, offset}
use Rattle.ipc_model.specs.Columns.{is_valid, is_omitted, last_offset, bytes_at, child_rows, child_at, place_at, values_type, values_slots}

-- A test passes for all numbers below n.
abbrev pub all_below : ℕ → (ℕ → Bool) → Bool
all_below zero test = true
all_below (suc n) test = test n && all_below n test

-- `IsSize` as a test.
abbrev pub is_size : ℤ → Bool
is_size (pos n) = true
is_size (negsuc n) = false

-- `IsIndex` as a test.
abbrev pub is_index : ℤ → ℕ → Bool
is_index (pos m) n = nat_lt m n
is_index (negsuc m) n = false

-- `Need` as a test.
abbrev pub has_bytes : Entries → ℕ → ℕ → Bool
has_bytes s b d = is_size (buffer s b).offset && (nat_le d (listed s b) && nat_le d (length (bytes s b)))

-- `Begins` as a test.
abbrev pub begins : Entries → ℕ → ℕ → ℕ → Bool
begins s a b k = is_size (node s a).length && ((size (node s a).null_count == 0) || has_bytes s b (bytes_for k))

-- `Offsets` as a test.
abbrev pub has_offsets : Entries → ℕ → ℕ → ℕ → Bool
has_offsets s b w k =
    has_bytes s b (if is_omitted s b k then 0 else w * (k + 1))
    && (all_below k (λ i. nat_le (offset s b w i) (offset s b w (i + 1)))
    && nat_lt (last_offset s b w k) (2 ^ (8 * w - 1)))

-- `HasBytes` as a test.
abbrev pub has_values : Entries → ℕ → ℕ → ℕ → Bool
has_values s b w k = has_offsets s b w k && has_bytes s (b + 1) (last_offset s b w k)

-- `AreTexts` as a test.
abbrev pub are_texts : Entries → ℕ → ℕ → ℕ → Bool
are_texts s b w k = all_below k (λ i. is_utf8 (bytes_at s b w i))

-- The elements are distinct.
abbrev pub are_distinct : List ℤ → Bool
are_distinct [] = true
are_distinct (x ∷ xs) = list_all (λ y. not (int_eq x y)) xs && are_distinct xs

-- `AreUnionIds` as a test.
abbrev pub are_ids : Option (List ℤ) → ℕ → Bool
are_ids None n = true
are_ids (Some ids) n = (length ids == n) && (are_distinct ids && list_all (λ x. is_index x 127) ids)

-- `IsUnionKind` as a test.
abbrev pub is_union : Option (List ℤ) → ℕ → Bool
is_union ids n = nat_le 1 n && (nat_le n 127 && are_ids ids n)

-- `HasTypes` as a test.
abbrev pub has_types : Entries → Option (List ℤ) → ℕ → ℕ → ℕ → Bool
has_types s ids n u k = has_bytes s u k && all_below k (λ i. nat_lt (child_at s ids n u i) n)

-- `Reaches` as a test.
abbrev pub reaches : Entries → Option (List ℤ) → Kinds → ℕ → ℕ → ℕ → Bool
reaches s ids ts a u k =
    has_bytes s (u + 1) (4 * k)
    && all_below k (λ i. is_index (place_at s (u + 1) i) (child_rows s ts a (child_at s ids (count ts) u i)))

-- A type is known and equal to t.
abbrev pub is_type : Option TypeTree → TypeTree → Bool
is_type None t = false
is_type (Some u) t = same_type u t

-- `HasValues` as a test.
abbrev pub has_dictionary : Entries → PrimitiveType → Option ℤ → TypeTree → ℕ → ℕ → ℕ → Bool
has_dictionary s f id t a b k =
    is_type (values_type s id) t
    && all_below k (λ i. if is_valid s a b i then is_index (integer s (b + 1) f i)
    (length (values_slots s id)) else true)

-- `IsPairKind` as a test.
abbrev pub is_pair : Kind → Bool
is_pair (struct_kind (more_kinds key (more_kinds value no_kinds))) = true
is_pair _ = false

-- `IsSome` as a test.
abbrev pub is_some : Kinds → Bool
is_some no_kinds = false
is_some (more_kinds t ts) = true

-- `WithRows` as a test.
abbrev pub with_rows : Bool → ℕ → ℕ → Bool
with_rows test n k = test && (n == k)

-- `IsList` as a test.
abbrev pub is_list : Entries → ℕ → ℕ → ℕ → ℕ → (Limit → Bool) → Bool
is_list s w a b k child =
    begins s a b k
    && (has_offsets s (b + 1) w k
    && with_rows (child (Some (last_offset s (b + 1) w k))) (rows s (a + 1) (Some (last_offset s (b + 1) w k)))
    (last_offset s (b + 1) w k))

abbrev mutual
  -- `IsWell` as a test.
  pub is_well : Entries → Kind → ℕ → ℕ → Limit → Bool
  is_well s null_kind a b limit = is_size (node s a).length
  is_well s boolean_kind a b limit = begins s a b (rows s a limit) && has_bytes s (b + 1) (bytes_for (rows s a limit))
  is_well s (number_kind f) a b limit = begins s a b (rows s a limit)
      && has_bytes s (b + 1) (width_of f * rows s a limit)
  is_well s float_kind a b limit = false
  is_well s (fixed_binary_kind n) a b limit =
      nat_lt 0 n && (begins s a b (rows s a limit) && has_bytes s (b + 1) (n * rows s a limit))
  is_well s (binary_kind w) a b limit = begins s a b (rows s a limit)
      && has_values s (b + 1) (offset_width w) (rows s a limit)
  is_well s (utf8_kind w) a b limit =
      begins s a b (rows s a limit)
      && (has_values s (b + 1) (offset_width w) (rows s a limit)
      && are_texts s (b + 1) (offset_width w) (rows s a limit))
  is_well s (list_kind w t) a b limit = is_list s (offset_width w) a b (rows s a limit)
      (λ l. is_well s t (a + 1) (b + 2) l)
  is_well s (map_kind t) a b limit = is_pair t
      && is_list s (offset_width offsets_32) a b (rows s a limit) (λ l. is_well s t (a + 1) (b + 2) l)
  is_well s (fixed_list_kind n t) a b limit =
      nat_lt 0 n
      && (begins s a b (rows s a limit)
      && with_rows (is_well s t (a + 1) (b + 1) (times limit n)) (rows s (a + 1) (times limit n))
      (rows s a limit * n))
  is_well s (struct_kind ts) a b limit =
      is_some ts && (begins s a b (rows s a limit) && all_have_rows s ts (a + 1) (b + 1) limit (rows s a limit))
  is_well s (union_kind Sparse ids ts) a b limit =
      is_size (node s a).length
      && (is_union ids (count ts)
      && (has_types s ids (count ts) (b + s.extra) (rows s a limit)
      && all_have_rows s ts (a + 1) (b + s.extra + 1) limit (rows s a limit)))
  is_well s (union_kind Dense ids ts) a b limit =
      is_size (node s a).length
      && (is_union ids (count ts)
      && (has_types s ids (count ts) (b + s.extra) (rows s a limit)
      && (reaches s ids ts (a + 1) (b + s.extra) (rows s a limit) && all_well s ts (a + 1) (b + s.extra + 2))))
  is_well s (dictionary_kind f id t) a b limit =
      begins s a b (rows s a limit)
      && (has_bytes s (b + 1) (width_of f * rows s a limit) && has_dictionary s f id t a b (rows s a limit))
  is_well s (extension_kind t) a b limit = is_well s t a b limit

  -- `AllHaveRows` as a test.
  pub all_have_rows : Entries → Kinds → ℕ → ℕ → Limit → ℕ → Bool
  all_have_rows s no_kinds a b limit k = true
  all_have_rows s (more_kinds t ts) a b limit k =
      with_rows (is_well s t a b limit) (rows s a limit) k
      && all_have_rows s ts (a + nodes t) (b + buffers s.extra t) limit k

  -- `AllWell` as a test.
  pub all_well : Entries → Kinds → ℕ → ℕ → Bool
  all_well s no_kinds a b = true
  all_well s (more_kinds t ts) a b = is_well s t a b None && all_well s ts (a + nodes t) (b + buffers s.extra t)
