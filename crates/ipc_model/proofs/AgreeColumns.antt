-- Columns by dictionaries that agree.
use Rattle.std.proofs.Common.{◌≡◌, ℕ, zero, suc, ℤ, ◌+◌, ◌*◌, ◌-◌, ◌&&◌, Bool, true, cond, nat_lt, List, [], ◌∷◌, map, length, slice_index_or, Option, Some, None, refl, ap, sym, ◌∙◌}
use Rattle.std.specs.List.{range_with_len}
use Rattle.std.specs.Option.{option_map}
use Rattle.lower.specs.declared.datatypes.UnionMode.TheVariants.{Sparse, Dense}
use Rattle.lower.specs.TypeTrees.{TypeTree}
use Rattle.lower_types.specs.NumberTypes.{width_of}
use Rattle.lower_types.specs.declared.PrimitiveType.{PrimitiveType}
use Rattle.lower_arrays.specs.Slots.{Slot, null_slot, list_slot, record_slot, variant_slot, more_slots, slots_of}
use Rattle.ipc_model.proofs.Decided.{well_decides}
use Rattle.ipc_model.specs.AgreeLaws.{AgreeUnder, AgreeFor, AgreeForAll, by_dictionaries, ColumnAgreeLaw}
use Rattle.ipc_model.specs.Columns.{is_valid, masked, last_offset, type_at, child_at, place_at, slots_in, slots_between, slot_at, slots_at, child_slot, column}
use Rattle.ipc_model.specs.Entries.{Entries, Dictionary, Dictionaries, size, node, Limit, rows, times, integer, offset}
use Rattle.ipc_model.specs.Kinds.{offsets_32, offset_width, Kind, null_kind, boolean_kind, number_kind, float_kind, fixed_binary_kind, binary_kind, utf8_kind, list_kind, map_kind, fixed_list_kind, struct_kind, union_kind, dictionary_kind, extension_kind, Kinds, no_kinds, more_kinds, count, nodes, buffers}
use Rattle.ipc_model.specs.Tests.{all_below, is_size, is_index, has_bytes, begins, has_offsets, is_union, has_types, reaches, is_type, has_dictionary, is_pair, is_some, with_rows, is_list, is_well, all_have_rows, all_well}

-- ---- whether they are well formed

-- The test of keys, by the values under an id.
abbrev keys_test : Entries → PrimitiveType → TypeTree → ℕ → ℕ → ℕ → Option Dictionary → Bool
keys_test s f t a b k o =
    is_type (option_map (λ d. d.type) o) t
    && all_below k (λ i. cond (is_valid s a b i) (is_index (integer s (b + 1) f i) (length (slots_in o))) true)

values_same : (s : Entries) (ds es : Dictionaries) (f : PrimitiveType) (id : Option ℤ) (t : TypeTree) (a b k : ℕ) → AgreeUnder ds es id
    → has_dictionary (by_dictionaries s ds) f id t a b k ≡ has_dictionary (by_dictionaries s es) f id t a b k
values_same s ds es f None t a b k h = refl
values_same s ds es f (Some id) t a b k h = ap (keys_test s f t a b k) h

list_same : (s : Entries) (ds es : Dictionaries) (w a b k : ℕ) (child child' : Limit → Bool) → ((l : Limit) → child l ≡ child' l)
    → is_list (by_dictionaries s ds) w a b k child ≡ is_list (by_dictionaries s es) w a b k child'
list_same s ds es w a b k child child' h =
    ap (λ v. begins s a b k && (has_offsets s (b + 1) w k && with_rows v (rows s (a + 1) (Some (last_offset s (b + 1) w k))) (last_offset s (b + 1) w k)))
    (h (Some (last_offset s (b + 1) w k)))

mutual
  pub test_same : (s : Entries) (ds es : Dictionaries) (t : Kind) (a b : ℕ) (limit : Limit) → AgreeFor ds es t
      → is_well (by_dictionaries s ds) t a b limit ≡ is_well (by_dictionaries s es) t a b limit
  test_same s ds es null_kind a b limit h = refl
  test_same s ds es boolean_kind a b limit h = refl
  test_same s ds es (number_kind f) a b limit h = refl
  test_same s ds es float_kind a b limit h = refl
  test_same s ds es (fixed_binary_kind n) a b limit h = refl
  test_same s ds es (binary_kind w) a b limit h = refl
  test_same s ds es (utf8_kind w) a b limit h = refl
  test_same s ds es (list_kind w t) a b limit h =
      list_same s ds es (offset_width w) a b (rows s a limit) (λ l. is_well (by_dictionaries s ds) t (a + 1) (b + 2) l) (λ l. is_well (by_dictionaries s es) t (a + 1) (b + 2) l)
      (λ l. test_same s ds es t (a + 1) (b + 2) l h)
  test_same s ds es (map_kind t) a b limit h =
      ap (λ v. is_pair t && v)
      (list_same s ds es (offset_width offsets_32) a b (rows s a limit) (λ l. is_well (by_dictionaries s ds) t (a + 1) (b + 2) l) (λ l. is_well (by_dictionaries s es) t (a + 1) (b + 2) l)
      (λ l. test_same s ds es t (a + 1) (b + 2) l h))
  test_same s ds es (fixed_list_kind n t) a b limit h =
      ap (λ v. nat_lt 0 n && (begins s a b (rows s a limit) && with_rows v (rows s (a + 1) (times limit n)) (rows s a limit * n)))
      (test_same s ds es t (a + 1) (b + 1) (times limit n) h)
  test_same s ds es (struct_kind ts) a b limit h =
      ap (λ v. is_some ts && (begins s a b (rows s a limit) && v)) (tests_same s ds es ts (a + 1) (b + 1) limit (rows s a limit) h)
  test_same s ds es (union_kind Sparse ids ts) a b limit h =
      ap (λ v. is_size (node s a).length && (is_union ids (count ts) && (has_types s ids (count ts) (b + s.extra) (rows s a limit) && v)))
      (tests_same s ds es ts (a + 1) (b + s.extra + 1) limit (rows s a limit) h)
  test_same s ds es (union_kind Dense ids ts) a b limit h =
      ap (λ v. is_size (node s a).length && (is_union ids (count ts) && (has_types s ids (count ts) (b + s.extra) (rows s a limit)
      && (reaches s ids ts (a + 1) (b + s.extra) (rows s a limit) && v))))
      (whole_same s ds es ts (a + 1) (b + s.extra + 2) h)
  test_same s ds es (dictionary_kind f id t) a b limit h =
      ap (λ v. begins s a b (rows s a limit) && (has_bytes s (b + 1) (width_of f * rows s a limit) && v)) (values_same s ds es f id t a b (rows s a limit) h)
  test_same s ds es (extension_kind t) a b limit h = test_same s ds es t a b limit h

  tests_same : (s : Entries) (ds es : Dictionaries) (ts : Kinds) (a b : ℕ) (limit : Limit) (k : ℕ) → AgreeForAll ds es ts
      → all_have_rows (by_dictionaries s ds) ts a b limit k ≡ all_have_rows (by_dictionaries s es) ts a b limit k
  tests_same s ds es no_kinds a b limit k h = refl
  tests_same s ds es (more_kinds t ts) a b limit k h =
      ap (λ v. with_rows v (rows s a limit) k && all_have_rows (by_dictionaries s ds) ts (a + nodes t) (b + buffers s.extra t) limit k) (test_same s ds es t a b limit h.0)
      ∙ ap (λ v. with_rows (is_well (by_dictionaries s es) t a b limit) (rows s a limit) k && v) (tests_same s ds es ts (a + nodes t) (b + buffers s.extra t) limit k h.1)

  whole_same : (s : Entries) (ds es : Dictionaries) (ts : Kinds) (a b : ℕ) → AgreeForAll ds es ts
      → all_well (by_dictionaries s ds) ts a b ≡ all_well (by_dictionaries s es) ts a b
  whole_same s ds es no_kinds a b h = refl
  whole_same s ds es (more_kinds t ts) a b h =
      ap (λ v. v && all_well (by_dictionaries s ds) ts (a + nodes t) (b + buffers s.extra t)) (test_same s ds es t a b None h.0)
      ∙ ap (λ v. is_well (by_dictionaries s es) t a b None && v) (whole_same s ds es ts (a + nodes t) (b + buffers s.extra t) h.1)

-- ---- their slots

pub mapped : {X Y : Type 0} (f g : X → Y) (xs : List X) → ((x : X) → f x ≡ g x) → map f xs ≡ map g xs
mapped f g [] h = refl
mapped f g (x ∷ xs) h = ap (λ y. y ∷ map f xs) (h x) ∙ ap (λ ys. g x ∷ ys) (mapped f g xs h)

between_same : (f g : ℕ → Slot) (from to : ℕ) → ((j : ℕ) → f j ≡ g j) → list_slot (slots_between f from to) ≡ list_slot (slots_between g from to)
between_same f g from to h = ap (λ xs. list_slot (slots_of xs)) (mapped f g (range_with_len from (to - from)) h)

mutual
  pub slot_same : (s : Entries) (ds es : Dictionaries) (t : Kind) (a b i : ℕ) → AgreeFor ds es t
      → slot_at (by_dictionaries s ds) t a b i ≡ slot_at (by_dictionaries s es) t a b i
  slot_same s ds es null_kind a b i h = refl
  slot_same s ds es boolean_kind a b i h = refl
  slot_same s ds es (number_kind f) a b i h = refl
  slot_same s ds es float_kind a b i h = refl
  slot_same s ds es (fixed_binary_kind n) a b i h = refl
  slot_same s ds es (binary_kind w) a b i h = refl
  slot_same s ds es (utf8_kind w) a b i h = refl
  slot_same s ds es (list_kind w t) a b i h =
      ap (λ x. masked s a b i x)
      (between_same (λ j. slot_at (by_dictionaries s ds) t (a + 1) (b + 2) j) (λ j. slot_at (by_dictionaries s es) t (a + 1) (b + 2) j)
      (offset s (b + 1) (offset_width w) i) (offset s (b + 1) (offset_width w) (i + 1)) (λ j. slot_same s ds es t (a + 1) (b + 2) j h))
  slot_same s ds es (map_kind t) a b i h =
      ap (λ x. masked s a b i x)
      (between_same (λ j. slot_at (by_dictionaries s ds) t (a + 1) (b + 2) j) (λ j. slot_at (by_dictionaries s es) t (a + 1) (b + 2) j)
      (offset s (b + 1) (offset_width offsets_32) i) (offset s (b + 1) (offset_width offsets_32) (i + 1)) (λ j. slot_same s ds es t (a + 1) (b + 2) j h))
  slot_same s ds es (fixed_list_kind n t) a b i h =
      ap (λ x. masked s a b i x)
      (between_same (λ j. slot_at (by_dictionaries s ds) t (a + 1) (b + 1) j) (λ j. slot_at (by_dictionaries s es) t (a + 1) (b + 1) j)
      (n * i) (n * (i + 1)) (λ j. slot_same s ds es t (a + 1) (b + 1) j h))
  slot_same s ds es (struct_kind ts) a b i h = ap (λ x. masked s a b i (record_slot x)) (slots_same s ds es ts (a + 1) (b + 1) i h)
  slot_same s ds es (union_kind Sparse ids ts) a b i h =
      ap (λ x. variant_slot (type_at s (b + s.extra) i) x)
      (child_same s ds es ts (a + 1) (b + s.extra + 1) (child_at s ids (count ts) (b + s.extra) i) i h)
  slot_same s ds es (union_kind Dense ids ts) a b i h =
      ap (λ x. variant_slot (type_at s (b + s.extra) i) x)
      (child_same s ds es ts (a + 1) (b + s.extra + 2) (child_at s ids (count ts) (b + s.extra) i) (size (place_at s (b + s.extra + 1) i)) h)
  slot_same s ds es (dictionary_kind f None t) a b i h = refl
  slot_same s ds es (dictionary_kind f (Some id) t) a b i h =
      ap (λ (o : Option Dictionary). masked s a b i (slice_index_or (slots_in o) (size (integer s (b + 1) f i)) null_slot)) h
  slot_same s ds es (extension_kind t) a b i h = slot_same s ds es t a b i h

  slots_same : (s : Entries) (ds es : Dictionaries) (ts : Kinds) (a b i : ℕ) → AgreeForAll ds es ts
      → slots_at (by_dictionaries s ds) ts a b i ≡ slots_at (by_dictionaries s es) ts a b i
  slots_same s ds es no_kinds a b i h = refl
  slots_same s ds es (more_kinds t ts) a b i h =
      ap (λ x. more_slots x (slots_at (by_dictionaries s ds) ts (a + nodes t) (b + buffers s.extra t) i)) (slot_same s ds es t a b i h.0)
      ∙ ap (λ xs. more_slots (slot_at (by_dictionaries s es) t a b i) xs) (slots_same s ds es ts (a + nodes t) (b + buffers s.extra t) i h.1)

  child_same : (s : Entries) (ds es : Dictionaries) (ts : Kinds) (a b n i : ℕ) → AgreeForAll ds es ts
      → child_slot (by_dictionaries s ds) ts a b n i ≡ child_slot (by_dictionaries s es) ts a b n i
  child_same s ds es no_kinds a b n i h = refl
  child_same s ds es (more_kinds t ts) a b zero i h = slot_same s ds es t a b i h.0
  child_same s ds es (more_kinds t ts) a b (suc n) i h = child_same s ds es ts (a + nodes t) (b + buffers s.extra t) n i h.1

-- ---- columns

pub column_same : (s : Entries) (ds es : Dictionaries) (t : Kind) (a b : ℕ) (limit : Limit) → AgreeFor ds es t
    → column (by_dictionaries s ds) t a b limit ≡ column (by_dictionaries s es) t a b limit
column_same s ds es t a b limit h =
    mapped (λ i. slot_at (by_dictionaries s ds) t a b i) (λ i. slot_at (by_dictionaries s es) t a b i) (range_with_len 0 (rows s a limit)) (λ i. slot_same s ds es t a b i h)

pub column_agree_law : ColumnAgreeLaw
column_agree_law s ds es t a b limit h =
    let test = test_same s ds es t a b limit h in
    let one = well_decides (by_dictionaries s ds) t a b limit in
    let other = well_decides (by_dictionaries s es) t a b limit in
    record { well = (λ v. other.0 (sym test ∙ one.1 v), λ v. one.0 (test ∙ other.1 v)); slots = column_same s ds es t a b limit h }
