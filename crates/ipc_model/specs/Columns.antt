-- Which columns are well formed, and what their slots are. Nothing is parsed in sequence: each slot
-- is addressed by sums of counts over the whole message. All types, both byte orders and all
-- metadata versions are covered.
-- (Arrow columnar format, "Physical Memory Layout": validity bitmaps, and each layout by its name.)
use Rattle.std.specs.Prelude.{◌≡◌, ℕ, zero, suc, ℤ, pos, negsuc, ◌+◌, ◌-◌, ◌*◌, ◌^◌, ◌<◌, ◌≤◌, ◌==◌, ◌&&◌, Bool, true, List, [], map, length, slice_index_or, slice_range, unwrap_or, position, Option, Some, None, if◌then◌else◌, IsTrue, IsUtf8, All}
use Rattle.std.specs.List.{range_with_len, IsDistinct}
use Rattle.std.specs.Option.{option_map}
use Rattle.std.specs.Ordering.{int_eq}
use Rattle.lower.specs.declared.datatypes.UnionMode.TheVariants.{Sparse, Dense}
use Rattle.lower.specs.TypeTrees.{TypeTree}
use Rattle.lower_types.specs.NumberTypes.{width_of, number_in}
use Rattle.lower_types.specs.declared.PrimitiveType.{PrimitiveType}
use Rattle.lower_types.specs.declared.PrimitiveType.TheVariants.{Int8, Int32}
use Rattle.lower_arrays.specs.Slots.{Slot, null_slot, truth_slot, number_slot, bytes_slot, text_slot, list_slot, record_slot, variant_slot, Slots, no_slots, more_slots, slots_of}
use Rattle.ipc_model.specs.Kinds.{offsets_32, offset_width, Kind, null_kind, boolean_kind, number_kind, float_kind, fixed_binary_kind, binary_kind, utf8_kind, list_kind, map_kind, fixed_list_kind, struct_kind, union_kind, dictionary_kind, extension_kind, Kinds, no_kinds, more_kinds, count, nodes, buffers}
use Rattle.ipc_model.specs.Entries.{Entries, IsSize, size, IsIndex, node, bytes, listed, Need, Limit, rows, times, bytes_for, bit, value_bytes, integer, offset, Dictionary, dictionary_at}

-- ---- validity

-- Node a has a length that isn't negative; if some slot is null, the validity of the first
-- k slots is present in buffer b.
pub record Begins (s : Entries) (a b k : ℕ) : Type 0 where
  pub length_is : IsSize (node s a).length
  pub validity : 0 < size (node s a).null_count → Need s b (bytes_for k)

-- Slot i isn't null.
abbrev pub is_valid : Entries → ℕ → ℕ → ℕ → Bool
is_valid s a b i = if size (node s a).null_count == 0 then true else bit (bytes s b) i

-- Slot x, or null if slot i of the column is null.
abbrev pub masked : Entries → ℕ → ℕ → ℕ → Slot → Slot
masked s a b i x = if is_valid s a b i then x else null_slot

-- ---- offsets

-- The buffer of offsets is empty and no slot is read: then the only offset is 0.
abbrev pub is_omitted : Entries → ℕ → ℕ → Bool
is_omitted s b k = (k == 0) && (listed s b == 0)

-- The last of the k + 1 offsets of w bytes in buffer b.
abbrev pub last_offset : Entries → ℕ → ℕ → ℕ → ℕ
last_offset s b w k = if is_omitted s b k then 0 else offset s b w k

-- The k + 1 offsets of w bytes are present and never decrease. The last isn't negative
-- as a signed number, so none is.
pub record Offsets (s : Entries) (b w k : ℕ) : Type 0 where
  pub stored : Need s b (if is_omitted s b k then 0 else w * (k + 1))
  pub rising : (i : ℕ) → i < k → offset s b w i ≤ offset s b w (i + 1)
  pub small : last_offset s b w k < 2 ^ (8 * w - 1)

-- ---- bytes and texts, by the offsets in buffer b and the bytes in buffer b + 1

-- The bytes of slot i, by the offsets in buffer b.

abbrev pub bytes_at : Entries → ℕ → ℕ → ℕ → List ℕ
bytes_at s b w i = slice_range (bytes s (b + 1)) (offset s b w i) (offset s b w (i + 1))

-- The offsets of k slots in buffer b and the bytes up to the last of them are present.
pub record HasBytes (s : Entries) (b w k : ℕ) : Type 0 where
  pub offsets : Offsets s b w k
  pub values : Need s (b + 1) (last_offset s b w k)

-- Each of the k slots is valid UTF-8, null or not.
pub record AreTexts (s : Entries) (b w k : ℕ) : Type 0 where
  pub each : (i : ℕ) → i < k → IsUtf8 (bytes_at s b w i)

-- ---- unions

-- How many slots child n has; none after the last child.
abbrev pub child_rows : Entries → Kinds → ℕ → ℕ → ℕ
child_rows s no_kinds a n = 0
child_rows s (more_kinds t ts) a zero = rows s a None
child_rows s (more_kinds t ts) a (suc n) = child_rows s ts (a + nodes t) n

-- A union's type ids, if it has any, are one for each child, distinct, and from 0 to 126;
-- else they are 0, 1, 2 and so on.
abbrev pub AreUnionIds : Option (List ℤ) → ℕ → Type 0
AreUnionIds None n = Unit {0}
AreUnionIds (Some ids) n = (length ids ≡ n) × IsDistinct int_eq ids × All (λ x. IsIndex x 127) ids

-- A union has 1 to 127 children, and valid type ids.
pub record IsUnionKind (ids : Option (List ℤ)) (n : ℕ) : Type 0 where
  pub some : 1 ≤ n
  pub few : n ≤ 127
  pub distinct : AreUnionIds ids n

-- The index of the child that a type id names; n if none of the n children has it.
abbrev pub child_named : Option (List ℤ) → ℕ → ℤ → ℕ
child_named None n (pos m) = m
child_named None n (negsuc m) = n
child_named (Some ids) n z = unwrap_or (position (λ x. int_eq x z) ids) n

-- The type id of slot i, from buffer u.
abbrev pub type_at : Entries → ℕ → ℕ → ℤ
type_at s u i = integer s u Int8 i

-- The index of the child that slot i of a union is in.
abbrev pub child_at : Entries → Option (List ℤ) → ℕ → ℕ → ℕ → ℕ
child_at s ids n u i = child_named ids n (type_at s u i)

-- The type ids of k slots are present, and each names one of n children.
pub record HasTypes (s : Entries) (ids : Option (List ℤ)) (n u k : ℕ) : Type 0 where
  pub types : Need s u k
  pub named : (i : ℕ) → i < k → child_at s ids n u i < n

-- The offset of slot i of a dense union, from buffer b.
abbrev pub place_at : Entries → ℕ → ℕ → ℤ
place_at s b i = integer s b Int32 i

-- The offsets of k slots of a dense union are present, and each is the index of a
-- slot of the child that is named.
pub record Reaches (s : Entries) (ids : Option (List ℤ)) (ts : Kinds) (a u k : ℕ) : Type 0 where
  pub offsets : Need s (u + 1) (4 * k)
  pub inside : (i : ℕ) → i < k → IsIndex (place_at s (u + 1) i) (child_rows s ts a (child_at s ids (count ts) u i))

-- ---- dictionaries

-- The type of the values under a dictionary id.
abbrev pub values_type : Entries → Option ℤ → Option TypeTree
values_type s None = None
values_type s (Some id) = option_map (λ d. d.type) (dictionary_at s.dictionaries id)

-- The slots of a dictionary's values.
abbrev pub slots_in : Option Dictionary → List Slot
slots_in None = []
slots_in (Some d) = d.slots

-- The slots of the values under a dictionary id.
abbrev pub values_slots : Entries → Option ℤ → List Slot
values_slots s None = []
values_slots s (Some id) = slots_in (dictionary_at s.dictionaries id)

-- The id has values of this type, and each valid key is the index of one of them.
pub record HasValues (s : Entries) (f : PrimitiveType) (id : Option ℤ) (t : TypeTree) (a b k : ℕ) : Type 0 where
  pub known : values_type s id ≡ Some t
  pub inside : (i : ℕ) → i < k → IsTrue (is_valid s a b i)
      → IsIndex (integer s (b + 1) f i) (length (values_slots s id))

-- ---- columns

-- The child of a map is a struct of two fields.
abbrev pub IsPairKind : Kind → Type 0
IsPairKind (struct_kind (more_kinds key (more_kinds value no_kinds))) = Unit {0}
IsPairKind _ = ⊥

-- A struct has a field.
abbrev pub IsSome : Kinds → Type 0
IsSome no_kinds = ⊥
IsSome (more_kinds t ts) = Unit {0}

-- P holds of a column of n slots, which must be k.
abbrev pub WithRows : Type 0 → ℕ → ℕ → Type 0
WithRows P n k = P × (n ≡ k)

-- The first k slots of a list with offsets of w bytes are well formed. The child has as many slots
-- as the last offset says, and so many of them are read.
abbrev pub IsList : Entries → ℕ → ℕ → ℕ → ℕ → (Limit → Type 0) → Type 0
IsList s w a b k Child =
    Begins s a b k × Offsets s (b + 1) w k
    × WithRows (Child (Some (last_offset s (b + 1) w k))) (rows s (a + 1) (Some (last_offset s (b + 1) w k)))
    (last_offset s (b + 1) w k)

-- The column at node a has k slots under a limit, and P holds of that number.
abbrev pub HasRows : Entries → ℕ → Limit → ℕ → (ℕ → Type 0) → Type 0
HasRows s a limit k P = WithRows (P (rows s a limit)) (rows s a limit) k

abbrev mutual
  -- The first k slots of the column at node a and buffer b are well formed, by one case for each
  -- kind. Floats, and fixed sizes of 0, have none: such a column means nothing. The children of a
  -- struct and of a sparse union have as many slots as their parent. Each offset of a dense union,
  -- and each valid key, is the index of a slot that exists.
  pub AreWell : Entries → Kind → ℕ → ℕ → Limit → ℕ → Type 0
  AreWell s null_kind a b limit k = IsSize (node s a).length
  AreWell s boolean_kind a b limit k = Begins s a b k × Need s (b + 1) (bytes_for k)
  AreWell s (number_kind f) a b limit k = Begins s a b k × Need s (b + 1) (width_of f * k)
  AreWell s float_kind a b limit k = ⊥
  AreWell s (fixed_binary_kind n) a b limit k = (0 < n) × Begins s a b k × Need s (b + 1) (n * k)
  AreWell s (binary_kind w) a b limit k = Begins s a b k × HasBytes s (b + 1) (offset_width w) k
  AreWell s (utf8_kind w) a b limit k =
      Begins s a b k × HasBytes s (b + 1) (offset_width w) k × AreTexts s (b + 1) (offset_width w) k
  AreWell s (list_kind w t) a b limit k = IsList s (offset_width w) a b k
      (λ l. AreWell s t (a + 1) (b + 2) l (rows s (a + 1) l))
  AreWell s (map_kind t) a b limit k = IsPairKind t
      × IsList s (offset_width offsets_32) a b k (λ l. AreWell s t (a + 1) (b + 2) l (rows s (a + 1) l))
  AreWell s (fixed_list_kind n t) a b limit k =
      (0 < n) × Begins s a b k
      × HasRows s (a + 1) (times limit n) (k * n) (λ m. AreWell s t (a + 1) (b + 1) (times limit n) m)
  AreWell s (struct_kind ts) a b limit k = IsSome ts × Begins s a b k × AllHaveRows s ts (a + 1) (b + 1) limit k
  AreWell s (union_kind Sparse ids ts) a b limit k =
      IsSize (node s a).length × IsUnionKind ids (count ts) × HasTypes s ids (count ts) (b + s.extra) k
      × AllHaveRows s ts (a + 1) (b + s.extra + 1) limit k
  AreWell s (union_kind Dense ids ts) a b limit k =
      IsSize (node s a).length × IsUnionKind ids (count ts) × HasTypes s ids (count ts) (b + s.extra) k
      × Reaches s ids ts (a + 1) (b + s.extra) k × AllWell s ts (a + 1) (b + s.extra + 2)
  AreWell s (dictionary_kind f id t) a b limit k =
      Begins s a b k × Need s (b + 1) (width_of f * k) × HasValues s f id t a b k
  AreWell s (extension_kind t) a b limit k = AreWell s t a b limit k

  -- Each of some columns, one after the other, is well formed as far
  -- as it is read, and has k slots.
  pub AllHaveRows : Entries → Kinds → ℕ → ℕ → Limit → ℕ → Type 0
  AllHaveRows s no_kinds a b limit k = Unit {0}
  AllHaveRows s (more_kinds t ts) a b limit k =
      HasRows s a limit k (λ n. AreWell s t a b limit n)
      × AllHaveRows s ts (a + nodes t) (b + buffers s.extra t) limit k

  -- Each of some columns, one after the other, is well formed without a limit.
  pub AllWell : Entries → Kinds → ℕ → ℕ → Type 0
  AllWell s no_kinds a b = Unit {0}
  AllWell s (more_kinds t ts) a b = AreWell s t a b None (rows s a None)
      × AllWell s ts (a + nodes t) (b + buffers s.extra t)

-- The column at node a and buffer b is well formed, as far as the limit allows it to be read.
abbrev pub IsWell : Entries → Kind → ℕ → ℕ → Limit → Type 0
IsWell s t a b limit = AreWell s t a b limit (rows s a limit)

-- The slots of a child from one index up to another.
abbrev pub slots_between : (ℕ → Slot) → ℕ → ℕ → Slots
slots_between child from to = slots_of (map child (range_with_len from (to - from)))

-- A list slot: the slots of the child between offsets i and i + 1 of buffer b.
abbrev pub list_at : Entries → ℕ → ℕ → ℕ → (ℕ → Slot) → Slot
list_at s w b i child = list_slot (slots_between child (offset s b w i) (offset s b w (i + 1)))

abbrev mutual
  -- Slot i of the column at node a and buffer b. It knows no limit: `column`
  -- takes the slots that are read.
  pub slot_at : Entries → Kind → ℕ → ℕ → ℕ → Slot
  slot_at s null_kind a b i = null_slot
  slot_at s boolean_kind a b i = masked s a b i (truth_slot (bit (bytes s (b + 1)) i))
  slot_at s (number_kind f) a b i = masked s a b i
      (number_slot (number_in f s.order (value_bytes s (b + 1) (width_of f) i)))
  slot_at s float_kind a b i = null_slot
  slot_at s (fixed_binary_kind n) a b i = masked s a b i
      (bytes_slot (slice_range (bytes s (b + 1)) (n * i) (n * (i + 1))))
  slot_at s (binary_kind w) a b i = masked s a b i (bytes_slot (bytes_at s (b + 1) (offset_width w) i))
  slot_at s (utf8_kind w) a b i = masked s a b i (text_slot (bytes_at s (b + 1) (offset_width w) i))
  slot_at s (list_kind w t) a b i = masked s a b i
      (list_at s (offset_width w) (b + 1) i (λ j. slot_at s t (a + 1) (b + 2) j))
  slot_at s (map_kind t) a b i = masked s a b i
      (list_at s (offset_width offsets_32) (b + 1) i (λ j. slot_at s t (a + 1) (b + 2) j))
  slot_at s (fixed_list_kind n t) a b i =
      masked s a b i (list_slot (slots_between (λ j. slot_at s t (a + 1) (b + 1) j) (n * i) (n * (i + 1))))
  slot_at s (struct_kind ts) a b i = masked s a b i (record_slot (slots_at s ts (a + 1) (b + 1) i))
  slot_at s (union_kind Sparse ids ts) a b i =
      variant_slot (type_at s (b + s.extra) i)
      (child_slot s ts (a + 1) (b + s.extra + 1) (child_at s ids (count ts) (b + s.extra) i) i)
  slot_at s (union_kind Dense ids ts) a b i =
      variant_slot (type_at s (b + s.extra) i)
      (child_slot s ts (a + 1) (b + s.extra + 2) (child_at s ids (count ts) (b + s.extra) i)
      (size (place_at s (b + s.extra + 1) i)))
  slot_at s (dictionary_kind f id t) a b i =
      masked s a b i (slice_index_or (values_slots s id) (size (integer s (b + 1) f i)) null_slot)
  slot_at s (extension_kind t) a b i = slot_at s t a b i

  -- Slot i of each of some columns, one after the other.
  pub slots_at : Entries → Kinds → ℕ → ℕ → ℕ → Slots
  slots_at s no_kinds a b i = no_slots
  slots_at s (more_kinds t ts) a b i = more_slots (slot_at s t a b i)
      (slots_at s ts (a + nodes t) (b + buffers s.extra t) i)

  -- Slot i of child n.
  pub child_slot : Entries → Kinds → ℕ → ℕ → ℕ → ℕ → Slot
  child_slot s no_kinds a b n i = null_slot
  child_slot s (more_kinds t ts) a b zero i = slot_at s t a b i
  child_slot s (more_kinds t ts) a b (suc n) i = child_slot s ts (a + nodes t) (b + buffers s.extra t) n i

-- The slots of the column at node a and buffer b that are read under a limit.
abbrev pub column : Entries → Kind → ℕ → ℕ → Limit → List Slot
column s t a b limit = map (λ i. slot_at s t a b i) (range_with_len 0 (rows s a limit))
