-- The array that a column is read to has the column's slots.
use Rattle.std.proofs.Common.{◌≡◌, ℕ, zero, suc, ℤ, pos, negsuc, ◌+◌, ◌-◌, ◌*◌, ◌<◌, ◌≤◌, ◌==◌, Bool, true, false, cond, List, [], ◌∷◌, map, length, take, drop, get_or, Option, None, Some, refl, sym, ap, ◌∙◌, subst, arith, inl, inr}
use Rattle.std.specs.Prelude.{slice_index, slice_index_or, slice_range, nat_lt}
use Rattle.std.specs.List.{range_with_len, position_or_len}
use Rattle.std.specs.Ordering.{int_eq}
use Rattle.std.proofs.Math.Nat.{mul-le-mul_left}
use Rattle.std.proofs.lemmas.Bool.{cases_Bool}
use Rattle.std.proofs.lemmas.List.{length-take-le, take-append-drop}
use Rattle.std.proofs.lemmas.List.FromFn.{get_or-map-range_with_len, length-map-range_with_len}
use Rattle.std.proofs.lemmas.List.Recursion.{is_position_or_len}
use Rattle.lower.specs.TypeTrees.{TypeTree, FieldTrees}
use Rattle.lower.specs.declared.datatypes.UnionMode.TheVariants.{Sparse, Dense}
use Rattle.lower_types.specs.NumberTypes.{whole, width_of, number_in}
use Rattle.lower_types.specs.declared.PrimitiveType.{PrimitiveType}
use Rattle.lower_types.specs.declared.PrimitiveType.TheVariants.{Int8, Int32}
use Rattle.lower_validation.specs.Ids.{place_among, child_number}
use Rattle.lower_validation.specs.Keys.{place_of}
use Rattle.lower_arrays.specs.Children.{child_fields}
use Rattle.lower_arrays.specs.Layouts.{Layout, len_of}
use Rattle.lower_arrays.specs.Slots.{Slot, null_slot, truth_slot, number_slot, bytes_slot, text_slot, list_slot, record_slot, variant_slot, more_slots, slots_of, slot_where, slots_from, list_at as array_list, each_at, slot_at as array_slot, children_at, slots, part, is_valid as array_valid}
use Rattle.ipc_model.proofs.Extended.{range_same, between_same, offset_below, index_size}
use Rattle.ipc_model.proofs.ExtendedSlots.{fixed_room}
use Rattle.ipc_model.proofs.Limits.{kept_high}
use Rattle.ipc_model.proofs.Prefixes.{slice-append}
use Rattle.ipc_model.specs.Columns.{is_valid, masked, last_offset, Offsets, bytes_at, HasBytes, child_rows, child_named, type_at, child_at, place_at, values_slots, IsWell, AllHaveRows, AllWell, list_at, slot_at, slots_at, child_slot}
use Rattle.ipc_model.specs.Entries.{Entries, size, node, bytes, Limit, rows, times, bit, value_bytes, integer, offset}
use Rattle.ipc_model.specs.Kinds.{offsets_32, offset_width, Kind, null_kind, boolean_kind, number_kind, float_kind, fixed_binary_kind, binary_kind, utf8_kind, list_kind, map_kind, fixed_list_kind, struct_kind, union_kind, dictionary_kind, extension_kind, Kinds, no_kinds, more_kinds, count, nodes, buffers}
use Rattle.ipc_model.specs.ReadArrays.{bits_of, validity_of, integers_of, offsets_of, bytes_of, first_type, other_fields, only, array_at, arrays_at, AreValues, ReadSlotsLaw}

-- ---- one level

from_map : (f : ℕ → Slot) (a n : ℕ) → slots_from f a n ≡ map f (range_with_len a n)
from_map f a zero = refl
from_map f a (suc n) = ap (λ xs. f a ∷ xs) (from_map f (a + 1) n)

where_same : (c d : Bool) (x y : Slot) → c ≡ d → (d ≡ true → x ≡ y) → slot_where c x ≡ cond d y null_slot
where_same true d x y e f = f (sym e) ∙ ap (λ t. cond t y null_slot) e
where_same false d x y e f = ap (λ t. cond t y null_slot) e

valid_is : (s : Entries) (a b k i : ℕ) → i < k → array_valid (validity_of s a b k) i ≡ is_valid s a b i
valid_is s a b k i h =
    elim (cases_Bool (size (node s a).null_count == 0)) [
      | inl e ↦ subst (λ (t : Bool). array_valid (cond t None (Some (bits_of s b k))) i ≡ cond t true (bit (bytes s b) i)) (sym e) refl
      | inr e ↦ subst (λ (t : Bool). array_valid (cond t None (Some (bits_of s b k))) i ≡ cond t true (bit (bytes s b) i)) (sym e)
          (get_or-map-range_with_len (λ j. bit (bytes s b) j) 0 k i i false h (omega arith))
    ]

masked_is : (s : Entries) (a b k i : ℕ) (x y : Slot) → i < k → x ≡ y → slot_where (array_valid (validity_of s a b k) i) x ≡ masked s a b i y
masked_is s a b k i x y h e = where_same (array_valid (validity_of s a b k) i) (is_valid s a b i) x y (valid_is s a b k i h) (λ _. e)

integer_is : (s : Entries) (b : ℕ) (f : PrimitiveType) (k i : ℕ) → i < k → get_or (integers_of s b f k) i (pos 0) ≡ integer s b f i
integer_is s b f k i h = get_or-map-range_with_len (λ j. integer s b f j) 0 k i i (pos 0) h (omega arith)

-- ---- offsets and bytes

offset_is : (s : Entries) (b w k i : ℕ) → 0 < k → i ≤ k → slice_index (offsets_of s b w k) i ≡ offset s b w i
offset_is s b w k i some h =
    subst (λ (t : Bool). slice_index (cond t (0 ∷ []) (map (λ j. offset s b w j) (range_with_len 0 (k + 1)))) i ≡ offset s b w i)
    (sym (kept_high s b k some))
    (get_or-map-range_with_len (λ j. offset s b w j) 0 (k + 1) i i 0 (omega arith) (omega arith))

slice_first : (xs : List ℕ) (n x y : ℕ) → x ≤ y → y ≤ n → n ≤ length xs → slice_range (take n xs) x y ≡ slice_range xs x y
slice_first xs n x y h k l =
    sym (slice-append (take n xs) (drop n xs) x y h (omega (arith, k, length-take-le n xs l)))
    ∙ ap (λ zs. slice_range zs x y) (take-append-drop n xs)

bytes_is : (s : Entries) (b w k i : ℕ) → HasBytes s b w k → i < k
    → slice_range (bytes_of s (b + 1) (last_offset s b w k)) (slice_index (offsets_of s b w k) i) (slice_index (offsets_of s b w k) (i + 1)) ≡ bytes_at s b w i
bytes_is s b w k i v h =
    let some : 0 < k = omega arith in
    let held : List ℕ = bytes_of s (b + 1) (last_offset s b w k) in
    ap (λ x. slice_range held x (slice_index (offsets_of s b w k) (i + 1))) (offset_is s b w k i some (omega arith))
    ∙ ap (λ y. slice_range held (offset s b w i) y) (offset_is s b w k (i + 1) some (omega arith))
    ∙ slice_first (bytes s (b + 1)) (last_offset s b w k) (offset s b w i) (offset s b w (i + 1)) (v.offsets.rising i h)
    (offset_below s b w k (i + 1) v.offsets some (omega arith)) v.values.2

fixed_is : (s : Entries) (b n k i : ℕ) → i < k → n * k ≤ length (bytes s b) → part (i * n) n (bytes_of s b (n * k)) ≡ slice_range (bytes s b) (n * i) (n * (i + 1))
fixed_is s b n k i h room =
    let up : n * i ≤ n * (i + 1) = let le : i ≤ i + 1 = omega arith in mul-le-mul_left n le in
    ap (λ x. take n (drop x (bytes_of s b (n * k)))) (let e : i * n ≡ n * i = omega arith in e)
    ∙ ap (λ m. take m (drop (n * i) (bytes_of s b (n * k)))) (let e : n ≡ n * (i + 1) - n * i = omega arith in e)
    ∙ slice_first (bytes s b) (n * k) (n * i) (n * (i + 1)) up (omega (arith, fixed_room n i k h)) room

-- ---- lists

lists_is : (s : Entries) (b w k i : ℕ) (c : Layout) (g : ℕ → Slot) → Offsets s b w k → i < k → ((j : ℕ) → j < last_offset s b w k → array_slot c j ≡ g j)
    → array_list (children_at (only c)) (slice_index (offsets_of s b w k) i) (slice_index (offsets_of s b w k) (i + 1) - slice_index (offsets_of s b w k) i) ≡ list_at s w b i g
lists_is s b w k i c g o h each =
    let some : 0 < k = omega arith in
    let os : List ℕ = offsets_of s b w k in
    let far = offset_below s b w k (i + 1) o some (omega arith) in
    ap (λ x. array_list (children_at (only c)) x (slice_index os (i + 1) - x)) (offset_is s b w k i some (omega arith))
    ∙ ap (λ y. array_list (children_at (only c)) (offset s b w i) (y - offset s b w i)) (offset_is s b w k (i + 1) some (omega arith))
    ∙ ap (λ xs. list_slot (slots_of xs)) (from_map (array_slot c) (offset s b w i) (offset s b w (i + 1) - offset s b w i))
    ∙ ap list_slot (between_same (array_slot c) g (offset s b w i) (offset s b w (i + 1)) (λ j r. each j (omega (arith, far, r))))

fixed_lists_is : (n i : ℕ) (c : Layout) (g : ℕ → Slot) → ((j : ℕ) → j < n * (i + 1) → array_slot c j ≡ g j)
    → array_list (children_at (only c)) (i * n) n ≡ list_slot (slots_of (map g (range_with_len (n * i) (n * (i + 1) - n * i))))
fixed_lists_is n i c g each =
    ap (λ x. array_list (children_at (only c)) x n) (let e : i * n ≡ n * i = omega arith in e)
    ∙ ap (λ m. array_list (children_at (only c)) (n * i) m) (let e : n ≡ n * (i + 1) - n * i = omega arith in e)
    ∙ ap (λ xs. list_slot (slots_of xs)) (from_map (array_slot c) (n * i) (n * (i + 1) - n * i))
    ∙ ap list_slot (between_same (array_slot c) g (n * i) (n * (i + 1)) each)

-- ---- unions and dictionaries

place_size : (z : ℤ) → place_of z ≡ size z
place_size (pos n) = refl
place_size (negsuc n) = refl

first_is : (z : ℤ) (xs : List ℤ) → place_among z xs ≡ position_or_len (λ x. int_eq x z) xs
first_is z xs = is_position_or_len (place_among z) (λ x. int_eq x z) refl (λ x ys. ap (λ k. cond (int_eq x z) 0 k) (let e : place_among z ys + 1 ≡ 1 + place_among z ys = omega arith in e)) xs

named_is : (ids : Option (List ℤ)) (n : ℕ) (z : ℤ) → child_named ids n z < n → child_number ids z ≡ child_named ids n z
named_is None n (pos m) h = refl
named_is None n (negsuc m) h = absurd (omega (arith, h))
named_is (Some xs) n z h =
    elim (cases_Bool (nat_lt (position_or_len (λ x. int_eq x z) xs) (length xs))) [
      | inl e ↦ first_is z xs ∙ (rw e refl)
      | inr e ↦ let low : n < n = rw e at h in absurd (omega (arith, low))
    ]

-- a slot of a dictionary's values
value_is : (l : Layout) (xs : List Slot) (p : ℕ) → slots l ≡ xs → p < length xs → array_slot l p ≡ slice_index_or xs p null_slot
value_is l xs p e h =
    let long : length (slots l) ≡ len_of l = ap (λ ys. length ys) (from_map (array_slot l) 0 (len_of l)) ∙ length-map-range_with_len (array_slot l) 0 (len_of l) in
    let inside : p < len_of l = omega (arith, h, long, ap (λ ys. length ys) e) in
    sym (get_or-map-range_with_len (array_slot l) 0 (len_of l) p p null_slot inside (omega arith))
    ∙ ap (λ ys. slice_index_or ys p null_slot) (sym (from_map (array_slot l) 0 (len_of l)) ∙ e)

-- ---- columns

pub array_len : (s : Entries) (vs : Option ℤ → Layout) (t : Kind) (u : TypeTree) (a b : ℕ) (limit : Limit) → len_of (array_at s vs t u a b limit) ≡ rows s a limit
array_len s vs null_kind u a b limit = refl
array_len s vs boolean_kind u a b limit = refl
array_len s vs (number_kind f) u a b limit = refl
array_len s vs float_kind u a b limit = refl
array_len s vs (fixed_binary_kind n) u a b limit = refl
array_len s vs (binary_kind w) u a b limit = refl
array_len s vs (utf8_kind w) u a b limit = refl
array_len s vs (list_kind w t) u a b limit = refl
array_len s vs (map_kind t) u a b limit = refl
array_len s vs (fixed_list_kind n t) u a b limit = refl
array_len s vs (struct_kind ts) u a b limit = refl
array_len s vs (union_kind Sparse ids ts) u a b limit = refl
array_len s vs (union_kind Dense ids ts) u a b limit = refl
array_len s vs (dictionary_kind f id t) u a b limit = refl
array_len s vs (extension_kind t) u a b limit = array_len s vs t u a b limit

mutual
  slot_is : (s : Entries) (vs : Option ℤ → Layout) (t : Kind) (u : TypeTree) (a b : ℕ) (limit : Limit) → AreValues s vs → IsWell s t a b limit
      → (i : ℕ) → i < rows s a limit → array_slot (array_at s vs t u a b limit) i ≡ slot_at s t a b i
  slot_is s vs null_kind u a b limit d v i h = refl
  slot_is s vs boolean_kind u a b limit d v i h =
      masked_is s a b (rows s a limit) i _ _ h
      (ap truth_slot (get_or-map-range_with_len (λ j. bit (bytes s (b + 1)) j) 0 (rows s a limit) i i false h (omega arith)))
  slot_is s vs (number_kind f) u a b limit d v i h =
      masked_is s a b (rows s a limit) i _ _ h
      (ap number_slot (get_or-map-range_with_len (λ j. number_in f s.order (value_bytes s (b + 1) (width_of f) j)) 0 (rows s a limit) i i (whole (pos 0)) h (omega arith)))
  slot_is s vs float_kind u a b limit d v i h = absurd v
  slot_is s vs (fixed_binary_kind n) u a b limit d v i h =
      masked_is s a b (rows s a limit) i _ _ h (ap bytes_slot (fixed_is s (b + 1) n (rows s a limit) i h v.2.2))
  slot_is s vs (binary_kind w) u a b limit d v i h =
      masked_is s a b (rows s a limit) i _ _ h (ap bytes_slot (bytes_is s (b + 1) (offset_width w) (rows s a limit) i v.1 h))
  slot_is s vs (utf8_kind w) u a b limit d v i h =
      masked_is s a b (rows s a limit) i _ _ h (ap text_slot (bytes_is s (b + 1) (offset_width w) (rows s a limit) i v.1 h))
  slot_is s vs (list_kind w t) u a b limit d v i h =
      let k = rows s a limit in
      let last = last_offset s (b + 1) (offset_width w) k in
      let v' = first_type (child_fields u) in
      masked_is s a b k i _ _ h
      (lists_is s (b + 1) (offset_width w) k i (array_at s vs t v' (a + 1) (b + 2) (Some last)) (λ j. slot_at s t (a + 1) (b + 2) j) v.1 h
      (λ j l. slot_is s vs t v' (a + 1) (b + 2) (Some last) d v.2.0 j (omega (arith, l, v.2.1))))
  slot_is s vs (map_kind t) u a b limit d v i h =
      let k = rows s a limit in
      let last = last_offset s (b + 1) (offset_width offsets_32) k in
      let v' = first_type (child_fields u) in
      masked_is s a b k i _ _ h
      (lists_is s (b + 1) (offset_width offsets_32) k i (array_at s vs t v' (a + 1) (b + 2) (Some last)) (λ j. slot_at s t (a + 1) (b + 2) j) v.1.1 h
      (λ j l. slot_is s vs t v' (a + 1) (b + 2) (Some last) d v.1.2.0 j (omega (arith, l, v.1.2.1))))
  slot_is s vs (fixed_list_kind n t) u a b limit d v i h =
      let k = rows s a limit in
      let v' = first_type (child_fields u) in
      masked_is s a b k i _ _ h
      (fixed_lists_is n i (array_at s vs t v' (a + 1) (b + 1) (times limit n)) (λ j. slot_at s t (a + 1) (b + 1) j)
      (λ j l. slot_is s vs t v' (a + 1) (b + 1) (times limit n) d v.2.0 j (omega (arith, l, v.2.1, fixed_room n i k h))))
  slot_is s vs (struct_kind ts) u a b limit d v i h =
      masked_is s a b (rows s a limit) i _ _ h
      (ap record_slot (slots_is s vs ts (child_fields u) (a + 1) (b + 1) limit (rows s a limit) d v.2 i h))
  slot_is s vs (union_kind Sparse ids ts) u a b limit d v i h =
      let k = rows s a limit in
      let fs = children_at (arrays_at s vs ts (child_fields u) (a + 1) (b + s.extra + 1) limit) in
      let type = integer_is s (b + s.extra) Int8 k i h in
      let child = child_at s ids (count ts) (b + s.extra) i in
      ap (λ z. variant_slot z (get_or (each_at fs i) (child_number ids z) null_slot)) type
      ∙ ap (λ n. variant_slot (type_at s (b + s.extra) i) (get_or (each_at fs i) n null_slot)) (named_is ids (count ts) (type_at s (b + s.extra) i) (v.2.named i h))
      ∙ ap (λ x. variant_slot (type_at s (b + s.extra) i) x) (sparse_is s vs ts (child_fields u) (a + 1) (b + s.extra + 1) limit k d v.3 child i h)
  slot_is s vs (union_kind Dense ids ts) u a b limit d v i h =
      let k = rows s a limit in
      let fs = children_at (arrays_at s vs ts (child_fields u) (a + 1) (b + s.extra + 2) None) in
      let type = integer_is s (b + s.extra) Int8 k i h in
      let child = child_at s ids (count ts) (b + s.extra) i in
      let place = place_at s (b + s.extra + 1) i in
      let at = get_or (integers_of s (b + s.extra + 1) Int32 k) i (pos 0) in
      ap (λ z. variant_slot z (get_or (each_at fs (place_of at)) (child_number ids z) null_slot)) type
      ∙ ap (λ n. variant_slot (type_at s (b + s.extra) i) (get_or (each_at fs (place_of at)) n null_slot)) (named_is ids (count ts) (type_at s (b + s.extra) i) (v.2.named i h))
      ∙ ap (λ p. variant_slot (type_at s (b + s.extra) i) (get_or (each_at fs p) child null_slot)) (ap place_of (integer_is s (b + s.extra + 1) Int32 k i h) ∙ place_size place)
      ∙ ap (λ x. variant_slot (type_at s (b + s.extra) i) x)
      (dense_is s vs ts (child_fields u) (a + 1) (b + s.extra + 2) d v.4 child (size place) (index_size place (child_rows s ts (a + 1) child) (v.3.inside i h)))
  slot_is s vs (dictionary_kind f id t) u a b limit d v i h =
      let k = rows s a limit in
      let key = integer s (b + 1) f i in
      where_same (array_valid (validity_of s a b k) i) (is_valid s a b i) _ _ (valid_is s a b k i h)
      (λ valid. ap (λ z. array_slot (vs id) (place_of z)) (integer_is s (b + 1) f k i h) ∙ ap (array_slot (vs id)) (place_size key)
      ∙ value_is (vs id) (values_slots s id) (size key) (d.each id) (index_size key (length (values_slots s id)) (v.2.inside i h valid)))
  slot_is s vs (extension_kind t) u a b limit d v i h = slot_is s vs t u a b limit d v i h

  slots_is : (s : Entries) (vs : Option ℤ → Layout) (ts : Kinds) (fs : FieldTrees) (a b : ℕ) (limit : Limit) (k : ℕ) → AreValues s vs → AllHaveRows s ts a b limit k
      → (i : ℕ) → i < k → slots_of (each_at (children_at (arrays_at s vs ts fs a b limit)) i) ≡ slots_at s ts a b i
  slots_is s vs no_kinds fs a b limit k d v i h = refl
  slots_is s vs (more_kinds t ts) fs a b limit k d v i h =
      let rest = arrays_at s vs ts (other_fields fs) (a + nodes t) (b + buffers s.extra t) limit in
      ap (λ x. more_slots x (slots_of (each_at (children_at rest) i))) (slot_is s vs t (first_type fs) a b limit d v.0.0 i (omega (arith, h, v.0.1)))
      ∙ ap (λ xs. more_slots (slot_at s t a b i) xs) (slots_is s vs ts (other_fields fs) (a + nodes t) (b + buffers s.extra t) limit k d v.1 i h)

  sparse_is : (s : Entries) (vs : Option ℤ → Layout) (ts : Kinds) (fs : FieldTrees) (a b : ℕ) (limit : Limit) (k : ℕ) → AreValues s vs → AllHaveRows s ts a b limit k
      → (n i : ℕ) → i < k → get_or (each_at (children_at (arrays_at s vs ts fs a b limit)) i) n null_slot ≡ child_slot s ts a b n i
  sparse_is s vs no_kinds fs a b limit k d v n i h = refl
  sparse_is s vs (more_kinds t ts) fs a b limit k d v zero i h = slot_is s vs t (first_type fs) a b limit d v.0.0 i (omega (arith, h, v.0.1))
  sparse_is s vs (more_kinds t ts) fs a b limit k d v (suc n) i h =
      sparse_is s vs ts (other_fields fs) (a + nodes t) (b + buffers s.extra t) limit k d v.1 n i h

  dense_is : (s : Entries) (vs : Option ℤ → Layout) (ts : Kinds) (fs : FieldTrees) (a b : ℕ) → AreValues s vs → AllWell s ts a b
      → (n i : ℕ) → i < child_rows s ts a n → get_or (each_at (children_at (arrays_at s vs ts fs a b None)) i) n null_slot ≡ child_slot s ts a b n i
  dense_is s vs no_kinds fs a b d v n i h = refl
  dense_is s vs (more_kinds t ts) fs a b d v zero i h = slot_is s vs t (first_type fs) a b None d v.0 i h
  dense_is s vs (more_kinds t ts) fs a b d v (suc n) i h =
      dense_is s vs ts (other_fields fs) (a + nodes t) (b + buffers s.extra t) d v.1 n i h

pub read_slots_law : ReadSlotsLaw
read_slots_law s vs t u a b limit d v =
    let l = array_at s vs t u a b limit in
    from_map (array_slot l) 0 (len_of l)
    ∙ ap (λ n. map (array_slot l) (range_with_len 0 n)) (array_len s vs t u a b limit)
    ∙ range_same (array_slot l) (λ i. slot_at s t a b i) 0 (rows s a limit) (λ j k r. slot_is s vs t u a b limit d v j (omega arith))
