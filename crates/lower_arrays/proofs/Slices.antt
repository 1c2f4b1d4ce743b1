-- The slots of some slots of an array.
use Rattle.std.proofs.Common.{arith, ◌≡◌, refl, ℕ, pos, zero, suc, ◌+◌, ◌-◌, ◌*◌, ◌<◌, ◌≤◌, List, [], ◌∷◌, Some, None, false, length, take, drop, sym, ap, ◌∙◌, ℤ, Option, get_or}
use Rattle.std.specs.Prelude.{slice_index}
use Rattle.std.proofs.lemmas.List.{take-take, drop-take, drop-drop}
use Rattle.std.proofs.Math.Nat.{add-mul}
use Rattle.std.proofs.lemmas.Nat.{mul-le}
use Rattle.lower_types.specs.NumberTypes.{whole}
use Rattle.lower_types.specs.declared.PrimitiveType.{PrimitiveType}
use Rattle.lower_flat_arrays.specs.Validities.{Validity, is_valid, part, cut_validity}
use Rattle.lower_validation.specs.Numbers.{NumbersSeen, cut_numbers}
use Rattle.lower_flat_arrays.specs.Nulls.{NullSeen, cut_null}
use Rattle.lower_flat_arrays.specs.Booleans.{BooleanSeen, cut_boolean}
use Rattle.lower_flat_arrays.specs.FixedBinaries.{FixedBinarySeen, cut_fixed}
use Rattle.lower_flat_arrays.specs.Spans.{SpansSeen, span, span_count, cut_spans}
use Rattle.lower_flat_arrays.proofs.Cuts.{get_or-part, length-part}
use Rattle.lower_arrays.specs.Layouts.{Parts, nothing, truths, numbers, fixed_bytes, bytes, texts, lists, fixed_lists, maps, records, Layout, layout, Layouts, no_layouts, more_layouts, len_of, keys, choices, layouts}
use Rattle.lower_arrays.specs.Slots.{Slot, null_slot, truth_slot, number_slot, bytes_slot, text_slot, list_slot, record_slot, slots_of, slot_where, first_child, list_at, each_at, value_at, slot_at, children_at, slots_from, slots, variant_slot, variant_at}
use Rattle.lower_arrays.specs.Cuts.{cut_parts, cut_below, cut, cut_each}
use Rattle.lower_arrays.proofs.NestedParts.{list_part, large_list_part, fixed_list_part, struct_part, map_part}
use Rattle.lower_arrays.specs.Primitives.{numbers_layout}
use Rattle.lower_arrays.specs.Flat.{null_layout, boolean_layout, fixed_layout, bytes_layout, texts_layout}
use Rattle.lower.specs.TypeTrees.{TypeTree}
use Rattle.lower_validation.specs.Keys.{place_of}
use Rattle.lower_validation.specs.Ids.{TypeIds, child_number, union_ids}
use Rattle.lower_arrays.specs.Dictionaries.{DictionarySeen, dictionary_layout, cut_dictionary}
use Rattle.lower_arrays.specs.Unions.{UnionSeen, union_seen, union_layout, cut_union}
use Rattle.lower_arrays.proofs.Children.{layouts-cut}

-- the array of some numbers of an array, which l is the tree of
pub numbers_part : (o n : ℕ) (a b : NumbersSeen) (l : Layout) → b ≡ cut_numbers o n a → l ≡ numbers_layout a → numbers_layout b ≡ cut o n l
numbers_part o n a b l e d = ap numbers_layout e ∙ ap (cut o n) (sym d)

is_valid-cut : (o n : ℕ) (v : Validity) (i : ℕ) → i < n → is_valid (cut_validity o n v) i ≡ is_valid v (o + i)
is_valid-cut o n None i h = refl
is_valid-cut o n (Some bits) i h = get_or-part o n bits i false h

-- a part of a part
part_again : {A : Type 0} (k o n m : ℕ) (xs : List A) → o + n ≤ m → part o n (part k m xs) ≡ part (k + o) n xs
part_again k o n m xs h =
    let e : o + (m - o) ≡ m = omega arith in
    ap (λ i. take n (drop o (take i (drop k xs)))) (sym e)
    ∙ ap (λ l. take n l) (drop-take o (m - o) (drop k xs))
    ∙ take-take n (m - o) (drop o (drop k xs)) (omega arith)
    ∙ ap (λ l. take n l) (drop-drop o k xs)

-- The bytes of slot i of the n slots from index o on.
fixed-cut : (o n size : ℕ) (xs : List ℕ) (i : ℕ) → i < n → part (i * size) size (part (o * size) (n * size) xs) ≡ part ((o + i) * size) size xs
fixed-cut o n size xs i h =
    let room : i * size + size ≤ n * size =
    let whole : (i + 1) * size ≡ i * size + 1 * size = add-mul i 1 size in
    let le = mul-le (i + 1) size n size (omega (arith, h)) (omega arith) in
    omega (arith, whole, le)
    in
    let there : o * size + i * size ≡ (o + i) * size = sym (add-mul o i size) in
    part_again (o * size) (i * size) size (n * size) xs room ∙ ap (λ k. part k size xs) there

-- and of offsets
span-part : (o n : ℕ) (os xs : List ℕ) (i : ℕ) → i < n → span (part o (n + 1) os) xs i ≡ span os xs (o + i)
span-part o n os xs i h =
    let this = get_or-part o (n + 1) os i 0 (omega (arith, h)) in
    let e : o + (i + 1) ≡ o + i + 1 = omega arith in
    let next : slice_index (part o (n + 1) os) (i + 1) ≡ slice_index os (o + i + 1) = get_or-part o (n + 1) os (i + 1) 0 (omega (arith, h)) ∙ ap (slice_index os) e in
    λ j. take (next j - this j) (drop (this j) xs)

-- offsets of some slots, read by f
span-ends :
    (f : ℕ → ℕ → Slot) (o n : ℕ) (os : List ℕ) (i : ℕ) → i < n
    → f (slice_index (part o (n + 1) os) i) (slice_index (part o (n + 1) os) (i + 1)) ≡ f (slice_index os (o + i)) (slice_index os (o + i + 1))
span-ends f o n os i h =
    let this : slice_index (part o (n + 1) os) i ≡ slice_index os (o + i) = get_or-part o (n + 1) os i 0 (omega (arith, h)) in
    let e : o + (i + 1) ≡ o + i + 1 = omega arith in
    let next : slice_index (part o (n + 1) os) (i + 1) ≡ slice_index os (o + i + 1) = get_or-part o (n + 1) os (i + 1) 0 (omega (arith, h)) ∙ ap (slice_index os) e in
    λ j. f (this j) (next j)

pub slots_from-same :
    (f g : ℕ → Slot) (a b n : ℕ) → ((i : ℕ) → i < n → f (a + i) ≡ g (b + i)) → slots_from f a n ≡ slots_from g b n
slots_from-same f g a b zero h = refl
slots_from-same f g a b (suc n) h =
    let head : f a ≡ g b = ap f (omega arith) ∙ h 0 (omega arith) ∙ ap g (omega arith) in
    let tail : (i : ℕ) → i < n → f (a + 1 + i) ≡ g (b + 1 + i) =
    λ i l. ap f (omega arith) ∙ h (i + 1) (omega arith) ∙ ap g (omega arith)
    in
    λ j. head j ∷ slots_from-same f g (a + 1) (b + 1) n tail j

-- the first child's slot among those of all
abbrev front : List Slot → Slot
front [] = null_slot
front (s ∷ _) = s

first_child-front : (fs : List (ℕ → Slot)) (i : ℕ) → first_child fs i ≡ front (each_at fs i)
first_child-front [] i = refl
first_child-front (f ∷ fs) i = refl

-- The children cs, cut, have the corresponding slots.
abbrev CutTrue : Layouts → Type 0
CutTrue cs = (a b k : ℕ) → k < b → each_at (children_at (cut_each a b cs)) k ≡ each_at (children_at cs) (a + k)

-- Slot i of fixed-size lists.
fixed_list-cut : (cs : Layouts) (size o n i : ℕ) → i < n → CutTrue cs → list_at (children_at (cut_each (o * size) (n * size) cs)) (i * size) size ≡ list_at (children_at cs) ((o + i) * size) size
fixed_list-cut cs size o n i h e =
    let room : i * size + size ≤ n * size =
    let whole : (i + 1) * size ≡ i * size + 1 * size = add-mul i 1 size in
    let le = mul-le (i + 1) size n size (omega (arith, h)) (omega arith) in
    omega (arith, whole, le)
    in
    let there : o * size + i * size ≡ (o + i) * size = sym (add-mul o i size) in
    ap (λ s. list_slot (slots_of s))
    (slots_from-same (first_child (children_at (cut_each (o * size) (n * size) cs))) (first_child (children_at cs)) (i * size) ((o + i) * size) size
    (λ k l.
    let at : o * size + (i * size + k) ≡ (o + i) * size + k = omega (arith, there) in
    first_child-front (children_at (cut_each (o * size) (n * size) cs)) (i * size + k)
    ∙ ap front (e (o * size) (n * size) (i * size + k) (omega (arith, room, l)))
    ∙ sym (first_child-front (children_at cs) (o * size + (i * size + k)))
    ∙ ap (first_child (children_at cs)) at))

-- A slot of a union has the same type, and the same index in its child.
variant-cut :
    (ids : TypeIds) (ts : List ℤ) (os : Option (List ℤ)) (cs : Layouts) (o n i : ℕ) → i < n → CutTrue cs
    → value_at (cut_parts o n (choices ids ts os)) (children_at (cut_below (choices ids ts os) o n (λ a b. cut_each a b cs) cs)) i
    ≡ value_at (choices ids ts os) (children_at cs) (o + i)
variant-cut ids ts None cs o n i h e =
    ap (λ z. variant_at (children_at (cut_each o n cs)) z (child_number ids z) i) (get_or-part o n ts i (pos 0) h)
    ∙ ap (λ s. variant_slot (get_or ts (o + i) (pos 0)) (get_or s (child_number ids (get_or ts (o + i) (pos 0))) null_slot)) (e o n i h)
variant-cut ids ts (Some os) cs o n i h e =
    ap (λ z. variant_at (children_at cs) z (child_number ids z) (place_of (get_or (part o n os) i (pos 0)))) (get_or-part o n ts i (pos 0) h)
    ∙ ap (λ z. variant_at (children_at cs) (get_or ts (o + i) (pos 0)) (child_number ids (get_or ts (o + i) (pos 0))) (place_of z)) (get_or-part o n os i (pos 0) h)

value_at-cut :
    (p : Parts) (cs : Layouts) (o n i : ℕ) → i < n → CutTrue cs
    → value_at (cut_parts o n p) (children_at (cut_below p o n (λ a b. cut_each a b cs) cs)) i ≡ value_at p (children_at cs) (o + i)
value_at-cut nothing cs o n i h e = refl
value_at-cut (truths xs) cs o n i h e = ap truth_slot (get_or-part o n xs i false h)
value_at-cut (numbers _ xs) cs o n i h e = ap number_slot (get_or-part o n xs i (whole (pos 0)) h)
value_at-cut (fixed_bytes size xs) cs o n i h e = ap bytes_slot (fixed-cut o n size xs i h)
value_at-cut (bytes _ os xs) cs o n i h e = ap bytes_slot (span-part o n os xs i h)
value_at-cut (texts _ os xs) cs o n i h e = ap text_slot (span-part o n os xs i h)
value_at-cut (lists _ _ os) cs o n i h e = span-ends (λ a b. list_at (children_at cs) a (b - a)) o n os i h
value_at-cut (fixed_lists size) cs o n i h e = fixed_list-cut cs size o n i h e
value_at-cut (maps os) cs o n i h e = span-ends (λ a b. list_at (children_at cs) a (b - a)) o n os i h
value_at-cut records cs o n i h e = ap (λ s. record_slot (slots_of s)) (e o n i h)
value_at-cut (choices ids ts os) cs o n i h e = variant-cut ids ts os cs o n i h e
value_at-cut (keys _ ks) cs o n i h e = ap (λ k. first_child (children_at cs) (place_of k)) (get_or-part o n ks i (pos 0) h)

mutual
  slot_at-cut : (l : Layout) (o n i : ℕ) → i < n → slot_at (cut o n l) i ≡ slot_at l (o + i)
  slot_at-cut (layout h cs) o n i lt =
      ap (λ b. slot_where b (value_at (cut_parts o n h.parts) (children_at (cut_below h.parts o n (λ a b. cut_each a b cs) cs)) i)) (is_valid-cut o n h.validity i lt)
      ∙ ap (λ s. slot_where (is_valid h.validity (o + i)) s) (value_at-cut h.parts cs o n i lt (λ a b k l. each_at-cut cs a b k l))

  each_at-cut : (cs : Layouts) (o n i : ℕ) → i < n → each_at (children_at (cut_each o n cs)) i ≡ each_at (children_at cs) (o + i)
  each_at-cut no_layouts o n i lt = refl
  each_at-cut (more_layouts c cs) o n i lt = λ j. slot_at-cut c o n i lt j ∷ each_at-cut cs o n i lt j

take-slots_from : (f : ℕ → Slot) (a n m : ℕ) → n ≤ m → take n (slots_from f a m) ≡ slots_from f a n
take-slots_from f a zero m h = refl
take-slots_from f a (suc n) zero h = let no : ⊥ = omega arith in absurd no
take-slots_from f a (suc n) (suc m) h = ap (λ l. f a ∷ l) (take-slots_from f (a + 1) n m (omega arith))

drop-slots_from : (f : ℕ → Slot) (a o m : ℕ) → o ≤ m → drop o (slots_from f a m) ≡ slots_from f (a + o) (m - o)
drop-slots_from f a zero m h =
    let e : a ≡ a + 0 = omega arith in
    let d : m ≡ m - 0 = omega arith in
    λ j. slots_from f (e j) (d j)
drop-slots_from f a (suc o) zero h = let no : ⊥ = omega arith in absurd no
drop-slots_from f a (suc o) (suc m) h =
    let e : a + 1 + o ≡ a + suc o = omega arith in
    let d : m - o ≡ suc m - suc o = omega arith in
    drop-slots_from f (a + 1) o m (omega arith) ∙ (λ j. slots_from f (e j) (d j))

-- The n slots from index o on are those of the part.
slots-cut : (l : Layout) (o n : ℕ) → o + n ≤ len_of l → slots (cut o n l) ≡ take n (drop o (slots l))
slots-cut (layout h cs) o n fits =
    let l = layout h cs in
    let r : n ≤ h.len - o = omega arith in
    slots_from-same (slot_at (cut o n l)) (slot_at l) 0 (0 + o) n (λ i lt.
    let e : 0 + i ≡ i = omega arith in
    let d : o + i ≡ 0 + o + i = omega arith in
    ap (slot_at (cut o n l)) e ∙ slot_at-cut l o n i lt ∙ ap (slot_at l) d)
    ∙ sym (take-slots_from (slot_at l) (0 + o) n (h.len - o) r)
    ∙ ap (λ s. take n s) (sym (drop-slots_from (slot_at l) 0 o h.len (omega arith)))

-- the same of the other arrays without children
pub null_part : (n o : ℕ) (a b : NullSeen) (l : Layout) → b ≡ cut_null n a → l ≡ null_layout a → null_layout b ≡ cut o n l
null_part n o a b l e d = ap null_layout e ∙ ap (cut o n) (sym d)

pub boolean_part : (o n : ℕ) (a b : BooleanSeen) (l : Layout) → b ≡ cut_boolean o n a → l ≡ boolean_layout a → o + n ≤ length a.values → boolean_layout b ≡ cut o n l
boolean_part o n a b l e d h =
    ap boolean_layout e
    ∙ (λ i. layout
    (record { type = a.type; len = length-part o n a.values h i; validity = cut_validity o n a.validity; parts = truths (part o n a.values) })
    no_layouts)
    ∙ ap (cut o n) (sym d)

pub fixed_part : (o n : ℕ) (a b : FixedBinarySeen) (l : Layout) → b ≡ cut_fixed o n a → l ≡ fixed_layout a → fixed_layout b ≡ cut o n l
fixed_part o n a b l e d = ap fixed_layout e ∙ ap (cut o n) (sym d)

-- As many slots as are requested.
count-part : (o n : ℕ) (os : List ℕ) → 0 < length os → o + n ≤ span_count os → span_count (part o (n + 1) os) ≡ n
count-part o n os some h = let count = length-part o (n + 1) os (omega (arith, some, h)) in omega (arith, count)

pub bytes_part : (p : PrimitiveType) (o n : ℕ) (a b : SpansSeen) (l : Layout) → b ≡ cut_spans o n a → l ≡ bytes_layout p a → 0 < length a.offsets → o + n ≤ span_count a.offsets → bytes_layout p b ≡ cut o n l
bytes_part p o n a b l e d some h =
    ap (bytes_layout p) e
    ∙ (λ i. layout
    (record { type = a.type; len = count-part o n a.offsets some h i; validity = cut_validity o n a.validity; parts = bytes p (part o (n + 1) a.offsets) a.values })
    no_layouts)
    ∙ ap (cut o n) (sym d)

pub texts_part : (p : PrimitiveType) (o n : ℕ) (a b : SpansSeen) (l : Layout) → b ≡ cut_spans o n a → l ≡ texts_layout p a → 0 < length a.offsets → o + n ≤ span_count a.offsets → texts_layout p b ≡ cut o n l
texts_part p o n a b l e d some h =
    ap (texts_layout p) e
    ∙ (λ i. layout
    (record { type = a.type; len = count-part o n a.offsets some h i; validity = cut_validity o n a.validity; parts = texts p (part o (n + 1) a.offsets) a.values })
    no_layouts)
    ∙ ap (cut o n) (sym d)

pub dictionary_part :
    (o n : ℕ) (a b : DictionarySeen) (l : Layout) → b ≡ cut_dictionary o n a → l ≡ dictionary_layout a
    → o + n ≤ length a.keys.integers → dictionary_layout b ≡ cut o n l
dictionary_part o n a b l e d h =
    ap dictionary_layout e
    ∙ (λ i. layout
    (record {
      type = a.type;
      len = length-part o n a.keys.integers h i;
      validity = cut_validity o n a.keys.validity;
      parts = keys a.keys.key (part o n a.keys.integers);
    })
    (more_layouts a.values no_layouts))
    ∙ ap (cut o n) (sym d)

pub layout-cut_union :
    (o n : ℕ) (t : TypeTree) (ts : List ℤ) (os : Option (List ℤ)) (cs : List Layout) → o + n ≤ length ts
    → union_layout (cut_union o n (union_seen t ts cs os)) ≡ cut o n (union_layout (union_seen t ts cs os))
layout-cut_union o n t ts None cs h =
    λ i. layout
    (record { type = t; len = length-part o n ts h i; validity = None; parts = choices (union_ids t) (part o n ts) None })
    (layouts-cut o n cs i)
layout-cut_union o n t ts (Some os) cs h =
    λ i. layout
    (record { type = t; len = length-part o n ts h i; validity = None; parts = choices (union_ids t) (part o n ts) (Some (part o n os)) })
    (layouts cs)

pub union_part :
    (o n : ℕ) (a b : UnionSeen) (l : Layout) → b ≡ cut_union o n a → l ≡ union_layout a → o + n ≤ length a.types
    → union_layout b ≡ cut o n l
union_part o n a b l e d h =
    ap union_layout e ∙ layout-cut_union o n a.type a.types a.offsets a.children h ∙ ap (cut o n) (sym d)

-- an array that is a part has its slots
pub slots_of_part : (l m : Layout) (o n : ℕ) → m ≡ cut o n l → o + n ≤ len_of l → slots m ≡ take n (drop o (slots l))
slots_of_part l m o n e h = ap slots e ∙ slots-cut l o n h

-- what slicing is proved by, kind by kind
pub ruleset slicing = (numbers_part, null_part, boolean_part, fixed_part, bytes_part, texts_part, list_part, large_list_part, fixed_list_part, struct_part, map_part, dictionary_part, union_part)
