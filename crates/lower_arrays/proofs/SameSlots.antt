-- Slots one by one and as a list.
use Rattle.std.proofs.Common.{arith, ◌≡◌, ◌↔◌, refl, IsTrue, Bool, ℕ, pos, zero, suc, ◌+◌, ◌<◌, List, [], ◌∷◌, ◌++◌, map, take, length, get_or, sym, ap, ◌∙◌}
use Rattle.std.proofs.lemmas.List.{get_or-map, map_more}
use Rattle.lower_types.specs.NumberTypes.{Number, whole}
use Rattle.lower_types.specs.declared.PrimitiveType.{PrimitiveType}
use Rattle.lower_flat_arrays.specs.Validities.{is_valid}
use Rattle.lower_flat_arrays.specs.Primitives.{PrimitiveSeen}
use Rattle.lower_arrays.specs.Layouts.{Layout, layouts, len_of}
use Rattle.lower_arrays.specs.Slots.{Slot, null_slot, number_slot, list_slot, record_slot, Slots, no_slots, more_slots, slots_of, slot_where, each_at, slot_at, children_at, slots_from, slots}
use Rattle.lower_arrays.specs.Primitives.{primitive_layout}
use Rattle.lower_arrays.specs.AnyLayouts.{layout_of}
use Rattle.lower_arrays.specs.Values.{record_slots, first_slot}
use Rattle.lower_arrays.specs.Sameness.{SameRange}
use Rattle.lower_arrays.specs.declared.array.AnyArray.{AnyArray}
use Rattle.lower_arrays.proofs.Slices.{slots_from-same}

length-slots_from : (f : ℕ → Slot) (a n : ℕ) → length (slots_from f a n) ≡ n
length-slots_from f a zero = refl
length-slots_from f a (suc n) = ap suc (length-slots_from f (a + 1) n)

get_or-slots_from : (f : ℕ → Slot) (a n i : ℕ) → i < n → get_or (slots_from f a n) i null_slot ≡ f (a + i)
get_or-slots_from f a zero i h = let no : ⊥ = omega arith in absurd no
get_or-slots_from f a (suc n) zero h = let e : a ≡ a + 0 = omega arith in ap f e
get_or-slots_from f a (suc n) (suc i) h =
    let e : a + 1 + i ≡ a + suc i = omega arith in
    get_or-slots_from f (a + 1) n i (omega arith) ∙ ap f e

-- arrays with the same slots have as many
pub same_len : (l m : Layout) → slots l ≡ slots m → len_of l ≡ len_of m
same_len l m e =
    sym (length-slots_from (slot_at l) 0 (len_of l)) ∙ ap length e ∙ length-slots_from (slot_at m) 0 (len_of m)

-- And the same at each index.
pub same_slot : (l m : Layout) (i : ℕ) → i < len_of l → i < len_of m → slots l ≡ slots m → slot_at l i ≡ slot_at m i
same_slot l m i h k e =
    let o : i ≡ 0 + i = omega arith in
    ap (slot_at l) o
    ∙ sym (get_or-slots_from (slot_at l) 0 (len_of l) i h)
    ∙ ap (λ s. get_or s i null_slot) e
    ∙ get_or-slots_from (slot_at m) 0 (len_of m) i k
    ∙ ap (slot_at m) (sym o)

pub same_slots :
    (l m : Layout) → len_of l ≡ len_of m → ((i : ℕ) → i < len_of l → slot_at l i ≡ slot_at m i) → slots l ≡ slots m
same_slots l m e h =
    slots_from-same (slot_at l) (slot_at m) 0 0 (len_of l)
    (λ i lt. let o : 0 + i ≡ i = omega arith in ap (slot_at l) o ∙ h i lt ∙ ap (slot_at m) (sym o))
    ∙ ap (slots_from (slot_at m) 0) e

-- the slot of an array of numbers
pub primitive_slot :
    {T : Type 0} (p : PrimitiveType) (f : T → Number) (a : PrimitiveSeen T) (i : ℕ) (x : T) → i < length a.values
    → slot_at (primitive_layout p f a) i ≡ slot_where (is_valid a.validity i) (number_slot (f (get_or a.values i x)))
primitive_slot p f a i x h =
    ap (λ n. slot_where (is_valid a.validity i) (number_slot n)) (get_or-map f a.values i x (whole (pos 0)) h)

-- ---- lists
-- A list of slots, read back.
abbrev row : Slots → List Slot
row no_slots = []
row (more_slots s r) = s ∷ row r

row-of : (xs : List Slot) → row (slots_of xs) ≡ xs
row-of [] = refl
row-of (x ∷ xs) = ap (λ r. x ∷ r) (row-of xs)

abbrev inner : Slot → Slots
inner (list_slot s) = s
inner (record_slot s) = s
inner _ = no_slots

pub lists_inner : (xs ys : List Slot) → list_slot (slots_of xs) ≡ list_slot (slots_of ys) → xs ≡ ys
lists_inner xs ys e = sym (row-of xs) ∙ ap (λ s. row (inner s)) e ∙ row-of ys

pub records_inner : (xs ys : List Slot) → record_slot (slots_of xs) ≡ record_slot (slots_of ys) → xs ≡ ys
records_inner xs ys e = sym (row-of xs) ∙ ap (λ s. row (inner s)) e ∙ row-of ys

pub same_counts : (f g : ℕ → Slot) (a b n m : ℕ) → list_slot (slots_of (slots_from f a n)) ≡ list_slot (slots_of (slots_from g b m)) → n ≡ m
same_counts f g a b n m e =
    sym (length-slots_from f a n) ∙ ap length (lists_inner (slots_from f a n) (slots_from g b m) e) ∙ length-slots_from g b m

same_at : (f g : ℕ → Slot) (a b n k : ℕ) → k < n → slots_from f a n ≡ slots_from g b n → f (a + k) ≡ g (b + k)
same_at f g a b n k h e =
    sym (get_or-slots_from f a n k h) ∙ ap (λ s. get_or s k null_slot) e ∙ get_or-slots_from g b n k h

pub lists_same :
    (r : Bool) (l m : Layout) (a b n k : ℕ) → n ≡ k → IsTrue r ↔ SameRange l a m b n
    → IsTrue r ↔ (list_slot (slots_of (slots_from (slot_at l) a n)) ≡ list_slot (slots_of (slots_from (slot_at m) b k)))
lists_same r l m a b n k c h = (
  λ yes. ap (λ s. list_slot (slots_of s)) (slots_from-same (slot_at l) (slot_at m) a b n (h.0 yes) ∙ ap (slots_from (slot_at m) b) c),
  λ e. h.1 (λ i lt. same_at (slot_at l) (slot_at m) a b n i lt (lists_inner (slots_from (slot_at l) a n) (slots_from (slot_at m) b k) e ∙ ap (slots_from (slot_at m) b) (sym c))),
)

-- the slots of the first child
pub first_is : (cs : List AnyArray) (x : AnyArray) → 0 < length cs → x ≡ get_or cs 0 x → first_slot cs ≡ slot_at (layout_of x)
first_is [] x h e = absurd (omega arith)
first_is (c ∷ cs) x h e = ap (λ a. slot_at (layout_of a)) (sym e)

-- ---- records
pub record_slots-of : (xs : List AnyArray) (i : ℕ) → record_slots xs i ≡ each_at (children_at (layouts (map layout_of xs))) i
record_slots-of [] i = refl
record_slots-of (x ∷ xs) i = ap (λ s. slot_at (layout_of x) i ∷ s) (record_slots-of xs i)

pub record_slots-children : (xs : List AnyArray) (cs : List Layout) (i : ℕ) → map layout_of xs ≡ cs → record_slots xs i ≡ each_at (children_at (layouts cs)) i
record_slots-children xs cs i e = record_slots-of xs i ∙ ap (λ c. each_at (children_at (layouts c)) i) e

pub record_item :
    (xs ys : List AnyArray) (k : ℕ) (x y : AnyArray) (i j : ℕ) → k < length xs → k < length ys → x ≡ get_or xs k x → y ≡ get_or ys k y
    → record_slots xs i ≡ record_slots ys j → slot_at (layout_of x) i ≡ slot_at (layout_of y) j
record_item xs ys k x y i j lx ly p q e =
    ap (λ c. slot_at (layout_of c) i) p
    ∙ sym (get_or-map (λ c. slot_at (layout_of c) i) xs k x null_slot lx)
    ∙ ap (λ s. get_or s k null_slot) e
    ∙ get_or-map (λ c. slot_at (layout_of c) j) ys k y null_slot ly
    ∙ ap (λ c. slot_at (layout_of c) j) (sym q)

record_take : (xs : List AnyArray) (k : ℕ) (x : AnyArray) (i : ℕ) → k < length xs → x ≡ get_or xs k x → record_slots (take (k + 1) xs) i ≡ record_slots (take k xs) i ++ slot_at (layout_of x) i ∷ []
record_take xs k x i l p =
    map_more (λ c. slot_at (layout_of c) i) xs k x l
    ∙ ap (λ c. record_slots (take k xs) i ++ slot_at (layout_of c) i ∷ []) (sym p)

pub record_more :
    (xs ys : List AnyArray) (k : ℕ) (x y : AnyArray) (i j : ℕ) → k < length xs → k < length ys → x ≡ get_or xs k x → y ≡ get_or ys k y
    → slot_at (layout_of x) i ≡ slot_at (layout_of y) j → record_slots (take k xs) i ≡ record_slots (take k ys) j
    → record_slots (take (k + 1) xs) i ≡ record_slots (take (k + 1) ys) j
record_more xs ys k x y i j lx ly p q e h =
    record_take xs k x i lx p ∙ (λ t. h t ++ e t ∷ []) ∙ sym (record_take ys k y j ly q)

pub ruleset sameness = (same_len, same_slot, same_slots)
