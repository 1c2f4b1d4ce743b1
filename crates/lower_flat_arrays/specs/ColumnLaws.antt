-- The test `same_column` decides equality, and so satisfies the laws of `==`.
use Rattle.std.proofs.Common.{rules, ◌≡◌, ◌↔◌, IsTrue, ℕ, ℤ, List, [], ◌∷◌, Bool, true, false, ◌&&◌, nat_eq, refl, sym, ap, ◌∙◌}
use Rattle.std.proofs.lemmas.Bool.{and_parts, false≢true}
use Rattle.std.specs.Bool.{Decides, one_answer}
use Rattle.std.specs.Ordering.{int_eq, on}
use Rattle.std.specs.Cmp.{IsEquivalence, IsPartialEquivalence, partial_equiv_from_equiv}
use Rattle.std.specs.Cmp.Lexicographic.{pointwise}
use Rattle.lower_types.specs.NumberTypes.{Number, whole, wide, day_time, month_day_nano}
use Rattle.lower.specs.Same.{same_bool, same_text, same_type}
use Rattle.lower.proofs.Same.{type-sound, type-refl}
use Rattle.lower_flat_arrays.specs.Columns.{Slot, null_slot, truth_slot, number_slot, bytes_slot, text_slot, list_slot, record_slot, variant_slot, Slots, no_slots, more_slots, Column, IsSame, same_number, same_slot, same_slots, same_column}

bool-sound : (x y : Bool) → same_bool x y ≡ true → x ≡ y
bool-sound true y h = sym h
bool-sound false true h = absurd (false≢true h)
bool-sound false false h = refl

bool-refl : (x : Bool) → same_bool x x ≡ true
bool-refl true = refl
bool-refl false = refl

nat-sound : (x y : ℕ) → nat_eq x y ≡ true → x ≡ y
nat-sound x y h = search (rules, h)

nat-refl : (x : ℕ) → nat_eq x x ≡ true
nat-refl x = search rules

int-sound : (x y : ℤ) → int_eq x y ≡ true → x ≡ y
int-sound x y h = search (rules, h)

int-refl : (x : ℤ) → int_eq x x ≡ true
int-refl x = search rules

module _ {A : Type 0} (E : A → A → Bool) (sound : (x y : A) → E x y ≡ true → x ≡ y) (own : (x : A) → E x x ≡ true) where
  list-sound : (x y : List A) → pointwise E x y ≡ true → x ≡ y
  list-sound [] [] h = refl
  list-sound [] (y ∷ ys) h = absurd (false≢true h)
  list-sound (x ∷ xs) [] h = absurd (false≢true h)
  list-sound (x ∷ xs) (y ∷ ys) h =
      let (here, rest) = and_parts (E x y) (pointwise E xs ys) h in rw (sound x y here, list-sound xs ys rest)

  list-own : (x : List A) → pointwise E x x ≡ true
  list-own [] = refl
  list-own (x ∷ xs) = rw (own x, list-own xs)

text-sound : (x y : List ℕ) → same_text x y ≡ true → x ≡ y
text-sound = list-sound nat_eq nat-sound nat-refl

text-refl : (x : List ℕ) → same_text x x ≡ true
text-refl = list-own nat_eq nat-sound nat-refl

number-sound : (x y : Number) → same_number x y ≡ true → x ≡ y
number-sound (whole x) (whole y) h = ap whole (int-sound x y h)
number-sound (wide a b) (wide c d) h =
    let (p, q) = and_parts (int_eq a c) (nat_eq b d) h in rw (int-sound a c p, nat-sound b d q)
number-sound (day_time a b) (day_time c d) h =
    let (p, q) = and_parts (int_eq a c) (int_eq b d) h in rw (int-sound a c p, int-sound b d q)
number-sound (month_day_nano a b e) (month_day_nano c d f) h =
    let (p, r) = and_parts (int_eq a c) (int_eq b d && int_eq e f) h in
    let (q, s) = and_parts (int_eq b d) (int_eq e f) r in
    rw (int-sound a c p, int-sound b d q, int-sound e f s)
number-sound _ _ h = absurd (false≢true h)

number-refl : (x : Number) → same_number x x ≡ true
number-refl (whole x) = int-refl x
number-refl (wide a b) = rw (int-refl a, nat-refl b)
number-refl (day_time a b) = rw (int-refl a, int-refl b)
number-refl (month_day_nano a b c) = rw (int-refl a, int-refl b, int-refl c)

mutual
  slot-sound : (x y : Slot) → same_slot x y ≡ true → x ≡ y
  slot-sound null_slot null_slot h = refl
  slot-sound (truth_slot a) (truth_slot b) h = ap truth_slot (bool-sound a b h)
  slot-sound (number_slot x) (number_slot y) h = ap number_slot (number-sound x y h)
  slot-sound (bytes_slot xs) (bytes_slot ys) h = ap bytes_slot (text-sound xs ys h)
  slot-sound (text_slot xs) (text_slot ys) h = ap text_slot (text-sound xs ys h)
  slot-sound (list_slot xs) (list_slot ys) h = ap list_slot (slots-sound xs ys h)
  slot-sound (record_slot xs) (record_slot ys) h = ap record_slot (slots-sound xs ys h)
  slot-sound (variant_slot z x) (variant_slot w y) h =
      let (p, q) = and_parts (int_eq z w) (same_slot x y) h in rw (int-sound z w p, slot-sound x y q)
  slot-sound _ _ h = absurd (false≢true h)

  slots-sound : (x y : Slots) → same_slots x y ≡ true → x ≡ y
  slots-sound no_slots no_slots h = refl
  slots-sound (more_slots x xs) (more_slots y ys) h =
      let (p, q) = and_parts (same_slot x y) (same_slots xs ys) h in rw (slot-sound x y p, slots-sound xs ys q)
  slots-sound _ _ h = absurd (false≢true h)

mutual
  slot-refl : (x : Slot) → same_slot x x ≡ true
  slot-refl null_slot = refl
  slot-refl (truth_slot a) = bool-refl a
  slot-refl (number_slot x) = number-refl x
  slot-refl (bytes_slot xs) = text-refl xs
  slot-refl (text_slot xs) = text-refl xs
  slot-refl (list_slot xs) = slots-refl xs
  slot-refl (record_slot xs) = slots-refl xs
  slot-refl (variant_slot z x) = rw (int-refl z, slot-refl x)

  slots-refl : (x : Slots) → same_slots x x ≡ true
  slots-refl no_slots = refl
  slots-refl (more_slots x xs) = rw (slot-refl x, slots-refl xs)

-- The test says exactly whether two slots are equal.
pub slot_decides : (x y : Slot) → Decides (same_slot x y) (x ≡ y)
slot_decides x y = (slot-sound x y, λ e. ap (same_slot x) (sym e) ∙ slot-refl x)

column-sound : (x y : Column) → same_column x y ≡ true → x ≡ y
column-sound x y h =
    let (p, q) = and_parts (same_type x.type y.type) (pointwise same_slot x.slots y.slots) h in
    let t = type-sound x.type y.type p in
    let s = list-sound same_slot slot-sound slot-refl x.slots y.slots q in
    λ i. record { type = t i; slots = s i }

column-refl : (x : Column) → same_column x x ≡ true
column-refl x = rw (type-refl x.type, list-own same_slot slot-sound slot-refl x.slots)

-- The test says exactly whether two columns are equal.
pub column_decides : (x y : Column) → Decides (same_column x y) (x ≡ y)
column_decides x y = (column-sound x y, λ e. ap (same_column x) (sym e) ∙ column-refl x)

-- The test passes for a column and itself, as a clone is.
pub same_if_one : (x y : Column) → y ≡ x → IsTrue (same_column x y)
same_if_one x y e = ap (same_column x) e ∙ column-refl x

-- The test passes exactly for the same columns.
pub same_exactly : (x y : Column) → IsTrue (same_column x y) ↔ IsSame x y
same_exactly x y = (
  (λ h. let e = column-sound x y h in record { type = ap (λ c. c.type) e; slots = ap (λ c. c.slots) e }),
  λ s. (column_decides x y).1 (λ i. record { type = s.type i; slots = s.slots i }),
)

-- A result that is true exactly for the same columns is the test's.
pub exact_answer : (r : Bool) (x y : Column) → IsTrue r ↔ IsSame x y → r ≡ same_column x y
exact_answer r x y h =
    let back = same_exactly x y in one_answer r (same_column x y) (h.0, h.1) (back.0, back.1)

-- ---- comparing arrays by the columns that they mean
pub columns_equiv : {K : Type 0} (f : K → Column) → IsEquivalence (on f same_column)
columns_equiv f = record {
  refl = λ x. column-refl (f x);
  symm = λ x y. one_answer (same_column (f x) (f y)) (same_column (f y) (f x)) (column_decides (f x) (f y)) ((λ h. sym (column-sound (f y) (f x) h)), λ e. (column_decides (f y) (f x)).1 (sym e));
  congr = λ x y z h. ap (λ c. same_column c (f z)) (column-sound (f x) (f y) h);
}

pub columns_per : {K : Type 0} (f : K → Column) → IsPartialEquivalence (on f same_column)
columns_per f = partial_equiv_from_equiv (columns_equiv f)
