-- What an array means is its type and its slots. `same_column` is the test of equality
-- and decides it (`ColumnLaws`).
-- (Arrow columnar format, "Physical Memory Layout".)
use Rattle.std.specs.Prelude.{◌≡◌, ℕ, ℤ, pos, ◌+◌, ◌*◌, List, [], ◌∷◌, Bool, true, false, ◌&&◌, nat_eq, get_or, length, map}
use Rattle.std.proofs.Common.{zero, suc}
use Rattle.std.specs.Ordering.{int_eq}
use Rattle.std.specs.Cmp.Lexicographic.{pointwise}
use Rattle.lower_types.specs.NumberTypes.{Number, whole, wide, day_time, month_day_nano}
use Rattle.lower.specs.TypeTrees.{TypeTree}
use Rattle.lower.specs.Same.{same_bool, same_text, same_type}
use Rattle.lower_flat_arrays.specs.Validities.{is_valid, part}
use Rattle.lower_flat_arrays.specs.Primitives.{PrimitiveSeen}
use Rattle.lower_flat_arrays.specs.Booleans.{BooleanSeen}
use Rattle.lower_flat_arrays.specs.Nulls.{NullSeen}
use Rattle.lower_flat_arrays.specs.FixedBinaries.{FixedBinarySeen}
use Rattle.lower_flat_arrays.specs.Spans.{SpansSeen, span_count, span}

mutual
  -- A slot of a column: null, a boolean, a number, bytes, a text, the slots of a list, those of a
  -- struct, or a union's type id and slot.
  pub data Slot : Type 0 where
    null_slot : Slot
    truth_slot : Bool → Slot
    number_slot : Number → Slot
    bytes_slot : List ℕ → Slot
    text_slot : List ℕ → Slot
    list_slot : Slots → Slot
    record_slot : Slots → Slot
    variant_slot : ℤ → Slot → Slot

  -- Some slots, in order.
  pub data Slots : Type 0 where
    no_slots : Slots
    more_slots : Slot → Slots → Slots

-- Some slots as one value.
abbrev pub slots_of : List Slot → Slots
slots_of [] = no_slots
slots_of (x ∷ xs) = more_slots x (slots_of xs)

-- A slot, or null if it isn't valid.
abbrev pub slot_where : Bool → Slot → Slot
slot_where true s = s
slot_where false s = null_slot

-- The n slots that f gives from index a on.
abbrev pub slots_from : (ℕ → Slot) → ℕ → ℕ → List Slot
slots_from f a zero = []
slots_from f a (suc n) = f a ∷ slots_from f (a + 1) n

-- What an array means, however it is laid out: its type and its slots.
pub record Column : Type 0 where
  pub type : TypeTree
  pub slots : List Slot

-- A column of n slots of a type, which f gives.
abbrev pub column_by : TypeTree → ℕ → (ℕ → Slot) → Column
column_by t n f = record { type = t; slots = slots_from f 0 n }

-- Two columns have one type and the same slots.
pub record IsSame (a b : Column) : Type 0 where
  pub type : a.type ≡ b.type
  pub slots : a.slots ≡ b.slots

-- ---- the arrays without children

-- Slot i of an array of nulls.

abbrev pub null_at : NullSeen → ℕ → Slot
null_at a i = null_slot

-- Slot i of an array of booleans.
abbrev pub truth_at : BooleanSeen → ℕ → Slot
truth_at a i = slot_where (is_valid a.validity i) (truth_slot (get_or a.values i false))

-- Slot i of an array of numbers.
abbrev pub number_at : {T : Type 0} → (T → Number) → PrimitiveSeen T → ℕ → Slot
number_at f a i = slot_where (is_valid a.validity i) (number_slot (get_or (map f a.values) i (whole (pos 0))))

-- Slot i of an array of bytes of a fixed number.
abbrev pub fixed_at : FixedBinarySeen → ℕ → Slot
fixed_at a i = slot_where (is_valid a.validity i) (bytes_slot (part (i * a.size) a.size a.values))

-- Slot i of an array of bytes.
abbrev pub bytes_at : SpansSeen → ℕ → Slot
bytes_at a i = slot_where (is_valid a.validity i) (bytes_slot (span a.offsets a.values i))

-- Slot i of an array of texts.
abbrev pub text_at : SpansSeen → ℕ → Slot
text_at a i = slot_where (is_valid a.validity i) (text_slot (span a.offsets a.values i))

-- What an array of nulls means.
abbrev pub null_column : NullSeen → Column
null_column a = column_by a.type a.len (null_at a)

-- What an array of booleans means.
abbrev pub truth_column : BooleanSeen → Column
truth_column a = column_by a.type (length a.values) (truth_at a)

-- What an array of numbers means; f gives the number of each value.
abbrev pub number_column : {T : Type 0} → (T → Number) → PrimitiveSeen T → Column
number_column f a = column_by a.type (length a.values) (number_at f a)

-- What an array of bytes of a fixed number means.
abbrev pub fixed_column : FixedBinarySeen → Column
fixed_column a = column_by a.type a.len (fixed_at a)

-- What an array of bytes means.
abbrev pub bytes_column : SpansSeen → Column
bytes_column a = column_by a.type (span_count a.offsets) (bytes_at a)

-- What an array of texts means.
abbrev pub text_column : SpansSeen → Column
text_column a = column_by a.type (span_count a.offsets) (text_at a)

-- ---- equality, as a test

-- Equality of numbers.

abbrev pub same_number : Number → Number → Bool
same_number (whole x) (whole y) = int_eq x y
same_number (wide high low) (wide top bottom) = int_eq high top && nat_eq low bottom
same_number (day_time d t) (day_time e u) = int_eq d e && int_eq t u
same_number (month_day_nano m d t) (month_day_nano n e u) = int_eq m n && (int_eq d e && int_eq t u)
same_number _ _ = false

abbrev mutual
  -- Equality of slots.
  pub same_slot : Slot → Slot → Bool
  same_slot null_slot null_slot = true
  same_slot (truth_slot a) (truth_slot b) = same_bool a b
  same_slot (number_slot x) (number_slot y) = same_number x y
  same_slot (bytes_slot xs) (bytes_slot ys) = same_text xs ys
  same_slot (text_slot xs) (text_slot ys) = same_text xs ys
  same_slot (list_slot xs) (list_slot ys) = same_slots xs ys
  same_slot (record_slot xs) (record_slot ys) = same_slots xs ys
  same_slot (variant_slot z x) (variant_slot w y) = int_eq z w && same_slot x y
  same_slot _ _ = false

  -- Equality of lists of slots.
  pub same_slots : Slots → Slots → Bool
  same_slots no_slots no_slots = true
  same_slots (more_slots x xs) (more_slots y ys) = same_slot x y && same_slots xs ys
  same_slots _ _ = false

-- Equality of columns: one type and the same slots.
abbrev pub same_column : Column → Column → Bool
same_column a b = same_type a.type b.type && pointwise same_slot a.slots b.slots
