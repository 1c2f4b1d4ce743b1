-- What a value means that was read from one slot of an array.
-- (Arrow columnar format, "Physical Memory Layout".)
use Rattle.std.specs.Prelude.{ℕ, ℤ, ◌+◌, ◌-◌, ◌<◌, ◌≤◌, List, [], ◌∷◌, map, length}
use Rattle.lower_types.specs.NumberTypes.{Number, whole, wide, day_time, month_day_nano}
use Rattle.lower_arrays.specs.Layouts.{layouts, heights, len_of}
use Rattle.lower_arrays.specs.Children.{AllReach}
use Rattle.lower_arrays.specs.Slots.{Slot, null_slot, truth_slot, number_slot, bytes_slot, text_slot, list_slot, record_slot, variant_slot, slots_of, slots_from, slot_at}
use Rattle.lower_arrays.specs.AnyLayouts.{layout_of}
use Rattle.lower_arrays.specs.declared.array.AnyArray.{AnyArray}
use Rattle.lower_arrays.specs.declared.value.Scalar.{Scalar}
use Rattle.lower_arrays.specs.declared.value.Scalar.TheVariants.{Whole, Wide, DayTime, MonthDayNano}
use Rattle.lower_arrays.specs.declared.value.Nesting.{Nesting}
use Rattle.lower_arrays.specs.declared.value.Nesting.TheVariants.{List as ListOf, Record, Variant}
use Rattle.lower_arrays.specs.declared.value.Value.{Value}
use Rattle.lower_arrays.specs.declared.value.ValueIter.{ValueIter}
use Rattle.lower_arrays.specs.declared.value.Value.TheVariants.{Null, Truth, Number as NumberOf, Bytes, Text, Nested}

-- The number that a scalar is.
abbrev pub scalar_number : Scalar → Number
scalar_number (Whole z) = whole z
scalar_number (Wide x) = wide x.high x.low
scalar_number (DayTime x) = day_time x.days x.milliseconds
scalar_number (MonthDayNano x) = month_day_nano x.months x.days x.nanoseconds

-- ---- slots of children

-- How many slots of a child a nested value takes.
abbrev pub span : Nesting → ℕ
span (ListOf n) = n
span _ = 1

-- A nested value takes the first child alone.
abbrev pub IsOneChild : Nesting → Type 0
IsOneChild Record = ⊥
IsOneChild _ = Unit {0}

-- The slot that a nested value of one child is; f gives the child's slots.
abbrev pub child_slot : Nesting → (ℕ → Slot) → ℕ → Slot
child_slot (ListOf n) f i = list_slot (slots_of (slots_from f i n))
child_slot Record f i = null_slot
child_slot (Variant id) f i = variant_slot id (f i)

-- Slot i of each array.
abbrev pub record_slots : List AnyArray → ℕ → List Slot
record_slots children i = map (λ c. slot_at (layout_of c) i) children

-- Slot i of the first array.
abbrev pub first_slot : List AnyArray → ℕ → Slot
first_slot [] i = null_slot
first_slot (c ∷ cs) i = slot_at (layout_of c) i

-- The slot that a nested value is.
abbrev pub nested_slot : Nesting → List AnyArray → ℕ → Slot
nested_slot Record cs i = record_slot (slots_of (record_slots cs i))
nested_slot k cs i = child_slot k (first_slot cs) i

-- The slots of a nested value are within its children.
abbrev pub NestedFits : Nesting → List AnyArray → ℕ → Type 0
NestedFits Record cs i = AllReach (i + 1) (layouts (map layout_of cs))
NestedFits k cs i = (0 < length cs) × AllReach (i + span k) (layouts (map layout_of cs))

-- ---- values

-- The slot that a value is.
abbrev pub value_slot : Value → Slot
value_slot Null = null_slot
value_slot (Truth b) = truth_slot b
value_slot (NumberOf n) = number_slot (scalar_number n)
value_slot (Bytes xs) = bytes_slot xs.now
value_slot (Text xs) = text_slot xs.now
value_slot (Nested k cs i) = nested_slot k cs.now i

-- The slots of a value are within their arrays.
abbrev pub ValueFits : Value → Type 0
ValueFits (Nested k cs i) = NestedFits k cs.now i
ValueFits _ = Unit {0}

-- How many levels are below a value.
abbrev pub value_height : Value → ℕ
value_height (Nested k cs i) = heights (layouts (map layout_of cs.now))
value_height _ = 0

-- The slots that an iterator over an array hasn't visited, in order.
abbrev pub values_left : ValueIter → List Slot
values_left rest =
    let l = layout_of rest.array.now in slots_from (slot_at l) rest.index (len_of l - rest.index)
