-- What contracts know of numbers of any type.
-- (Arrow columnar format, "Fixed-size Primitive Layout".)
use Rattle.std.specs.Prelude.{◌≡◌, ℕ, pos, List, length, map, get_or}
use Rattle.lower_types.specs.NumberTypes.{Number, whole}
use Rattle.lower_types.specs.declared.PrimitiveType.{PrimitiveType}
use Rattle.lower.specs.TypeTrees.{TypeTree}
use Rattle.lower.specs.Physical.{physical}
use Rattle.lower.specs.declared.datatypes.physical_type.PhysicalType.TheVariants.{Primitive}
use Rattle.lower_flat_arrays.specs.Validities.{Validity, is_valid, ValidityFits, part, cut_validity}
use Rattle.lower_flat_arrays.specs.Primitives.{PrimitiveSeen}
use Rattle.lower_flat_arrays.specs.Columns.{Slot, number_slot, slot_where, Column, column_by}

-- An array of numbers: their type, the type of the array, how many there are,
-- the numbers, and their validity.
pub record NumbersSeen : Type 0 where
  pub number : PrimitiveType
  pub type : TypeTree
  pub len : ℕ
  pub numbers : List Number
  pub validity : Validity

-- What contracts know of an array of numbers; f gives the number of each value.
abbrev pub numbers_in : {T : Type 0} → PrimitiveType → (T → Number) → PrimitiveSeen T → NumbersSeen
numbers_in p f a = record { number = p; type = a.type; len = length a.values; numbers = map f a.values; validity = a.validity }

-- A valid array of numbers, whatever their type.
pub record IsNumbers (a : NumbersSeen) : Type 0 where
  pub lies : physical a.type ≡ Primitive a.number
  pub fits : ValidityFits a.validity a.len
  pub count : length a.numbers ≡ a.len

-- The n slots from index o on.
abbrev pub cut_numbers : ℕ → ℕ → NumbersSeen → NumbersSeen
cut_numbers o n a = record {
  number = a.number;
  type = a.type;
  len = n;
  numbers = part o n a.numbers;
  validity = cut_validity o n a.validity;
}

-- Slot i of an array of numbers.
abbrev pub numbers_at : NumbersSeen → ℕ → Slot
numbers_at a i = slot_where (is_valid a.validity i) (number_slot (get_or a.numbers i (whole (pos 0))))

-- What the array means.
abbrev pub numbers_column : NumbersSeen → Column
numbers_column a = column_by a.type a.len (numbers_at a)
