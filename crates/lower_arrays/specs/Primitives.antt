-- The layouts of arrays of numbers.
-- (Arrow columnar format, "Fixed-size Primitive Layout".)
use Rattle.std.specs.Prelude.{◌≡◌}
use Rattle.lower_types.specs.NumberTypes.{Number}
use Rattle.lower_types.specs.declared.PrimitiveType.{PrimitiveType}
use Rattle.lower_arrays.specs.Layouts.{Parts, numbers, Layout, layout, level, no_layouts}
use Rattle.lower_validation.specs.Numbers.{NumbersSeen, numbers_in}
pub use Rattle.lower_flat_arrays.specs.Primitives.{PrimitiveSeen}

-- The layout of an array of numbers of any type.
abbrev pub numbers_layout : NumbersSeen → Layout
numbers_layout a = layout (record { type = a.type; len = a.len; validity = a.validity; parts = numbers a.number a.numbers }) no_layouts

-- The layout of an array of numbers; `number` gives the number of each value.
abbrev pub primitive_layout : {T : Type 0} → PrimitiveType → (T → Number) → PrimitiveSeen T → Layout
primitive_layout p number a = numbers_layout (numbers_in p number a)

-- The parts are numbers of the type.
abbrev pub AreNumbersOf : PrimitiveType → Parts → Type 0
AreNumbersOf p (numbers q xs) = q ≡ p
AreNumbersOf p _ = ⊥

-- The array has numbers of the type.
abbrev pub IsPrimitiveOf : PrimitiveType → Layout → Type 0
IsPrimitiveOf p l = AreNumbersOf p (level l).parts
