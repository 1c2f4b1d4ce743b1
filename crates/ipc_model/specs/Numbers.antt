-- Numbers at an offset of some bytes; what their bytes mean is in `lower_types`.
-- (Arrow columnar format, "Byte Order (Endianness)" and "Fixed-size Primitive Layout".)
use Rattle.std.specs.Prelude.{ℕ, ℤ, pos, ◌+◌, nat_lt, if◌then◌else◌, List, length, drop, Option, None, Some}
use Rattle.lower_types.specs.NumberTypes.{Number, whole, width_of, number_in}
use Rattle.lower_types.specs.declared.Endianness.{Endianness}
use Rattle.lower_types.specs.declared.PrimitiveType.{PrimitiveType}

-- The integer that a number is; 0 for a number of several parts.
abbrev pub integer_of : Number → ℤ
integer_of (whole z) = z
integer_of _ = pos 0

-- The number at offset p of some bytes; none if it reaches past their end.
abbrev pub number_at : PrimitiveType → Endianness → List ℕ → ℕ → Option Number
number_at form order bytes p =
    if nat_lt (length bytes) (p + width_of form) then None else Some (number_in form order (drop p bytes))
