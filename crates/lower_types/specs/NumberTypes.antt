-- How numbers of each type are stored.
-- (Arrow columnar format, "Byte Order (Endianness)" and "Data Types".)
use Rattle.std.specs.Prelude.{ℕ, ℤ, pos, List, drop}
use Rattle.std.specs.Int.{w16, w32, w64, w128}
use Rattle.lower_types.specs.declared.Endianness.{Endianness}
use Rattle.lower_types.specs.declared.Endianness.TheVariants.{Little, Big}
use Rattle.lower_types.specs.declared.PrimitiveType.{PrimitiveType}
use Rattle.lower_types.specs.declared.PrimitiveType.TheVariants.{Int8, Int16, Int32, Int64, Int128, Int256, UInt8, UInt16, UInt32, UInt64, Float16, Float32, Float64, DaysMs, MonthDayNano}
use Rattle.lower_types.specs.Numbers.{byte_in, signed_byte_in, unsigned_in, signed_in}

-- A number of a column: an integer; days and milliseconds; or months, days and nanoseconds. An
-- integer of 256 bits is given by its halves of 128 bits, the high one signed and the low one not.
pub data Number : Type 0 where
  whole : ℤ → Number
  wide : ℤ → ℕ → Number
  day_time : ℤ → ℤ → Number
  month_day_nano : ℤ → ℤ → ℤ → Number

-- How many bytes a number of a type has.
abbrev pub width_of : PrimitiveType → ℕ
width_of Int8 = 1
width_of Int16 = 2
width_of Int32 = 4
width_of Int64 = 8
width_of Int128 = 16
width_of Int256 = 32
width_of UInt8 = 1
width_of UInt16 = 2
width_of UInt32 = 4
width_of UInt64 = 8
width_of Float16 = 2
width_of Float32 = 4
width_of Float64 = 8
width_of DaysMs = 8
width_of MonthDayNano = 16

-- The high half of a number of 256 bits.
abbrev pub high_in : Endianness → List ℕ → ℤ
high_in Little bytes = signed_in w128 Little (drop 16 bytes)
high_in Big bytes = signed_in w128 Big bytes

-- The low half of a number of 256 bits.
abbrev pub low_in : Endianness → List ℕ → ℕ
low_in Little bytes = unsigned_in 16 Little bytes
low_in Big bytes = unsigned_in 16 Big (drop 16 bytes)

-- The number in the first bytes. Parts are read part by part. No array has
-- floats: their numbers mean nothing.
abbrev pub number_in : PrimitiveType → Endianness → List ℕ → Number
number_in Int8 order bytes = whole (signed_byte_in order bytes)
number_in Int16 order bytes = whole (signed_in w16 order bytes)
number_in Int32 order bytes = whole (signed_in w32 order bytes)
number_in Int64 order bytes = whole (signed_in w64 order bytes)
number_in Int128 order bytes = whole (signed_in w128 order bytes)
number_in Int256 order bytes = wide (high_in order bytes) (low_in order bytes)
number_in UInt8 order bytes = whole (pos (byte_in order bytes))
number_in UInt16 order bytes = whole (pos (unsigned_in 2 order bytes))
number_in UInt32 order bytes = whole (pos (unsigned_in 4 order bytes))
number_in UInt64 order bytes = whole (pos (unsigned_in 8 order bytes))
number_in Float16 order bytes = whole (pos 0)
number_in Float32 order bytes = whole (pos 0)
number_in Float64 order bytes = whole (pos 0)
number_in DaysMs order bytes = day_time (signed_in w32 order bytes) (signed_in w32 order (drop 4 bytes))
number_in MonthDayNano order bytes = month_day_nano (signed_in w32 order bytes) (signed_in w32 order (drop 4 bytes)) (signed_in w64 order (drop 8 bytes))
