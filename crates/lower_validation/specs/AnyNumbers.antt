-- What contracts know of an array of numbers of any type.
-- (Arrow columnar format, "Fixed-size Primitive Layout".)
use Rattle.std.specs.Prelude.{pos}
use Rattle.lower_types.specs.NumberTypes.{whole, wide, day_time, month_day_nano}
use Rattle.lower_types.specs.declared.PrimitiveType.TheVariants as Named
use Rattle.lower_validation.specs.Numbers.{NumbersSeen, numbers_in}
use Rattle.lower_validation.specs.declared.numbers.AnyPrimitive.{AnyPrimitive}
use Rattle.lower_validation.specs.declared.numbers.AnyPrimitive.TheVariants.{Int8, Int16, Int32, Int64, Int128, Int256, UInt8, UInt16, UInt32, UInt64, DaysMs, MonthDayNano}

-- What contracts know of an array of numbers, whatever their type.
abbrev pub numbers_seen : AnyPrimitive → NumbersSeen
numbers_seen (Int8 a) = numbers_in Named.Int8 (λ x. whole x) a
numbers_seen (Int16 a) = numbers_in Named.Int16 (λ x. whole x) a
numbers_seen (Int32 a) = numbers_in Named.Int32 (λ x. whole x) a
numbers_seen (Int64 a) = numbers_in Named.Int64 (λ x. whole x) a
numbers_seen (Int128 a) = numbers_in Named.Int128 (λ x. whole x) a
numbers_seen (Int256 a) = numbers_in Named.Int256 (λ x. wide x.high x.low) a
numbers_seen (UInt8 a) = numbers_in Named.UInt8 (λ x. whole (pos x)) a
numbers_seen (UInt16 a) = numbers_in Named.UInt16 (λ x. whole (pos x)) a
numbers_seen (UInt32 a) = numbers_in Named.UInt32 (λ x. whole (pos x)) a
numbers_seen (UInt64 a) = numbers_in Named.UInt64 (λ x. whole (pos x)) a
numbers_seen (DaysMs a) = numbers_in Named.DaysMs (λ x. day_time x.days x.milliseconds) a
numbers_seen (MonthDayNano a) = numbers_in Named.MonthDayNano (λ x. month_day_nano x.months x.days x.nanoseconds) a
