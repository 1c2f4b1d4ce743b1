use Rattle.std.proofs.Common.{pos, ap}
use Rattle.lower_types.specs.NumberTypes.{whole, wide, day_time, month_day_nano}
use Rattle.lower_types.specs.declared.PrimitiveType.TheVariants as Named
use Rattle.lower_validation.specs.AnyNumbers.{numbers_seen}
use Rattle.lower_validation.proofs.Parts.{numbers_part}
use Rattle.lower_validation.proofs.numbers.AnyPrimitive.sliced.Goals as goal

pub returns-in-Int8 : goal.returns-in-Int8
returns-in-Int8 c =
    numbers_part Named.Int8 (λ x. whole x) c.args.offset c.args.len c.in-Int8.array c.sliced.result (numbers_seen c.args.self)
    c.sliced.ensures (ap numbers_seen c.in-Int8.is) c.requires

pub returns-in-Int16 : goal.returns-in-Int16
returns-in-Int16 c =
    numbers_part Named.Int16 (λ x. whole x) c.args.offset c.args.len c.in-Int16.array c.sliced-in-Int16.result (numbers_seen c.args.self)
    c.sliced-in-Int16.ensures (ap numbers_seen c.in-Int16.is) c.requires

pub returns-in-Int32 : goal.returns-in-Int32
returns-in-Int32 c =
    numbers_part Named.Int32 (λ x. whole x) c.args.offset c.args.len c.in-Int32.array c.sliced-in-Int32.result (numbers_seen c.args.self)
    c.sliced-in-Int32.ensures (ap numbers_seen c.in-Int32.is) c.requires

pub returns-in-Int64 : goal.returns-in-Int64
returns-in-Int64 c =
    numbers_part Named.Int64 (λ x. whole x) c.args.offset c.args.len c.in-Int64.array c.sliced-in-Int64.result (numbers_seen c.args.self)
    c.sliced-in-Int64.ensures (ap numbers_seen c.in-Int64.is) c.requires

pub returns-in-Int128 : goal.returns-in-Int128
returns-in-Int128 c =
    numbers_part Named.Int128 (λ x. whole x) c.args.offset c.args.len c.in-Int128.array c.sliced-in-Int128.result (numbers_seen c.args.self)
    c.sliced-in-Int128.ensures (ap numbers_seen c.in-Int128.is) c.requires

pub returns-in-Int256 : goal.returns-in-Int256
returns-in-Int256 c =
    numbers_part Named.Int256 (λ x. wide x.high x.low) c.args.offset c.args.len c.in-Int256.array c.sliced-in-Int256.result (numbers_seen c.args.self)
    c.sliced-in-Int256.ensures (ap numbers_seen c.in-Int256.is) c.requires

pub returns-in-UInt8 : goal.returns-in-UInt8
returns-in-UInt8 c =
    numbers_part Named.UInt8 (λ x. whole (pos x)) c.args.offset c.args.len c.in-UInt8.array c.sliced-in-UInt8.result (numbers_seen c.args.self)
    c.sliced-in-UInt8.ensures (ap numbers_seen c.in-UInt8.is) c.requires

pub returns-in-UInt16 : goal.returns-in-UInt16
returns-in-UInt16 c =
    numbers_part Named.UInt16 (λ x. whole (pos x)) c.args.offset c.args.len c.in-UInt16.array c.sliced-in-UInt16.result (numbers_seen c.args.self)
    c.sliced-in-UInt16.ensures (ap numbers_seen c.in-UInt16.is) c.requires

pub returns-in-UInt32 : goal.returns-in-UInt32
returns-in-UInt32 c =
    numbers_part Named.UInt32 (λ x. whole (pos x)) c.args.offset c.args.len c.in-UInt32.array c.sliced-in-UInt32.result (numbers_seen c.args.self)
    c.sliced-in-UInt32.ensures (ap numbers_seen c.in-UInt32.is) c.requires

pub returns-in-UInt64 : goal.returns-in-UInt64
returns-in-UInt64 c =
    numbers_part Named.UInt64 (λ x. whole (pos x)) c.args.offset c.args.len c.in-UInt64.array c.sliced-in-UInt64.result (numbers_seen c.args.self)
    c.sliced-in-UInt64.ensures (ap numbers_seen c.in-UInt64.is) c.requires

pub returns-in-DaysMs : goal.returns-in-DaysMs
returns-in-DaysMs c =
    numbers_part Named.DaysMs (λ x. day_time x.days x.milliseconds) c.args.offset c.args.len c.in-DaysMs.array c.sliced-in-DaysMs.result (numbers_seen c.args.self)
    c.sliced-in-DaysMs.ensures (ap numbers_seen c.in-DaysMs.is) c.requires

pub returns-in-MonthDayNano : goal.returns-in-MonthDayNano
returns-in-MonthDayNano c =
    numbers_part Named.MonthDayNano (λ x. month_day_nano x.months x.days x.nanoseconds) c.args.offset c.args.len c.in-MonthDayNano.array c.sliced-in-MonthDayNano.result (numbers_seen c.args.self)
    c.sliced-in-MonthDayNano.ensures (ap numbers_seen c.in-MonthDayNano.is) c.requires
