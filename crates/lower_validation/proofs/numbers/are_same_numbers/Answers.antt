use Rattle.lower_validation.proofs.numbers.are_same_numbers.Goals as goal

pub returns-in-Int8-Int8 : goal.returns-in-Int8-Int8
returns-in-Int8-Int8 c = rw (c.in-Int8-Int8.is-0, c.in-Int8-Int8.is-1) c.is_same_column.ensures.exact

pub returns-in-Int16-Int16 : goal.returns-in-Int16-Int16
returns-in-Int16-Int16 c = rw (c.in-Int16-Int16.is-0, c.in-Int16-Int16.is-1) c.is_same_column-in-Int16-Int16.ensures.exact

pub returns-in-Int32-Int32 : goal.returns-in-Int32-Int32
returns-in-Int32-Int32 c = rw (c.in-Int32-Int32.is-0, c.in-Int32-Int32.is-1) c.is_same_column-in-Int32-Int32.ensures.exact

pub returns-in-Int64-Int64 : goal.returns-in-Int64-Int64
returns-in-Int64-Int64 c = rw (c.in-Int64-Int64.is-0, c.in-Int64-Int64.is-1) c.is_same_column-in-Int64-Int64.ensures.exact

pub returns-in-Int128-Int128 : goal.returns-in-Int128-Int128
returns-in-Int128-Int128 c = rw (c.in-Int128-Int128.is-0, c.in-Int128-Int128.is-1) c.is_same_column-in-Int128-Int128.ensures.exact

pub returns-in-Int256-Int256 : goal.returns-in-Int256-Int256
returns-in-Int256-Int256 c = rw (c.in-Int256-Int256.is-0, c.in-Int256-Int256.is-1) c.is_same_column-in-Int256-Int256.ensures.exact

pub returns-in-UInt8-UInt8 : goal.returns-in-UInt8-UInt8
returns-in-UInt8-UInt8 c = rw (c.in-UInt8-UInt8.is-0, c.in-UInt8-UInt8.is-1) c.is_same_column-in-UInt8-UInt8.ensures.exact

pub returns-in-UInt16-UInt16 : goal.returns-in-UInt16-UInt16
returns-in-UInt16-UInt16 c = rw (c.in-UInt16-UInt16.is-0, c.in-UInt16-UInt16.is-1) c.is_same_column-in-UInt16-UInt16.ensures.exact

pub returns-in-UInt32-UInt32 : goal.returns-in-UInt32-UInt32
returns-in-UInt32-UInt32 c = rw (c.in-UInt32-UInt32.is-0, c.in-UInt32-UInt32.is-1) c.is_same_column-in-UInt32-UInt32.ensures.exact

pub returns-in-UInt64-UInt64 : goal.returns-in-UInt64-UInt64
returns-in-UInt64-UInt64 c = rw (c.in-UInt64-UInt64.is-0, c.in-UInt64-UInt64.is-1) c.is_same_column-in-UInt64-UInt64.ensures.exact

pub returns-in-DaysMs-DaysMs : goal.returns-in-DaysMs-DaysMs
returns-in-DaysMs-DaysMs c = rw (c.in-DaysMs-DaysMs.is-0, c.in-DaysMs-DaysMs.is-1) c.is_same_column-in-DaysMs-DaysMs.ensures.exact

pub returns-in-MonthDayNano-MonthDayNano : goal.returns-in-MonthDayNano-MonthDayNano
returns-in-MonthDayNano-MonthDayNano c = rw (c.in-MonthDayNano-MonthDayNano.is-0, c.in-MonthDayNano-MonthDayNano.is-1) c.is_same_column-in-MonthDayNano-MonthDayNano.ensures.exact
