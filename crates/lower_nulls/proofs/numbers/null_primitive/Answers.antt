use Rattle.std.proofs.Common.{ap, ◌∙◌}
use Rattle.lower.specs.TypeViews.{type_view}
use Rattle.lower.specs.declared.datatypes.physical_type.PhysicalType.TheVariants.{Primitive}
use Rattle.lower_types.specs.declared.PrimitiveType.TheVariants.{Int8, Int16, Int32, Int64, Int128, Int256, UInt8, UInt16, UInt32, UInt64, DaysMs, MonthDayNano}
use Rattle.lower_nulls.proofs.FlatNulls.{numbers_null}
use Rattle.lower_nulls.proofs.numbers.null_primitive.Goals as goal

pub returns-in_ok-null_numbers-in-Int8 : goal.returns-in_ok-null_numbers-in-Int8
returns-in_ok-null_numbers-in-Int8 c =
    let ok = c.in_ok-null_numbers-in-Int8 in
    numbers_null Int8 _ (type_view c.args.data_type) c.args.length ok.field-0 (c.requires.lies ∙ ap Primitive c.in-Int8.is) ok.ensures

pub returns-in_ok-null_numbers-in-Int16 : goal.returns-in_ok-null_numbers-in-Int16
returns-in_ok-null_numbers-in-Int16 c =
    let ok = c.in_ok-null_numbers-in-Int16 in
    numbers_null Int16 _ (type_view c.args.data_type) c.args.length ok.field-0 (c.requires.lies ∙ ap Primitive c.in-Int16.is) ok.ensures

pub returns-in_ok-null_numbers-in-Int32 : goal.returns-in_ok-null_numbers-in-Int32
returns-in_ok-null_numbers-in-Int32 c =
    let ok = c.in_ok-null_numbers-in-Int32 in
    numbers_null Int32 _ (type_view c.args.data_type) c.args.length ok.field-0 (c.requires.lies ∙ ap Primitive c.in-Int32.is) ok.ensures

pub returns-in_ok-null_numbers-in-Int64 : goal.returns-in_ok-null_numbers-in-Int64
returns-in_ok-null_numbers-in-Int64 c =
    let ok = c.in_ok-null_numbers-in-Int64 in
    numbers_null Int64 _ (type_view c.args.data_type) c.args.length ok.field-0 (c.requires.lies ∙ ap Primitive c.in-Int64.is) ok.ensures

pub returns-in_ok-null_numbers-in-Int128 : goal.returns-in_ok-null_numbers-in-Int128
returns-in_ok-null_numbers-in-Int128 c =
    let ok = c.in_ok-null_numbers-in-Int128 in
    numbers_null Int128 _ (type_view c.args.data_type) c.args.length ok.field-0 (c.requires.lies ∙ ap Primitive c.in-Int128.is) ok.ensures

pub returns-in_ok-null_numbers-in-Int256 : goal.returns-in_ok-null_numbers-in-Int256
returns-in_ok-null_numbers-in-Int256 c =
    let ok = c.in_ok-null_numbers-in-Int256 in
    numbers_null Int256 _ (type_view c.args.data_type) c.args.length ok.field-0 (c.requires.lies ∙ ap Primitive c.in-Int256.is) ok.ensures

pub returns-in_ok-null_numbers-in-UInt8 : goal.returns-in_ok-null_numbers-in-UInt8
returns-in_ok-null_numbers-in-UInt8 c =
    let ok = c.in_ok-null_numbers-in-UInt8 in
    numbers_null UInt8 _ (type_view c.args.data_type) c.args.length ok.field-0 (c.requires.lies ∙ ap Primitive c.in-UInt8.is) ok.ensures

pub returns-in_ok-null_numbers-in-UInt16 : goal.returns-in_ok-null_numbers-in-UInt16
returns-in_ok-null_numbers-in-UInt16 c =
    let ok = c.in_ok-null_numbers-in-UInt16 in
    numbers_null UInt16 _ (type_view c.args.data_type) c.args.length ok.field-0 (c.requires.lies ∙ ap Primitive c.in-UInt16.is) ok.ensures

pub returns-in_ok-null_numbers-in-UInt32 : goal.returns-in_ok-null_numbers-in-UInt32
returns-in_ok-null_numbers-in-UInt32 c =
    let ok = c.in_ok-null_numbers-in-UInt32 in
    numbers_null UInt32 _ (type_view c.args.data_type) c.args.length ok.field-0 (c.requires.lies ∙ ap Primitive c.in-UInt32.is) ok.ensures

pub returns-in_ok-null_numbers-in-UInt64 : goal.returns-in_ok-null_numbers-in-UInt64
returns-in_ok-null_numbers-in-UInt64 c =
    let ok = c.in_ok-null_numbers-in-UInt64 in
    numbers_null UInt64 _ (type_view c.args.data_type) c.args.length ok.field-0 (c.requires.lies ∙ ap Primitive c.in-UInt64.is) ok.ensures

pub returns-in_ok-null_numbers-in-DaysMs : goal.returns-in_ok-null_numbers-in-DaysMs
returns-in_ok-null_numbers-in-DaysMs c =
    let ok = c.in_ok-null_numbers-in-DaysMs in
    numbers_null DaysMs _ (type_view c.args.data_type) c.args.length ok.field-0 (c.requires.lies ∙ ap Primitive c.in-DaysMs.is) ok.ensures

pub returns-in_ok-null_numbers-in-MonthDayNano : goal.returns-in_ok-null_numbers-in-MonthDayNano
returns-in_ok-null_numbers-in-MonthDayNano c =
    let ok = c.in_ok-null_numbers-in-MonthDayNano in
    numbers_null MonthDayNano _ (type_view c.args.data_type) c.args.length ok.field-0 (c.requires.lies ∙ ap Primitive c.in-MonthDayNano.is) ok.ensures
