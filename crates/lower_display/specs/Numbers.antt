-- The text of a number, by the type of its column.
use Rattle.std.specs.Prelude.{ℕ, ℤ, pos, List, ◌++◌, codes}
use Rattle.std.specs.Fmt.{signed_decimal}
use Rattle.std.specs.Int.{int_div_euclid}
use Rattle.lower_types.specs.NumberTypes.{Number, whole, wide, day_time, month_day_nano}
use Rattle.lower.specs.declared.datatypes.IntervalUnit.TheVariants.{YearMonth}
use Rattle.lower.specs.TypeTrees.{Plain, timestamp, date32, date64, time32, time64, duration, interval, decimal, decimal256, TypeTree, plain, dictionary, extension}
use Rattle.lower_display.specs.Digits.{decimal_shown}
use Rattle.lower_display.specs.Wide.{wide_text}
use Rattle.lower_display.specs.Dates.{date_text}
use Rattle.lower_display.specs.Clocks.{time_text, timestamp_shown, unit_text}
use Rattle.lower_display.specs.Zones.{zone_minutes, zone_shown, minutes_of, suffix_of}
use Rattle.lower_display.specs.declared.form.Form.{Form}
use Rattle.lower_display.specs.declared.form.Form.TheVariants as Forms

-- An integer of a type without children.
abbrev pub plain_shown : Plain → ℤ → List ℕ
plain_shown date32 z = date_text z z
plain_shown date64 z = date_text (int_div_euclid z (pos 86_400_000)) z
plain_shown (time32 unit) z = time_text unit z
plain_shown (time64 unit) z = time_text unit z
plain_shown (timestamp unit zone) z = timestamp_shown unit (zone_minutes zone) (zone_shown zone) z
plain_shown (duration unit) z = signed_decimal z ++ unit_text unit
plain_shown (interval YearMonth) z = signed_decimal z ++ codes "m"
plain_shown (decimal precision scale) z = decimal_shown scale z
plain_shown (decimal256 precision scale) z = decimal_shown scale z
plain_shown _ z = signed_decimal z

-- An integer of a type; that of a dictionary is one of its values.
abbrev pub integer_shown : TypeTree → ℤ → List ℕ
integer_shown (plain p) z = plain_shown p z
integer_shown (dictionary keys t ordered) z = integer_shown t z
integer_shown (extension name t metadata) z = integer_shown t z
integer_shown _ z = signed_decimal z

-- The scale of a decimal type; of other types none.
abbrev pub plain_scale : Plain → ℕ
plain_scale (decimal precision scale) = scale
plain_scale (decimal256 precision scale) = scale
plain_scale _ = 0

abbrev pub type_scale : TypeTree → ℕ
type_scale (plain p) = plain_scale p
type_scale (dictionary keys t ordered) = type_scale t
type_scale (extension name t metadata) = type_scale t
type_scale _ = 0

-- Days and milliseconds; months, days and nanoseconds.
abbrev pub day_time_text : ℤ → ℤ → List ℕ
day_time_text days time = signed_decimal days ++ (codes "d" ++ (signed_decimal time ++ codes "ms"))

abbrev pub month_day_nano_text : ℤ → ℤ → ℤ → List ℕ
month_day_nano_text months days time =
    signed_decimal months ++ (codes "m" ++ (signed_decimal days ++ (codes "d" ++ (signed_decimal time ++ codes "ns"))))

-- A number; `integer` gives the text of an integer, and `scale` is that of 256-bit decimals.
abbrev pub number_text : (ℤ → List ℕ) → ℕ → Number → List ℕ
number_text integer scale (whole z) = integer z
number_text integer scale (day_time days time) = day_time_text days time
number_text integer scale (month_day_nano months days time) = month_day_nano_text months days time
number_text integer scale (wide high low) = wide_text scale high low

-- ---- the same, by the form that was chosen for a column

abbrev pub form_text : Form → ℤ → List ℕ
form_text Forms.Integer z = signed_decimal z
form_text Forms.Days z = date_text z z
form_text Forms.DateMilliseconds z = date_text (int_div_euclid z (pos 86_400_000)) z
form_text (Forms.Time unit) z = time_text unit z
form_text (Forms.Timestamp unit zone) z = timestamp_shown unit (minutes_of zone) (suffix_of zone) z
form_text (Forms.Duration unit) z = signed_decimal z ++ unit_text unit
form_text Forms.Months z = signed_decimal z ++ codes "m"
form_text (Forms.Decimal scale) z = decimal_shown scale z

-- The scale of a form of decimals; of others none.
abbrev pub form_scale : Form → ℕ
form_scale (Forms.Decimal scale) = scale
form_scale _ = 0
