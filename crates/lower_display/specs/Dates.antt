-- Dates by their day numbers, in the proleptic Gregorian calendar.
-- (Schema.fbs, "Date": days since 1970-01-01. ISO 8601, calendar dates.)
use Rattle.std.specs.Prelude.{ℕ, zero, suc, ◌+◌, ◌-◌, nat_le, nat_lt, Bool, if◌then◌else◌, ℤ, pos, negsuc, ◌-ℤ◌, unsigned_abs, List, ◌++◌, codes}
use Rattle.std.specs.Fmt.{signed_decimal, sign_text}
use Rattle.std.specs.Int.{is_negative}
use Rattle.jiff_core.specs.Calendar.{days_of_years, days_of_months}
use Rattle.lower_display.specs.Digits.{pad2, pad4}

-- A day of the years -9999 to 9999, by its number from 1970-01-01.
abbrev pub is_day : ℤ → Bool
is_day (pos n) = nat_le n 2_932_896
is_day (negsuc n) = nat_lt n 4_371_587

-- The number of days from 1 January of the year -10000 to such a day.
abbrev pub days_before : ℤ → ℕ
days_before (pos n) = 4_371_953 + n
days_before (negsuc n) = 4_371_953 - suc n

-- The last index up to `top` whose count is at most x; counts ascend from 0.
unfoldable pub last_at_most : (ℕ → ℕ) → ℕ → ℕ → ℕ
last_at_most count zero x = 0
last_at_most count (suc top) x = if nat_le (count (suc top)) x then suc top else last_at_most count top x

-- How many years from the year -10000 are over on a day; the year of the day is the next one.
abbrev pub years_over : ℤ → ℕ
years_over day = last_at_most days_of_years 20_000 (days_before day)

abbrev pub year_of : ℤ → ℤ
year_of day = pos (years_over day) -ℤ pos 10_000

-- How many days of its year are over on a day.
abbrev pub days_over : ℤ → ℕ
days_over day = days_before day - days_of_years (years_over day)

-- How many months of its year are over on a day.
abbrev pub months_over : ℤ → ℕ
months_over day = last_at_most (days_of_months (year_of day)) 11 (days_over day)

abbrev pub month_of : ℤ → ℕ
month_of day = months_over day + 1

abbrev pub day_of : ℤ → ℕ
day_of day = days_over day - days_of_months (year_of day) (months_over day) + 1

-- A year in four digits, after `-` if it is before the year 0.
abbrev pub year_text : ℤ → List ℕ
year_text year = sign_text (is_negative year) ++ pad4 (unsigned_abs year)

-- `2021-01-31`: a year, a month and a day.
abbrev pub iso_date : ℤ → ℕ → ℕ → List ℕ
iso_date year month day = year_text year ++ (codes "-" ++ (pad2 month ++ (codes "-" ++ pad2 day)))

-- The date of a day.
abbrev pub day_text : ℤ → List ℕ
day_text day = iso_date (year_of day) (month_of day) (day_of day)

-- The date of a day that the number z means; z itself for days of other years.
abbrev pub date_text : ℤ → ℤ → List ℕ
date_text day z = if is_day day then day_text day else signed_decimal z
