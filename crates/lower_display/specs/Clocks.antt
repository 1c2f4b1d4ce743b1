-- Times of day, time stamps and time spans.
-- (Schema.fbs, "Time", "Timestamp", "Duration". ISO 8601, times of day.)
use Rattle.std.specs.Prelude.{ℕ, ◌*◌, ◌/◌, ◌%◌, ◌^◌, nat_lt, Bool, if◌then◌else◌, ℤ, pos, negsuc, ◌+ℤ◌, ◌*ℤ◌, unsigned_abs, List, [], ◌++◌, codes}
use Rattle.std.specs.Fmt.{signed_decimal, sign_text}
use Rattle.std.specs.Int.{is_negative, int_div_euclid, int_rem_euclid}
use Rattle.lower.specs.declared.datatypes.TimeUnit.{TimeUnit}
use Rattle.lower.specs.declared.datatypes.TimeUnit.TheVariants.{Second, Millisecond, Microsecond, Nanosecond}
use Rattle.lower_display.specs.Digits.{pad2, pad3}
use Rattle.lower_display.specs.Dates.{is_day, day_text}

-- How many units a second, a minute and a day have.
abbrev pub per_second : TimeUnit → ℕ
per_second Second = 1
per_second Millisecond = 1_000
per_second Microsecond = 1_000_000
per_second Nanosecond = 1_000_000_000

abbrev pub per_minute : TimeUnit → ℕ
per_minute unit = 60 * per_second unit

abbrev pub per_day : TimeUnit → ℕ
per_day unit = 86_400 * per_second unit

-- A part of a second, in all digits that the unit has.
abbrev pub fraction_text : TimeUnit → ℕ → List ℕ
fraction_text Second n = []
fraction_text Millisecond n = codes "." ++ pad3 n
fraction_text Microsecond n = codes "." ++ (pad3 (n / 1_000) ++ pad3 (n % 1_000))
fraction_text Nanosecond n = codes "." ++ (pad3 (n / 1_000_000) ++ (pad3 (n / 1_000 % 1_000) ++ pad3 (n % 1_000)))

-- `12:34:56`: hours, minutes and seconds.
abbrev pub hours_text : ℕ → List ℕ
hours_text seconds =
    pad2 (seconds / 3_600) ++ (codes ":" ++ (pad2 (seconds / 60 % 60) ++ (codes ":" ++ pad2 (seconds % 60))))

-- `12:34:56.789`: the time that is n units after midnight.
abbrev pub clock_text : TimeUnit → ℕ → List ℕ
clock_text unit n = hours_text (n / per_second unit) ++ fraction_text unit (n % per_second unit)

-- A time of day. A number that is no time of day is written in the same way, with all its hours.
abbrev pub time_text : TimeUnit → ℤ → List ℕ
time_text unit z = sign_text (is_negative z) ++ clock_text unit (unsigned_abs z)

-- A number of 64 bits.
abbrev pub fits_64 : ℤ → Bool
fits_64 (pos n) = nat_lt n (2 ^ 63)
fits_64 (negsuc n) = nat_lt n (2 ^ 63)

-- `2021-01-31T12:34:56.789`: the time that is `clock` units after the midnight of a day, and a
-- suffix.
abbrev pub moment_text : TimeUnit → ℤ → ℕ → List ℕ → List ℕ
moment_text unit day clock suffix = day_text day ++ (codes "T" ++ (clock_text unit clock ++ suffix))

-- The same, or z itself for days of other years than those that `is_day` has.
abbrev pub at_text : TimeUnit → ℤ → ℕ → List ℕ → ℤ → List ℕ
at_text unit day clock suffix z = if is_day day then moment_text unit day clock suffix else signed_decimal z

-- The same of the time that is t units after 1970-01-01T00:00:00.
abbrev pub local_text : TimeUnit → ℤ → List ℕ → ℤ → List ℕ
local_text unit t suffix z =
    at_text unit (int_div_euclid t (pos (per_day unit))) (unsigned_abs (int_rem_euclid t (pos (per_day unit)))) suffix z

-- A time stamp of a zone that is so many minutes east of UTC, and the zone.
abbrev pub timestamp_shown : TimeUnit → ℤ → List ℕ → ℤ → List ℕ
timestamp_shown unit minutes suffix z =
    if fits_64 z then local_text unit (z +ℤ minutes *ℤ pos (per_minute unit)) suffix z else signed_decimal z

-- What follows the number of a time span.
abbrev pub unit_text : TimeUnit → List ℕ
unit_text Second = codes "s"
unit_text Millisecond = codes "ms"
unit_text Microsecond = codes "us"
unit_text Nanosecond = codes "ns"
