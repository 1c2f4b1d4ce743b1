-- Day numbers: which there are, and the dates that they mean.
use Rattle.std.proofs.Common.{arith, rules, refl, sym, ap, ◌∙◌, subst, ◌≡◌, ℕ, zero, suc, ◌+◌, ◌-◌, ◌^◌, ◌<◌, ◌≤◌, nat_le, Bool, true, false, if◌then◌else◌, ℤ, pos, negsuc, ◌+ℤ◌, ◌-ℤ◌, ◌*ℤ◌, unsigned_abs, FitsSigned, w64, List}
use Rattle.std.specs.Fmt.{signed_decimal}
use borrow.Author.Differences.{up, down}
use Rattle.jiff_core.specs.declared.civil.date.Date.{Date}
use Rattle.jiff_core.specs.Date.{epoch_day}
use Rattle.jiff_core.specs.Calendar.{IsEpochDay, IsYear, IsCivilDate, days_in_year, days_in_month, days_of_years, days_of_months, day_of_year, day_count, days_from_civil}
use Rattle.jiff_core.proofs.SignedLemmas.{signed_arith, fits_between}
use Rattle.jiff_core.proofs.CalendarLemmas.{days_from_civil-day_count, day_of_year_bound, days_of_months_more, days_of_months_mono}
use Rattle.jiff_core.proofs.MarchLemmas.{days_of_years-suc}
use Rattle.lower.specs.declared.datatypes.TimeUnit.{TimeUnit}
use Rattle.lower_display.specs.Dates.{is_day, days_before, last_at_most, years_over, year_of, days_over, months_over, month_of, day_of, iso_date, day_text, date_text}
use Rattle.lower_display.specs.Clocks.{fits_64, per_minute, moment_text, at_text, local_text, timestamp_shown}

not_true : (b : Bool) → (b ≡ true → ⊥) → b ≡ false
not_true true h = absurd (h refl)
not_true false _ = refl

-- ---- which days there are
pub day_true : (z : ℤ) → IsEpochDay z → is_day z ≡ true
day_true (pos n) h = let k : n ≤ 2_932_896 = omega (arith, signed_arith, h.1) in search (rules, k)
day_true (negsuc n) h = let k : n < 4_371_587 = omega (arith, signed_arith, h.0) in search (rules, k)

pub true_day : (z : ℤ) → is_day z ≡ true → IsEpochDay z
true_day (pos n) h = let k : n ≤ 2_932_896 = search (rules, h) in (omega (arith, signed_arith), omega (arith, signed_arith))
true_day (negsuc n) h = let k : n < 4_371_587 = search (rules, h) in (omega (arith, signed_arith), omega (arith, signed_arith))

pub day_false : (z : ℤ) → (IsEpochDay z → ⊥) → is_day z ≡ false
day_false z h = not_true (is_day z) (λ there. h (true_day z there))

day_fits : (z : ℤ) → is_day z ≡ true → FitsSigned w64 z
day_fits (pos n) h = let k : n ≤ 2_932_896 = search (rules, h) in fits_between w64 (pos n) (omega arith, omega arith)
day_fits (negsuc n) h = let k : n < 4_371_587 = search (rules, h) in fits_between w64 (negsuc n) (omega arith, omega arith)

-- a number of more than 64 bits is no day
pub wide_false : (z : ℤ) → (FitsSigned w64 z → ⊥) → is_day z ≡ false
wide_false z h = not_true (is_day z) (λ there. h (day_fits z there))

pub ruleset day_is = (day_true, day_false, wide_false)

-- ---- numbers of 64 bits
true_fits : (z : ℤ) → fits_64 z ≡ true → FitsSigned w64 z
true_fits (pos n) h = let k : n < 2 ^ 63 = search (rules, h) in fits_between w64 (pos n) (omega arith, omega arith)
true_fits (negsuc n) h = let k : n < 2 ^ 63 = search (rules, h) in fits_between w64 (negsuc n) (omega arith, omega arith)

pub fits_true : (z : ℤ) → FitsSigned w64 z → fits_64 z ≡ true
fits_true (pos n) h = let k : n < 2 ^ 63 = omega (arith, signed_arith) in search (rules, k)
fits_true (negsuc n) h = let k : n < 2 ^ 63 = omega (arith, signed_arith) in search (rules, k)

pub fits_false : (z : ℤ) → (FitsSigned w64 z → ⊥) → fits_64 z ≡ false
fits_false z h = not_true (fits_64 z) (λ fits. h (true_fits z fits))

pub ruleset fits_is = (fits_true, fits_false)

-- ---- the last index whose count isn't above x
pick : (b : Bool) (s r k : ℕ) → (b ≡ true → s ≡ k) → (b ≡ false → r ≡ k) → (if b then s else r) ≡ k
pick true s r k left _ = left refl
pick false s r k _ right = right refl

le-true : (a b : ℕ) → nat_le a b ≡ true → a ≤ b
le-true a b h = search (rules, h)

le-false : (a b : ℕ) → nat_le a b ≡ false → b < a
le-false a b h = search (rules, h)

last_is : (f : ℕ → ℕ) (top k x : ℕ) → k ≤ top → f k ≤ x → ((j : ℕ) → k < j → x < f j) → last_at_most f top x ≡ k
unfolding last_at_most
last_is f zero k x small at above = omega arith
last_is f (suc t) k x small at above =
    pick (nat_le (f (suc t)) x) (suc t) (last_at_most f t x) k
    (λ low.
    let past : (k < suc t → ⊥) = λ l. let over = above (suc t) l in let here = le-true (f (suc t)) x low in omega (arith, over, here) in
    omega (arith, past))
    (λ high.
    let over = le-false (f (suc t)) x high in
    let apart : (k ≡ suc t → ⊥) = λ e. let here : f (suc t) ≤ x = subst (λ (j : ℕ). f j ≤ x) e at in omega (arith, here, over) in
    last_is f t k x (omega (arith, apart)) at above)

-- ---- years
years_up : (n k : ℕ) → days_of_years n ≤ days_of_years (k + n)
years_up n zero = let same : 0 + n ≡ n = omega arith in rw same (omega arith)
years_up n (suc k) =
    let next : suc k + n ≡ suc (k + n) = omega arith in
    rw next (omega (arith, years_up n k, days_of_years-suc (k + n)))

years_above : (n j : ℕ) → n ≤ j → days_of_years n ≤ days_of_years j
years_above n j l =
    let e : j - n + n ≡ j = omega (arith, l) in
    subst (λ (i : ℕ). days_of_years n ≤ days_of_years i) e (years_up n (j - n))

year_more : (n : ℕ) → days_of_years (suc n) ≡ days_of_years n + days_in_year (pos n -ℤ pos 10000)
unfolding days_of_years
year_more n = refl

-- the years from the year -10000 to a year
year_here : (y : ℤ) → IsYear y → y +ℤ pos 10000 ≡ pos (up y + 10000 - down y)
year_here y h = omega (arith, signed_arith)

year_back : (y : ℤ) → IsYear y → pos (unsigned_abs (y +ℤ pos 10000)) -ℤ pos 10000 ≡ y
year_back y h =
    let back : pos (up y + 10000 - down y) -ℤ pos 10000 ≡ y = omega (arith, signed_arith) in
    ap (λ (x : ℤ). pos (unsigned_abs x) -ℤ pos 10000) (year_here y h) ∙ back

year_small : (y : ℤ) → IsYear y → unsigned_abs (y +ℤ pos 10000) ≤ 20000
year_small y h = let here = ap unsigned_abs (year_here y h) in omega (arith, signed_arith, here)

before_is : (z : ℤ) (c : ℕ) → up z + 4_371_953 ≡ down z + c → days_before z ≡ c
before_is (pos n) c e = omega (arith, signed_arith)
before_is (negsuc n) c e = omega (arith, signed_arith)

count_is : (y : ℤ) (m d : ℕ) → day_count y m d ≡ days_of_years (unsigned_abs (y +ℤ pos 10000)) + (day_of_year y m d - 1)
unfolding day_count
count_is y m d = refl

-- ---- the parts of a date
module _ (y : ℤ) (m d : ℕ) (valid : IsCivilDate y m d) where
  abbrev years : ℕ
  years = unsigned_abs (y +ℤ pos 10000)

  before : days_before (days_from_civil y m d) ≡ days_of_years years + (day_of_year y m d - 1)
  before = before_is (days_from_civil y m d) (day_count y m d) (days_from_civil-day_count y m d) ∙ count_is y m d

  year_end : days_of_years years + (day_of_year y m d - 1) < days_of_years (suc years)
  year_end =
      let back = year_back y valid.0 in
      let more : days_of_years (suc years) ≡ days_of_years years + days_in_year y = year_more years ∙ ap (λ (x : ℤ). days_of_years years + days_in_year x) back in
      let bound = day_of_year_bound y m d valid in
      let first : 1 ≤ d = valid.2.0 in
      omega (arith, more, bound, first)

  over : years_over (days_from_civil y m d) ≡ years
  over =
      ap (last_at_most days_of_years 20_000) before
      ∙ last_is days_of_years 20_000 years (days_of_years years + (day_of_year y m d - 1)) (year_small y valid.0) (omega arith)
      (λ j l. let up = years_above (suc years) j l in omega (arith, up, year_end))

  year_same : year_of (days_from_civil y m d) ≡ y
  year_same = ap (λ (n : ℕ). pos n -ℤ pos 10_000) over ∙ year_back y valid.0

  days_same : days_over (days_from_civil y m d) ≡ days_of_months y (m - 1) + d - 1
  days_same =
      let first : 1 ≤ d = valid.2.0 in
      let same : days_of_years (years_over (days_from_civil y m d)) ≡ days_of_years years = ap days_of_years over in
      omega (arith, before, same, first)

  month_end : days_of_months y (m - 1) + d - 1 < days_of_months y m
  month_end =
      let more = days_of_months_more y m valid.1.0 in
      let last : d ≤ days_in_month y m = valid.2.1 in
      let first : 1 ≤ d = valid.2.0 in
      omega (arith, more, last, first)

  months_same : months_over (days_from_civil y m d) ≡ m - 1
  months_same =
      let first : 1 ≤ d = valid.2.0 in
      let start : 1 ≤ m = valid.1.0 in
      let final : m ≤ 12 = valid.1.1 in
      ap (λ (x : ℤ). last_at_most (days_of_months x) 11 (days_over (days_from_civil y m d))) year_same
      ∙ ap (last_at_most (days_of_months y) 11) days_same
      ∙ last_is (days_of_months y) 11 (m - 1) (days_of_months y (m - 1) + d - 1) (omega (arith, start, final)) (omega (arith, first))
      (λ j l. let up = days_of_months_mono y m j (omega (arith, l, start)) in omega (arith, up, month_end))

  month_same : month_of (days_from_civil y m d) ≡ m
  month_same = let start : 1 ≤ m = valid.1.0 in omega (arith, months_same, start)

  day_same : day_of (days_from_civil y m d) ≡ d
  day_same =
      let first : 1 ≤ d = valid.2.0 in
      let months : days_of_months (year_of (days_from_civil y m d)) (months_over (days_from_civil y m d)) ≡ days_of_months y (m - 1) =
      λ i. days_of_months (year_same i) (months_same i)
      in
      omega (arith, days_same, months, first)

-- the text of a date's day number is that of the date
pub date_is : (date : Date) → iso_date date.year date.month date.day ≡ day_text (epoch_day date)
date_is date =
    let y = date.year in
    let m = date.month in
    let d = date.day in
    let valid : IsCivilDate y m d = (date.year_in, date.month_in, date.day_in) in
    let year = sym (year_same y m d valid) in
    let month = sym (month_same y m d valid) in
    let day = sym (day_same y m d valid) in
    λ i. iso_date (year i) (month i) (day i)

-- ---- the texts of days that there are, and of others
pub date_there : (day z e : ℤ) → is_day day ≡ true → e ≡ day → day_text e ≡ date_text day z
date_there day z e there same =
    ap day_text same ∙ ap (λ (b : Bool). if b then day_text day else signed_decimal z) (sym there)

pub date_absent : (day z : ℤ) → is_day day ≡ false → signed_decimal z ≡ date_text day z
date_absent day z absent = ap (λ (b : Bool). if b then day_text day else signed_decimal z) (sym absent)

pub ruleset date_texts = (date_there, date_absent)

pub at_there : (unit : TimeUnit) (day z e : ℤ) (clock : ℕ) (suffix : List ℕ) → is_day day ≡ true → e ≡ day
    → moment_text unit e clock suffix ≡ at_text unit day clock suffix z
at_there unit day z e clock suffix there same =
    ap (λ (x : ℤ). moment_text unit x clock suffix) same
    ∙ ap (λ (b : Bool). if b then moment_text unit day clock suffix else signed_decimal z) (sym there)

pub at_absent : (unit : TimeUnit) (day z : ℤ) (clock : ℕ) (suffix : List ℕ) → is_day day ≡ false → signed_decimal z ≡ at_text unit day clock suffix z
at_absent unit day z clock suffix absent =
    ap (λ (b : Bool). if b then moment_text unit day clock suffix else signed_decimal z) (sym absent)

pub ruleset at_texts = (at_there, at_absent)

-- ---- the texts of numbers of 64 bits, and of others
pub stamp_there : (unit : TimeUnit) (minutes z t : ℤ) (suffix : List ℕ) → fits_64 z ≡ true → t ≡ z +ℤ minutes *ℤ pos (per_minute unit)
    → local_text unit t suffix z ≡ timestamp_shown unit minutes suffix z
stamp_there unit minutes z t suffix fits same =
    ap (λ (x : ℤ). local_text unit x suffix z) same
    ∙ ap (λ (b : Bool). if b then local_text unit (z +ℤ minutes *ℤ pos (per_minute unit)) suffix z else signed_decimal z) (sym fits)

pub stamp_absent : (unit : TimeUnit) (minutes z : ℤ) (suffix : List ℕ) → fits_64 z ≡ false → signed_decimal z ≡ timestamp_shown unit minutes suffix z
stamp_absent unit minutes z suffix absent =
    ap (λ (b : Bool). if b then local_text unit (z +ℤ minutes *ℤ pos (per_minute unit)) suffix z else signed_decimal z) (sym absent)

pub ruleset stamp_texts = (stamp_there, stamp_absent)
