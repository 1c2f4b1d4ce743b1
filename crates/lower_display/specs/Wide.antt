-- Decimal numbers of 256 bits in digits.
-- (Schema.fbs, "Decimal": bit widths 128 and 256.)
use Rattle.std.specs.Prelude.{ℕ, zero, suc, ◌+◌, ◌-◌, ◌*◌, ◌/◌, ◌%◌, ◌^◌, ◌<◌, ◌==◌, nat_lt, ℤ, pos, negsuc, List, [], ◌∷◌, ◌++◌, if◌then◌else◌, codes}
use Rattle.std.specs.Fmt.{decimal, sign_text}
use Rattle.std.specs.Int.{is_negative}
use Rattle.lower_display.specs.Digits.{last_digits, after_point}
use Rattle.lower_display.specs.declared.wide.Limbs.{Limbs}

-- A number without its sign, by its halves: `2 ^ 128` times the high one, plus the low one.
abbrev pub wide_size : ℤ → ℕ → ℕ
wide_size (pos high) low = high * 2 ^ 128 + low
wide_size (negsuc high) low = suc high * 2 ^ 128 - low

-- How many digits a number of at most k + 1 digits has, and 1 for 0.
abbrev pub digit_count : ℕ → ℕ → ℕ
digit_count zero n = 1
digit_count (suc k) n = if n / 10 ^ suc k % 10 == 0 then digit_count k n else suc (suc k)

-- A number of at most 77 digits in decimal.
abbrev pub long_text : ℕ → List ℕ
long_text n = last_digits (digit_count 76 n) n

-- A number of a scale, without its sign. A scale above 76, which no decimal type has, is written
-- as an exponent.
abbrev pub size_text : ℕ → ℕ → List ℕ
size_text scale n =
    if nat_lt 76 scale then long_text n ++ (codes "E-" ++ decimal scale)
    else long_text (n / 10 ^ scale) ++ after_point scale n

-- A decimal number of a scale.
abbrev pub wide_text : ℕ → ℤ → ℕ → List ℕ
wide_text scale high low = sign_text (is_negative high) ++ size_text scale (wide_size high low)

-- ---- numbers in parts

-- The number that four parts of 64 bits are.
abbrev pub limbs_value : Limbs → ℕ
limbs_value l = ((l.first * 2 ^ 64 + l.second) * 2 ^ 64 + l.third) * 2 ^ 64 + l.fourth

-- The number that groups of 19 digits are, lowest first.
abbrev pub groups_value : List ℕ → ℕ
groups_value [] = 0
groups_value (g ∷ gs) = g + 10 ^ 19 * groups_value gs

-- Each group has at most 19 digits.
abbrev pub AreGroups : List ℕ → Type 0
AreGroups [] = Unit {0}
AreGroups (g ∷ gs) = (g < 10 ^ 19) × AreGroups gs
