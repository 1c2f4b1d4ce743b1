-- Numbers and bytes in digits.
use Rattle.std.specs.Prelude.{ℕ, zero, suc, ◌/◌, ◌%◌, ◌^◌, ◌==◌, nat_lt, false, ℤ, unsigned_abs, List, [], ◌∷◌, ◌++◌, if◌then◌else◌, codes}
use Rattle.std.specs.Fmt.{decimal, signed_decimal, sign_text, digits}
use Rattle.std.specs.Int.{is_negative}

-- A number below 100 in two digits.
abbrev pub pad2 : ℕ → List ℕ
pad2 n = decimal (n / 10) ++ decimal (n % 10)

-- A number below 1,000 in three digits.
abbrev pub pad3 : ℕ → List ℕ
pad3 n = decimal (n / 100) ++ pad2 (n % 100)

-- A number below 10,000 in four digits.
abbrev pub pad4 : ℕ → List ℕ
pad4 n = pad2 (n / 100) ++ pad2 (n % 100)

-- The last k decimal digits of a number.
abbrev pub last_digits : ℕ → ℕ → List ℕ
last_digits zero n = []
last_digits (suc k) n = decimal (n / 10 ^ k % 10) ++ last_digits k n

-- A point and the last digits of a number, if there are any.
abbrev pub after_point : ℕ → ℕ → List ℕ
after_point scale n = if scale == 0 then [] else codes "." ++ last_digits scale n

-- A decimal number: an integer whose last digits, as many as the scale says, are after the point.
-- A scale above 38, which no decimal type of 128 bits has, is written as an exponent.
-- (Schema.fbs, "Decimal": the scale is the number of digits after the decimal point.)
abbrev pub decimal_shown : ℕ → ℤ → List ℕ
decimal_shown scale z =
    if nat_lt 38 scale then signed_decimal z ++ (codes "E-" ++ decimal scale)
    else sign_text (is_negative z) ++ (decimal (unsigned_abs z / 10 ^ scale) ++ after_point scale (unsigned_abs z))

-- A byte in two hexadecimal digits.
abbrev pub byte_text : ℕ → List ℕ
byte_text b = digits 16 false (b / 16) ++ digits 16 false (b % 16)

-- Bytes in hexadecimal digits.
abbrev pub hex_text : List ℕ → List ℕ
hex_text [] = []
hex_text (b ∷ bs) = byte_text b ++ hex_text bs
