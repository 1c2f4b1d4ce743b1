-- The value of a 16-bit float.
-- (IEEE 754, binary16: a sign, an exponent of 5 bits, a fraction of 10. Schema.fbs, "Precision".)
use Rattle.std.specs.Prelude.{ℕ, ◌+◌, ◌-◌, ◌*◌, ◌/◌, ◌%◌, ◌^◌, ◌==◌, false, if◌then◌else◌, nat_le}
use Rattle.std.specs.Float.{Float, binary32, nan, inf}
use Rattle.std.specs.Float.Ieee.{round, neg}

-- The significand: the fraction, after a leading 1 unless the exponent is 0.
abbrev pub significand : ℕ → ℕ → ℕ
significand exponent fraction = if exponent == 0 then fraction else 1024 + fraction

-- The number without its sign. Each number of 16 bits is one of 32, so nothing is rounded: it is
-- significand * 2 ^ (exponent - 25), and exponent 0 counts as 1.
abbrev pub half_size : ℕ → ℕ → Float
half_size exponent fraction =
    if exponent == 31 then (if fraction == 0 then inf false else nan)
    else round binary32 false (significand exponent fraction * 2 ^ (exponent - 1)) (2 ^ 24)

-- The number with these 16 bits.
abbrev pub half_value : ℕ → Float
half_value bits =
    let size = half_size (bits / 1024 % 32) (bits % 1024) in if nat_le 32768 bits then neg size else size
