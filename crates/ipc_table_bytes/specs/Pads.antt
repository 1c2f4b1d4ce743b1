-- Numbers as bytes, and zeros up to a multiple of 8.
use Rattle.std.specs.Prelude.{ℕ, ◌-◌, ◌%◌, List, ◌++◌, length, min, replicate}
use Rattle.std.specs.Int.{bytes_low_first}

-- The bytes of a number, the lowest first.
unfoldable pub le : ℕ → ℕ → List ℕ
le width x = bytes_low_first 0 width x

-- A length or an offset as 32 bits have it; no message is so long that this changes it.
abbrev pub short : ℕ → ℕ
short n = min n 4294967295

-- How many bytes are missing to a multiple of 8.
abbrev pub missing : ℕ → ℕ
missing n = (8 - n % 8) % 8

-- n zeros.
abbrev pub zeros : ℕ → List ℕ
zeros n = replicate n 0

-- The bytes up to the next multiple of 8.
abbrev pub padded : List ℕ → List ℕ
padded xs = xs ++ zeros (missing (length xs))
