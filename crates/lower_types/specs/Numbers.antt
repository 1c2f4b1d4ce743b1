-- Numbers as bytes, in either byte order.
-- (Arrow columnar format, "Byte Order (Endianness)" and "Fixed-size Primitive Layout".)
use Rattle.std.specs.Prelude.{ℕ, ℤ, ◌/◌, List, [], ◌∷◌, length, map, slice_index}
use Rattle.std.specs.Int.{Width, w8, byte_len, cast_signed, cast_unsigned}
use Rattle.std.specs.Simd.{first_chunks}
use Rattle.byteorder.specs.Endian.{little_number, big_number, little_bytes, big_bytes}
use Rattle.lower_types.specs.declared.Endianness.{Endianness}
use Rattle.lower_types.specs.declared.Endianness.TheVariants.{Little, Big}

-- What `value` gives for each whole piece of `width` bytes.
abbrev pub values_of : {X : Type 0} → (List ℕ → X) → ℕ → List ℕ → List X
values_of value width bytes = map value (first_chunks width (length bytes / width) bytes)

-- The number in the first n bytes.
abbrev pub unsigned_in : ℕ → Endianness → List ℕ → ℕ
unsigned_in n Little bytes = little_number n bytes
unsigned_in n Big bytes = big_number n bytes

-- The signed number in the first bytes, as many as its width has.
abbrev pub signed_in : Width → Endianness → List ℕ → ℤ
signed_in w order bytes = cast_signed w (unsigned_in (byte_len w) order bytes)

-- The n bytes of a number.
abbrev pub unsigned_bytes : ℕ → Endianness → ℕ → List ℕ
unsigned_bytes n Little x = little_bytes n x
unsigned_bytes n Big x = big_bytes n x

-- The bytes of a signed number.
abbrev pub signed_bytes : Width → Endianness → ℤ → List ℕ
signed_bytes w order z = unsigned_bytes (byte_len w) order (cast_unsigned w z)

-- A number of one byte, in any byte order.
abbrev pub byte_in : Endianness → List ℕ → ℕ
byte_in order bytes = slice_index bytes 0

-- A signed number of one byte, in any byte order.
abbrev pub signed_byte_in : Endianness → List ℕ → ℤ
signed_byte_in order bytes = cast_signed w8 (slice_index bytes 0)

-- The byte of a number of one byte.
abbrev pub byte_of : Endianness → ℕ → List ℕ
byte_of order x = x ∷ []

-- The byte of a signed number of one byte.
abbrev pub signed_byte_of : Endianness → ℤ → List ℕ
signed_byte_of order z = cast_unsigned w8 z ∷ []
