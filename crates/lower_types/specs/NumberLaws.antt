-- Numbers are read back from their own bytes, and from no more bytes than they have.
-- (Arrow columnar format, "Byte Order (Endianness)".)
use Rattle.std.proofs.Common.{arith, ◌≡◌, ℕ, ℤ, ◌+◌, ◌-◌, ◌^◌, ◌<◌, ◌≤◌, ◌++◌, List, [], length, take, drop, sym, ap, ◌∙◌}
use mir.Val.{bits}
use Rattle.std.specs.Int.{Width, w8, byte_len, cast_signed, cast_unsigned, bytes_low_first, bytes_high_first}
use Rattle.std.specs.Int.RustNames.{FitsSigned}
use Rattle.std.proofs.Math.Facts.{Fits-of_z, to_z-of_z}
use Rattle.std.proofs.lemmas.List.{append-nil, get_or-take, drop_at, drop-take}
use Rattle.byteorder.specs.Endian.{little_from, big_from}
use Rattle.byteorder.specs.Numbers.{big_from-take, little_from-take, length-bytes_high_first, length-bytes_low_first, big_number-reads_back, little_number-reads_back, big_from-append, little_from-append}
use Rattle.lower_types.specs.declared.Endianness.{Endianness}
use Rattle.lower_types.specs.declared.Endianness.TheVariants.{Little, Big}
use Rattle.lower_types.specs.Numbers.{unsigned_in, signed_in, unsigned_bytes, signed_bytes, byte_in, signed_byte_in, signed_byte_of}

pub unsigned_in-first : (n : ℕ) (order : Endianness) (bytes : List ℕ) → unsigned_in n order (take n bytes) ≡ unsigned_in n order bytes
unsigned_in-first n Little bytes = little_from-take 0 n n bytes (omega arith)
unsigned_in-first n Big bytes = big_from-take 0 n n bytes (omega arith)

pub signed_in-first : (w : Width) (order : Endianness) (bytes : List ℕ) → signed_in w order (take (byte_len w) bytes) ≡ signed_in w order bytes
signed_in-first w order bytes = ap (cast_signed w) (unsigned_in-first (byte_len w) order bytes)

pub length-unsigned_bytes : (n : ℕ) (order : Endianness) (x : ℕ) → length (unsigned_bytes n order x) ≡ n
length-unsigned_bytes n Little x = length-bytes_low_first 0 n x
length-unsigned_bytes n Big x = length-bytes_high_first n x

pub length-signed_bytes : (w : Width) (order : Endianness) (z : ℤ) → length (signed_bytes w order z) ≡ byte_len w
length-signed_bytes w order z = length-unsigned_bytes (byte_len w) order (cast_unsigned w z)

pub unsigned_in-unsigned_bytes : (n : ℕ) (order : Endianness) (x : ℕ) → x < 256 ^ n → unsigned_in n order (unsigned_bytes n order x) ≡ x
unsigned_in-unsigned_bytes n Little x h = ap (little_from 0 n) (sym (append-nil (bytes_low_first 0 n x))) ∙ little_number-reads_back n x [] h
unsigned_in-unsigned_bytes n Big x h = ap (big_from 0 n) (sym (append-nil (bytes_high_first n x))) ∙ big_number-reads_back n x [] h

pub signed_in-signed_bytes : (w : Width) → 2 ^ bits w ≡ 256 ^ byte_len w → (order : Endianness) (z : ℤ) → FitsSigned w z → signed_in w order (signed_bytes w order z) ≡ z
signed_in-signed_bytes w powers order z h =
    let below : cast_unsigned w z < 256 ^ byte_len w = let fits = (Fits-of_z h).fits in omega (arith, fits, powers) in
    ap (cast_signed w) (unsigned_in-unsigned_bytes (byte_len w) order (cast_unsigned w z) below) ∙ to_z-of_z h

pub byte_in-first : (order : Endianness) (bytes : List ℕ) → byte_in order (take 1 bytes) ≡ byte_in order bytes
byte_in-first order bytes = get_or-take 1 bytes 0 0 (omega arith)

pub signed_byte_in-first : (order : Endianness) (bytes : List ℕ) → signed_byte_in order (take 1 bytes) ≡ signed_byte_in order bytes
signed_byte_in-first order bytes = ap (cast_signed w8) (byte_in-first order bytes)

pub signed_byte_in-signed_byte_of : (order : Endianness) (z : ℤ) → FitsSigned w8 z → signed_byte_in order (signed_byte_of order z) ≡ z
signed_byte_in-signed_byte_of order z h = to_z-of_z h

-- No byte after its own counts.
pub unsigned_in-take : (n m : ℕ) (order : Endianness) (bytes : List ℕ) → n ≤ m → unsigned_in n order (take m bytes) ≡ unsigned_in n order bytes
unsigned_in-take n m Little bytes h = little_from-take 0 n m bytes (omega (arith, h))
unsigned_in-take n m Big bytes h = big_from-take 0 n m bytes (omega (arith, h))

pub unsigned_in-append : (n : ℕ) (order : Endianness) (xs ys : List ℕ) → n ≤ length xs → unsigned_in n order (xs ++ ys) ≡ unsigned_in n order xs
unsigned_in-append n Little xs ys h = little_from-append n xs ys h
unsigned_in-append n Big xs ys h = big_from-append n xs ys h

-- A number in the first bytes, and one in the last.
pub first_part : (n : ℕ) (order : Endianness) (x : ℕ) (ys : List ℕ) → x < 256 ^ n → unsigned_in n order (unsigned_bytes n order x ++ ys) ≡ x
first_part n order x ys h =
    let len = length-unsigned_bytes n order x in
    unsigned_in-append n order (unsigned_bytes n order x) ys (omega (arith, len)) ∙ unsigned_in-unsigned_bytes n order x h

pub later_part : (k n : ℕ) (order : Endianness) (xs : List ℕ) (x : ℕ) → length xs ≡ k → x < 256 ^ n → unsigned_in n order (drop k (xs ++ unsigned_bytes n order x)) ≡ x
later_part k n order xs x len h = ap (unsigned_in n order) (drop_at xs (unsigned_bytes n order x) k len) ∙ unsigned_in-unsigned_bytes n order x h

pub later_take : (k n m : ℕ) (order : Endianness) (bytes : List ℕ) → k + n ≤ m → unsigned_in n order (drop k (take m bytes)) ≡ unsigned_in n order (drop k bytes)
later_take k n m order bytes h =
    let parts : k + (m - k) ≡ m = omega (arith, h) in
    ap (λ i. unsigned_in n order (drop k (take i bytes))) (sym parts)
    ∙ ap (unsigned_in n order) (drop-take k (m - k) bytes)
    ∙ unsigned_in-take n (m - k) order (drop k bytes) (omega (arith, h))
