-- Numbers of several parts are read back from their own bytes, and
-- from no more bytes than they have.
-- (Arrow columnar format, "Byte Order (Endianness)".)
use Rattle.std.proofs.Common.{arith, ◌≡◌, ℕ, ℤ, ◌+◌, ◌^◌, ◌<◌, ◌++◌, List, length, take, drop, refl, sym, ap, ap₂, ◌∙◌, length-append}
use mir.Val.{bits}
use Rattle.std.specs.Int.{Width, w32, w64, w128, byte_len, cast_signed, cast_unsigned}
use Rattle.std.specs.Int.RustNames.{FitsSigned}
use Rattle.std.proofs.Math.Facts.{Fits-of_z, to_z-of_z}
use Rattle.std.proofs.lemmas.List.{drop_at, drop-drop}
use Rattle.lower_types.specs.declared.Endianness.{Endianness}
use Rattle.lower_types.specs.declared.Endianness.TheVariants.{Little, Big}
use Rattle.lower_types.specs.declared.parts.days_ms.{days_ms}
use Rattle.lower_types.specs.declared.parts.months_days_ns.{months_days_ns}
use Rattle.lower_types.specs.declared.parts.i256.{i256}
use Rattle.lower_types.specs.Numbers.{unsigned_in, unsigned_bytes}
use Rattle.lower_types.specs.NumberLaws.{unsigned_in-take, unsigned_in-unsigned_bytes, length-unsigned_bytes, first_part, later_part, later_take}
use Rattle.lower_types.specs.declared.PrimitiveType.TheVariants.{DaysMs, MonthDayNano, Int256}
use Rattle.lower_types.specs.NumberTypes.{number_in, wide, day_time, month_day_nano}
use Rattle.lower_types.specs.PartNumbers.{days_ms_spelt, months_days_ns_spelt, low_first_spelt, high_first_spelt, days_ms_in, days_ms_bytes, months_days_ns_in, months_days_ns_bytes, i256_in, i256_bytes}

-- The bits of a signed number of a width fit in the width's bytes.
below : (w : Width) → 2 ^ bits w ≡ 256 ^ byte_len w → (z : ℤ) → FitsSigned w z → cast_unsigned w z < 256 ^ byte_len w
below w powers z h = let fits = (Fits-of_z h).fits in omega (arith, fits, powers)

pub days_ms_spelt-length : (write : ℕ → ℕ → List ℕ) → ((n x : ℕ) → length (write n x) ≡ n) → (x : days_ms) → length (days_ms_spelt write x) ≡ 8
days_ms_spelt-length write each x =
    length-append (write 4 (cast_unsigned w32 x.days)) (write 4 (cast_unsigned w32 x.milliseconds)) ∙ ap₂ (λ i j. i + j) (each 4 (cast_unsigned w32 x.days)) (each 4 (cast_unsigned w32 x.milliseconds))

pub months_days_ns_spelt-length : (write : ℕ → ℕ → List ℕ) → ((n x : ℕ) → length (write n x) ≡ n) → (x : months_days_ns) → length (months_days_ns_spelt write x) ≡ 16
months_days_ns_spelt-length write each x =
    let months = write 4 (cast_unsigned w32 x.months) in
    let days = write 4 (cast_unsigned w32 x.days) in
    let nanoseconds = write 8 (cast_unsigned w64 x.nanoseconds) in
    length-append months (days ++ nanoseconds)
    ∙ ap₂ (λ i j. i + j) (each 4 (cast_unsigned w32 x.months)) (length-append days nanoseconds ∙ ap₂ (λ i j. i + j) (each 4 (cast_unsigned w32 x.days)) (each 8 (cast_unsigned w64 x.nanoseconds)))

pub low_first_spelt-length : (write : ℕ → ℕ → List ℕ) → ((n x : ℕ) → length (write n x) ≡ n) → (x : i256) → length (low_first_spelt write x) ≡ 32
low_first_spelt-length write each x =
    length-append (write 16 x.low) (write 16 (cast_unsigned w128 x.high)) ∙ ap₂ (λ i j. i + j) (each 16 x.low) (each 16 (cast_unsigned w128 x.high))

pub high_first_spelt-length : (write : ℕ → ℕ → List ℕ) → ((n x : ℕ) → length (write n x) ≡ n) → (x : i256) → length (high_first_spelt write x) ≡ 32
high_first_spelt-length write each x =
    length-append (write 16 (cast_unsigned w128 x.high)) (write 16 x.low) ∙ ap₂ (λ i j. i + j) (each 16 (cast_unsigned w128 x.high)) (each 16 x.low)

pub days_ms-first : (order : Endianness) (bytes : List ℕ) → days_ms_in order (take 8 bytes) ≡ days_ms_in order bytes
days_ms-first order bytes = λ i. record {
  days = cast_signed w32 (unsigned_in-take 4 8 order bytes (omega arith) i);
  milliseconds = cast_signed w32 (later_take 4 4 8 order bytes (omega arith) i);
}

pub days_ms-length : (order : Endianness) (x : days_ms) → length (days_ms_bytes order x) ≡ 8
days_ms-length order x = days_ms_spelt-length (λ n. unsigned_bytes n order) (λ n. length-unsigned_bytes n order) x

pub days_ms-back : (order : Endianness) (x : days_ms) → FitsSigned w32 x.days × FitsSigned w32 x.milliseconds → days_ms_in order (days_ms_bytes order x) ≡ x
days_ms-back order x h =
    let days = cast_unsigned w32 x.days in
    let milliseconds = cast_unsigned w32 x.milliseconds in
    let first = first_part 4 order days (unsigned_bytes 4 order milliseconds) (below w32 refl x.days h.0) in
    let later = later_part 4 4 order (unsigned_bytes 4 order days) milliseconds (length-unsigned_bytes 4 order days) (below w32 refl x.milliseconds h.1) in
    let day : cast_signed w32 (unsigned_in 4 order (days_ms_bytes order x)) ≡ x.days = ap (cast_signed w32) first ∙ to_z-of_z h.0 in
    let milli : cast_signed w32 (unsigned_in 4 order (drop 4 (days_ms_bytes order x))) ≡ x.milliseconds = ap (cast_signed w32) later ∙ to_z-of_z h.1 in
    λ i. record { days = day i; milliseconds = milli i }

pub months_days_ns-first : (order : Endianness) (bytes : List ℕ) → months_days_ns_in order (take 16 bytes) ≡ months_days_ns_in order bytes
months_days_ns-first order bytes = λ i. record {
  months = cast_signed w32 (unsigned_in-take 4 16 order bytes (omega arith) i);
  days = cast_signed w32 (later_take 4 4 16 order bytes (omega arith) i);
  nanoseconds = cast_signed w64 (later_take 8 8 16 order bytes (omega arith) i);
}

pub months_days_ns-length : (order : Endianness) (x : months_days_ns) → length (months_days_ns_bytes order x) ≡ 16
months_days_ns-length order x = months_days_ns_spelt-length (λ n. unsigned_bytes n order) (λ n. length-unsigned_bytes n order) x

pub months_days_ns-back : (order : Endianness) (x : months_days_ns) → FitsSigned w32 x.months × FitsSigned w32 x.days × FitsSigned w64 x.nanoseconds → months_days_ns_in order (months_days_ns_bytes order x) ≡ x
months_days_ns-back order x h =
    let months = cast_unsigned w32 x.months in
    let days = cast_unsigned w32 x.days in
    let nanoseconds = cast_unsigned w64 x.nanoseconds in
    let tail = unsigned_bytes 4 order days ++ unsigned_bytes 8 order nanoseconds in
    let all = unsigned_bytes 4 order months ++ tail in
    let after : drop 4 all ≡ tail = drop_at (unsigned_bytes 4 order months) tail 4 (length-unsigned_bytes 4 order months) in
    let last : drop 8 all ≡ unsigned_bytes 8 order nanoseconds =
    sym (drop-drop 4 4 all) ∙ ap (drop 4) after ∙ drop_at (unsigned_bytes 4 order days) (unsigned_bytes 8 order nanoseconds) 4 (length-unsigned_bytes 4 order days)
    in
    let month : cast_signed w32 (unsigned_in 4 order all) ≡ x.months = ap (cast_signed w32) (first_part 4 order months tail (below w32 refl x.months h.0)) ∙ to_z-of_z h.0 in
    let day : cast_signed w32 (unsigned_in 4 order (drop 4 all)) ≡ x.days =
    ap (λ bytes. cast_signed w32 (unsigned_in 4 order bytes)) after ∙ ap (cast_signed w32) (first_part 4 order days (unsigned_bytes 8 order nanoseconds) (below w32 refl x.days h.1)) ∙ to_z-of_z h.1
    in
    let nano : cast_signed w64 (unsigned_in 8 order (drop 8 all)) ≡ x.nanoseconds =
    ap (λ bytes. cast_signed w64 (unsigned_in 8 order bytes)) last ∙ ap (cast_signed w64) (unsigned_in-unsigned_bytes 8 order nanoseconds (below w64 refl x.nanoseconds h.2)) ∙ to_z-of_z h.2
    in
    λ i. record { months = month i; days = day i; nanoseconds = nano i }

pub i256-first : (order : Endianness) (bytes : List ℕ) → i256_in order (take 32 bytes) ≡ i256_in order bytes
i256-first Little bytes = λ i. record {
  high = cast_signed w128 (later_take 16 16 32 Little bytes (omega arith) i);
  low = unsigned_in-take 16 32 Little bytes (omega arith) i;
}
i256-first Big bytes = λ i. record {
  high = cast_signed w128 (unsigned_in-take 16 32 Big bytes (omega arith) i);
  low = later_take 16 16 32 Big bytes (omega arith) i;
}

pub i256-length : (order : Endianness) (x : i256) → length (i256_bytes order x) ≡ 32
i256-length Little x = low_first_spelt-length (λ n. unsigned_bytes n Little) (λ n. length-unsigned_bytes n Little) x
i256-length Big x = high_first_spelt-length (λ n. unsigned_bytes n Big) (λ n. length-unsigned_bytes n Big) x

pub i256-back : (order : Endianness) (x : i256) → FitsSigned w128 x.high × (x.low < 2 ^ 128) → i256_in order (i256_bytes order x) ≡ x
i256-back Little x h =
    let high = cast_unsigned w128 x.high in
    let low : unsigned_in 16 Little (i256_bytes Little x) ≡ x.low = first_part 16 Little x.low (unsigned_bytes 16 Little high) h.1 in
    let top : cast_signed w128 (unsigned_in 16 Little (drop 16 (i256_bytes Little x))) ≡ x.high =
    ap (cast_signed w128) (later_part 16 16 Little (unsigned_bytes 16 Little x.low) high (length-unsigned_bytes 16 Little x.low) (below w128 refl x.high h.0)) ∙ to_z-of_z h.0
    in
    λ i. record { high = top i; low = low i }
i256-back Big x h =
    let high = cast_unsigned w128 x.high in
    let low : unsigned_in 16 Big (drop 16 (i256_bytes Big x)) ≡ x.low = later_part 16 16 Big (unsigned_bytes 16 Big high) x.low (length-unsigned_bytes 16 Big high) h.1 in
    let top : cast_signed w128 (unsigned_in 16 Big (i256_bytes Big x)) ≡ x.high = ap (cast_signed w128) (first_part 16 Big high (unsigned_bytes 16 Big x.low) (below w128 refl x.high h.0)) ∙ to_z-of_z h.0 in
    λ i. record { high = top i; low = low i }

pub days_ms-number : (order : Endianness) (bytes : List ℕ) → day_time (days_ms_in order bytes).days (days_ms_in order bytes).milliseconds ≡ number_in DaysMs order bytes
days_ms-number Little bytes = refl
days_ms-number Big bytes = refl

pub months_days_ns-number : (order : Endianness) (bytes : List ℕ)
    → month_day_nano (months_days_ns_in order bytes).months (months_days_ns_in order bytes).days (months_days_ns_in order bytes).nanoseconds ≡ number_in MonthDayNano order bytes
months_days_ns-number Little bytes = refl
months_days_ns-number Big bytes = refl

pub i256-number : (order : Endianness) (bytes : List ℕ) → wide (i256_in order bytes).high (i256_in order bytes).low ≡ number_in Int256 order bytes
i256-number Little bytes = refl
i256-number Big bytes = refl
