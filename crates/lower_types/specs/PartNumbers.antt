-- Numbers of several parts, which come one after the other, each in the byte order.
-- (Arrow columnar format, "Byte Order (Endianness)" and "Data Types".)
use Rattle.std.specs.Prelude.{ℕ, List, ◌++◌, drop}
use Rattle.std.specs.Int.{w32, w64, w128, cast_signed, cast_unsigned}
use Rattle.lower_types.specs.declared.Endianness.{Endianness}
use Rattle.lower_types.specs.declared.Endianness.TheVariants.{Little, Big}
use Rattle.lower_types.specs.declared.parts.days_ms.{days_ms}
use Rattle.lower_types.specs.declared.parts.months_days_ns.{months_days_ns}
use Rattle.lower_types.specs.declared.parts.i256.{i256}
use Rattle.lower_types.specs.Numbers.{unsigned_in, unsigned_bytes}

-- Days and milliseconds, by a function that reads the number in the first bytes.
abbrev pub days_ms_by : (ℕ → List ℕ → ℕ) → List ℕ → days_ms
days_ms_by number bytes = record {
  days = cast_signed w32 (number 4 bytes);
  milliseconds = cast_signed w32 (number 4 (drop 4 bytes));
}

-- The bytes of days and milliseconds, by a function that writes a number.
abbrev pub days_ms_spelt : (ℕ → ℕ → List ℕ) → days_ms → List ℕ
days_ms_spelt write x = write 4 (cast_unsigned w32 x.days) ++ write 4 (cast_unsigned w32 x.milliseconds)

-- Months, days and nanoseconds, by a function that reads the number in the first bytes.
abbrev pub months_days_ns_by : (ℕ → List ℕ → ℕ) → List ℕ → months_days_ns
months_days_ns_by number bytes = record {
  months = cast_signed w32 (number 4 bytes);
  days = cast_signed w32 (number 4 (drop 4 bytes));
  nanoseconds = cast_signed w64 (number 8 (drop 8 bytes));
}

-- The bytes of months, days and nanoseconds, by a function that writes a number.
abbrev pub months_days_ns_spelt : (ℕ → ℕ → List ℕ) → months_days_ns → List ℕ
months_days_ns_spelt write x = write 4 (cast_unsigned w32 x.months) ++ (write 4 (cast_unsigned w32 x.days) ++ write 8 (cast_unsigned w64 x.nanoseconds))

-- The parts of a number in a byte order.
abbrev pub days_ms_in : Endianness → List ℕ → days_ms
days_ms_in order = days_ms_by (λ n. unsigned_in n order)

-- The bytes of days and milliseconds in a byte order.
abbrev pub days_ms_bytes : Endianness → days_ms → List ℕ
days_ms_bytes order = days_ms_spelt (λ n. unsigned_bytes n order)

-- Months, days and nanoseconds in a byte order.
abbrev pub months_days_ns_in : Endianness → List ℕ → months_days_ns
months_days_ns_in order = months_days_ns_by (λ n. unsigned_in n order)

-- The bytes of months, days and nanoseconds in a byte order.
abbrev pub months_days_ns_bytes : Endianness → months_days_ns → List ℕ
months_days_ns_bytes order = months_days_ns_spelt (λ n. unsigned_bytes n order)

-- A number of 256 bits by its halves, the low one first or the high one.
abbrev pub low_first_by : (ℕ → List ℕ → ℕ) → List ℕ → i256
low_first_by number bytes = record { high = cast_signed w128 (number 16 (drop 16 bytes)); low = number 16 bytes }

-- The bytes of a number of 256 bits, the low half first.
abbrev pub low_first_spelt : (ℕ → ℕ → List ℕ) → i256 → List ℕ
low_first_spelt write x = write 16 x.low ++ write 16 (cast_unsigned w128 x.high)

-- A number of 256 bits by its halves, the high one first.
abbrev pub high_first_by : (ℕ → List ℕ → ℕ) → List ℕ → i256
high_first_by number bytes = record { high = cast_signed w128 (number 16 bytes); low = number 16 (drop 16 bytes) }

-- The bytes of a number of 256 bits, the high half first.
abbrev pub high_first_spelt : (ℕ → ℕ → List ℕ) → i256 → List ℕ
high_first_spelt write x = write 16 (cast_unsigned w128 x.high) ++ write 16 x.low

-- The low half comes first if the number is little-endian.
abbrev pub i256_in : Endianness → List ℕ → i256
i256_in Little = low_first_by (λ n. unsigned_in n Little)
i256_in Big = high_first_by (λ n. unsigned_in n Big)

-- The bytes of a number of 256 bits in a byte order.
abbrev pub i256_bytes : Endianness → i256 → List ℕ
i256_bytes Little = low_first_spelt (λ n. unsigned_bytes n Little)
i256_bytes Big = high_first_spelt (λ n. unsigned_bytes n Big)
