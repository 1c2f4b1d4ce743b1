-- Slots of any length: slot i has the bytes from offset i to offset i + 1.
-- (Arrow columnar format, "Variable-size Binary Layout".)
use Rattle.std.specs.Prelude.{ℕ, ◌+◌, ◌-◌, ◌<◌, ◌≤◌, List, length, take, drop, slice_index, refl}
use Rattle.std.specs.Coded.{Coded, code_by, coded_list, coded_ℕ, coded_bool, coded_option, coded×}
use Rattle.std.specs.Str.{IsUtf8}
use Rattle.lower.specs.TypeTrees.{TypeTree}
use Rattle.lower_flat_arrays.specs.TypeCodes.{coded_type}
use Rattle.lower_flat_arrays.specs.Validities.{Validity, part, cut_validity}

-- What contracts know of an array of bytes or of texts: its type, offsets, bytes and validity.
pub record SpansSeen : Type 0 where
  pub type : TypeTree
  pub offsets : List ℕ
  pub values : List ℕ
  pub validity : Validity

-- What contracts know of an array of bytes or texts with these parts.
abbrev pub spans_seen : TypeTree → List ℕ → List ℕ → Validity → SpansSeen
spans_seen t os xs v = record { type = t; offsets = os; values = xs; validity = v }

-- How an array of bytes or texts is stored as a ghost value.
abbrev pub coded_spans : Coded SpansSeen
coded_spans =
    code_by (TypeTree × (List ℕ × (List ℕ × Validity)))
    (coded× coded_type (coded× (coded_list coded_ℕ) (coded× (coded_list coded_ℕ) (coded_option (coded_list coded_bool)))))
    (λ a. (a.type, (a.offsets, (a.values, a.validity))))
    (λ p. record { type = p.0; offsets = p.1.0; values = p.1.1.0; validity = p.1.1.1 }) (λ _. refl)

-- How many slots there are: one fewer than offsets.
abbrev pub span_count : List ℕ → ℕ
span_count os = length os - 1

-- The bytes of slot i.
abbrev pub span : List ℕ → List ℕ → ℕ → List ℕ
span os xs i = take (slice_index os (i + 1) - slice_index os i) (drop (slice_index os i) xs)

-- No slot ends past the bytes.
abbrev pub EndsWithin : List ℕ → List ℕ → Type 0
EndsWithin os xs = slice_index os (length os - 1) ≤ length xs

-- Each slot is UTF-8.
pub record AreTexts (os xs : List ℕ) : Type 0 where
  pub each : (i : ℕ) → i + 1 < length os → IsUtf8 (span os xs i)

-- The n slots from index o on: their offsets, with the same bytes.
abbrev pub cut_spans : ℕ → ℕ → SpansSeen → SpansSeen
cut_spans o n a = record { type = a.type; offsets = part o (n + 1) a.offsets; values = a.values; validity = cut_validity o n a.validity }

-- No character spans the offset: the byte there, if any, doesn't continue a character.
abbrev pub IsCut : List ℕ → ℕ → Type 0
IsCut xs at = at < length xs → 128 ≤ slice_index xs at → 192 ≤ slice_index xs at

-- None of the first n offsets is within a character.
abbrev pub AreCut : List ℕ → List ℕ → ℕ → Type 0
AreCut os xs n = (k : ℕ) → k < n → IsCut xs (slice_index os k)
