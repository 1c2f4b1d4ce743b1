-- Slots of byte strings of any length.
-- (Arrow columnar format, "Variable-size Binary Layout".)
use Rattle.std.specs.Prelude.{◌≡◌, ℕ, ◌+◌, ◌<◌, get_or, List, [], ◌∷◌, ◌++◌, Bool, Option, Some, None, length, map, Result, MatchResult}
use Rattle.std.specs.List.{range_with_len, sum_by}
use Rattle.std.specs.Str.{IsUtf8}
use Rattle.lower.specs.Offsets.{IsOffsets}
use Rattle.lower.specs.TypeTrees.{Plain, binary, large_binary, utf8, large_utf8}
use Rattle.lower_types.specs.declared.PrimitiveType.{PrimitiveType}
use Rattle.lower_types.specs.declared.PrimitiveType.TheVariants.{Int64}
use Rattle.lower_flat_arrays.specs.Validities.{Validity, ValidityFits}
use Rattle.lower_flat_arrays.specs.Options.{where_set, options}
use Rattle.lower_flat_arrays.specs.Spans.{span, span_count, EndsWithin}
use Rattle.lower_builders.specs.Growing.{last_end_of, CantReach}
use Rattle.lower_builders.specs.Validity.{as_validity, validity_bits}
use Rattle.lower_builders.specs.declared.error.BuildError.{BuildError}

-- The type of byte strings with such offsets.
abbrev pub binary_type : PrimitiveType → Plain
binary_type Int64 = large_binary
binary_type _ = binary

-- The type of texts with such offsets.
abbrev pub text_type : PrimitiveType → Plain
text_type Int64 = large_utf8
text_type _ = utf8

-- The bytes of a slot; a null has none.
abbrev pub bytes_in : Option (List ℕ) → List ℕ
bytes_in None = []
bytes_in (Some bytes) = bytes

-- How many bytes some slots have together.
abbrev pub byte_count : List (Option (List ℕ)) → ℕ
byte_count slots = sum_by (λ slot. length (bytes_in slot)) slots

-- The slot is appended. Or the slots stay as they were, for one of these reasons: with it the last
-- offset would be above what the offset type holds, or memory is missing.
abbrev pub PushesBytes : {T : Type 0} → ℕ → Result T BuildError → List (Option (List ℕ)) → Option (List ℕ) → List (Option (List ℕ)) → Type 0
PushesBytes limit r before slot after =
    MatchResult r (λ _. after ≡ before ++ slot ∷ []) (λ e. (after ≡ before) × CantReach limit (byte_count before + length (bytes_in slot)) e)

-- The bytes between neighbouring offsets.
abbrev pub spans_of : List ℕ → List ℕ → List (List ℕ)
spans_of os xs = map (span os xs) (range_with_len 0 (span_count os))

-- Offsets, bytes and bits that a builder keeps: all bytes belong to a slot, and none to a null.
pub record AreSpans (os xs : List ℕ) (bits : List Bool) : Type 0 where
  pub offsets : IsOffsets os
  pub whole : last_end_of os ≡ length xs
  pub count : length bits ≡ span_count os
  pub empty : map bytes_in (where_set bits (spans_of os xs)) ≡ spans_of os xs
  pub total : byte_count (where_set bits (spans_of os xs)) ≡ length xs

-- The parts of an array with these slots.
pub record ArePartsOf (slots : List (Option (List ℕ))) (os xs : List ℕ) (v : Validity) : Type 0 where
  pub offsets : IsOffsets os
  pub within : EndsWithin os xs
  pub fits : ValidityFits v (span_count os)
  pub slots_are : options v (spans_of os xs) ≡ slots
  pub validity : v ≡ as_validity (validity_bits slots)
  pub empty : map bytes_in slots ≡ spans_of os xs

-- Each slot is UTF-8.
pub record AreUtf8 (slots : List (Option (List ℕ))) : Type 0 where
  pub each : (i : ℕ) → i < length slots → IsUtf8 (bytes_in (get_or slots i None))
