-- What is compared if neither of two arrays has a null: all their values at once.
-- (Arrow columnar format, "Validity bitmaps".)
use Rattle.std.specs.Prelude.{◌≡◌, ℕ, pos, ◌-◌, ◌<◌, List, length, take, drop, map, get_or, slice_index}
use Rattle.lower_types.specs.NumberTypes.{Number, whole}
use Rattle.lower_flat_arrays.specs.Spans.{span, span_count}

-- Number i of some values; f gives the number of each.
abbrev pub number_in : {T : Type 0} → (T → Number) → List T → ℕ → Number
number_in f xs i = get_or (map f xs) i (whole (pos 0))

-- The first n numbers of both are equal.
abbrev pub HasSameNumbers : {T : Type 0} → (T → Number) → List T → List T → ℕ → Type 0
HasSameNumbers f xs ys n = (k : ℕ) → k < n → number_in f xs k ≡ number_in f ys k

-- The first n bytes of both are equal.
abbrev pub HasSameBytes : List ℕ → List ℕ → ℕ → Type 0
HasSameBytes xs ys n = (k : ℕ) → k < n → slice_index xs k ≡ slice_index ys k

-- How far offset i is from the first.
abbrev pub step : List ℕ → ℕ → ℕ
step os i = slice_index os i - slice_index os 0

-- The first n offsets of both are equally far from the first.
abbrev pub HasSameSteps : List ℕ → List ℕ → ℕ → Type 0
HasSameSteps os ps n = (k : ℕ) → k < n → step os k ≡ step ps k

-- The bytes from the first slot to the last.
abbrev pub held : List ℕ → List ℕ → List ℕ
held os xs = take (step os (length os - 1)) (drop (slice_index os 0) xs)

-- Each slot has the same bytes in both.
abbrev pub HasSameSpans : List ℕ → List ℕ → List ℕ → List ℕ → Type 0
HasSameSpans os xs ps ys = (i : ℕ) → i < span_count os → span os xs i ≡ span ps ys i
