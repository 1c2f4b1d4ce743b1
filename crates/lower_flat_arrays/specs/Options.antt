-- Slots as values that may be absent.
-- (Arrow columnar format, "Validity bitmaps".)
use Rattle.std.specs.Prelude.{ℕ, ◌*◌, List, [], ◌∷◌, Bool, true, false, Option, Some, None, map}
use Rattle.std.specs.List.{range_with_len}
use Rattle.lower_flat_arrays.specs.Validities.{Validity, part}
use Rattle.lower_flat_arrays.specs.FixedBinaries.{FixedBinarySeen}
use Rattle.lower_flat_arrays.specs.Spans.{SpansSeen, span, span_count}

-- The value of a valid slot; none for a null.
abbrev pub option_where : {A : Type 0} → Bool → A → Option A
option_where true x = Some x
option_where false x = None

-- The values whose bit is set, and None for the others.
abbrev pub where_set : {A : Type 0} → List Bool → List A → List (Option A)
where_set (b ∷ bs) (x ∷ xs) = option_where b x ∷ where_set bs xs
where_set _ _ = []

-- All slots of some values, by their validity.
abbrev pub options : {A : Type 0} → Validity → List A → List (Option A)
options None xs = map Some xs
options (Some bits) xs = where_set bits xs

-- The bytes of each slot, which may have different lengths.
abbrev pub spans : SpansSeen → List (List ℕ)
spans a = map (span a.offsets a.values) (range_with_len 0 (span_count a.offsets))

-- The bytes of each slot, which have equal lengths.
abbrev pub pieces : FixedBinarySeen → List (List ℕ)
pieces a = map (λ i. part (i * a.size) a.size a.values) (range_with_len 0 a.len)
