-- Which slots of an array are null.
-- (Arrow columnar format, "Validity bitmaps".)
use Rattle.std.specs.Prelude.{◌≡◌, ℕ, ◌≤◌, not, List, Bool, true, false, Option, Some, None, get_or, length, take, drop, map}
use Rattle.std.specs.List.{count_by, range_with_len}

-- A bit for each slot, or none if all slots are valid.
abbrev pub Validity : Type 0
Validity = Option (List Bool)

-- Slot i is valid; without a validity each slot is.
abbrev pub is_valid : Validity → ℕ → Bool
is_valid None i = true
is_valid (Some bits) i = get_or bits i false

-- How many slots are null.
abbrev pub null_count_of : Validity → ℕ
null_count_of None = 0
null_count_of (Some bits) = count_by (λ bit. not bit) bits

-- How many of the n bits of f from index a on are not set.
abbrev pub unset_along : (ℕ → Bool) → ℕ → ℕ → ℕ
unset_along f a n = count_by (λ bit. not bit) (map f (range_with_len a n))

-- A validity has exactly n bits.
abbrev pub ValidityFits : Validity → ℕ → Type 0
ValidityFits None n = Unit {0}
ValidityFits (Some bits) n = length bits ≡ n

-- A validity has at least n bits.
abbrev pub ValidityHolds : Validity → ℕ → Type 0
ValidityHolds None n = Unit {0}
ValidityHolds (Some bits) n = n ≤ length bits

-- The n items from index o on.
abbrev pub part : {A : Type 0} → ℕ → ℕ → List A → List A
part o n xs = take n (drop o xs)

-- The validity of the n slots from index o on.
abbrev pub cut_validity : ℕ → ℕ → Validity → Validity
cut_validity o n None = None
cut_validity o n (Some bits) = Some (part o n bits)
