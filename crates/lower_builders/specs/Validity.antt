-- The validity of an array by its slots.
-- (Arrow columnar format, "Validity bitmaps".)
use Rattle.std.specs.Prelude.{◌≡◌, ℕ, ◌<◌, length, List, [], ◌∷◌, Bool, true, false, ◌&&◌, Option, Some, None, map, is_some, replicate, if◌then◌else◌}
use Rattle.lower_flat_arrays.specs.Validities.{Validity}

-- Every bit is set.
abbrev pub all_set : List Bool → Bool
all_set [] = true
all_set (b ∷ bs) = b && all_set bs

-- The validity of slots with these bits: a bitmap only if a slot is null.
abbrev pub as_validity : List Bool → Validity
as_validity bits = if all_set bits then None else Some bits

-- The bits of n slots: those that are kept, or set bits if none are kept.
abbrev pub kept_bits : ℕ → List Bool → List Bool
kept_bits n [] = replicate n true
kept_bits n (b ∷ bs) = b ∷ bs

-- The bits that are kept for n slots: none, or one for each slot, of which one isn't set.
pub record BitsKept (n : ℕ) (bits : List Bool) : Type 0 where
  pub count : 0 < length bits → length bits ≡ n
  pub null : 0 < length bits → all_set bits ≡ false

-- The bit of each slot: it is set if the slot has a value.
abbrev pub validity_bits : {A : Type 0} → List (Option A) → List Bool
validity_bits slots = map is_some slots
