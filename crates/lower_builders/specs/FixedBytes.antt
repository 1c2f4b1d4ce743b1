-- Slots of byte strings of one length.
-- (Arrow columnar format, "Fixed-size Primitive Layout".)
use Rattle.std.specs.Prelude.{◌≡◌, ℕ, ◌*◌, ◌<◌, List, [], ◌∷◌, ◌++◌, Option, Some, None, length, map, refl, Result, MatchResult}
use Rattle.std.specs.List.{range_with_len}
use Rattle.std.specs.Coded.{Coded, code_by, coded_list, coded_ℕ, coded_option, coded×}
use Rattle.lower_flat_arrays.specs.Validities.{part}
use Rattle.lower_builders.specs.declared.error.BuildError.{BuildError}
use Rattle.lower_builders.specs.declared.error.BuildError.TheVariants.{Memory, Length}

-- The number of bytes of each slot, and the slots.
pub record FixedSlots : Type 0 where
  pub size : ℕ
  pub slots : List (Option (List ℕ))

-- How such slots are stored as a ghost value.
abbrev pub coded_fixed_slots : Coded FixedSlots
coded_fixed_slots =
    code_by (ℕ × List (Option (List ℕ))) (coded× coded_ℕ (coded_list (coded_option (coded_list coded_ℕ)))) (λ a. (a.size, a.slots)) (λ p. record { size = p.0; slots = p.1 }) (λ _. refl)

-- Slots of a size.
abbrev pub fixed_slots : ℕ → List (Option (List ℕ)) → FixedSlots
fixed_slots n slots = record { size = n; slots = slots }

-- The value has the size of a slot, or is null.
abbrev pub HasSize : ℕ → Option (List ℕ) → Type 0
HasSize n None = Unit {0}
HasSize n (Some bytes) = length bytes ≡ n

-- Why there is no builder of slots of this size: the size is 0, or it isn't and memory is missing.
abbrev pub NoSize : ℕ → BuildError → Type 0
NoSize n Memory = 0 < n
NoSize n Length = n ≡ 0
NoSize n _ = ⊥

-- Why a value isn't appended: it has another size, or memory is missing.
abbrev pub Unfit : ℕ → Option (List ℕ) → BuildError → Type 0
Unfit n slot Memory = Unit {0}
Unfit n slot Length = ¬ (HasSize n slot)
Unfit n slot _ = ⊥

-- The slot is appended, or the slots stay as they were.
abbrev pub PushesFixed : {T : Type 0} → Result T BuildError → FixedSlots → Option (List ℕ) → FixedSlots → Type 0
PushesFixed r before slot after =
    MatchResult r (λ _. (after ≡ fixed_slots before.size (before.slots ++ slot ∷ [])) × HasSize before.size slot) (λ e. (after ≡ before) × Unfit before.size slot e)

-- The bytes of n slots of a size.
abbrev pub pieces_of : ℕ → ℕ → List ℕ → List (List ℕ)
pieces_of size n xs = map (λ i. part (i * size) size xs) (range_with_len 0 n)
