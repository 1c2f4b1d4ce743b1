-- Offsets that grow slot by slot.
-- (Arrow columnar format, "Variable-size Binary Layout".)
use Rattle.std.specs.Prelude.{ℕ, ◌+◌, ◌-◌, ◌^◌, ◌≤◌, min, List, length, map, take, sum, slice_index}
use Rattle.std.specs.List.{range_with_len}
use Rattle.lower_builders.specs.declared.error.BuildError.{BuildError}
use Rattle.lower_builders.specs.declared.error.BuildError.TheVariants.{Memory, OffsetOverflow}

-- The last offset, where the last slot ends.
abbrev pub last_end_of : List ℕ → ℕ
last_end_of os = slice_index os (length os - 1)

-- The offsets of slots of these lengths: offset k is the length of the first k slots together.
abbrev pub offsets_by_lengths : List ℕ → List ℕ
offsets_by_lengths ns = map (λ k. sum (take k ns)) (range_with_len 0 (length ns + 1))

-- Why offsets below `limit` can't reach this one: it is past them, or no number of 64 bits, or
-- memory is missing.
abbrev pub CantReach : ℕ → ℕ → BuildError → Type 0
CantReach limit end Memory = Unit {0}
CantReach limit end OffsetOverflow = min limit (2 ^ 64) ≤ end
CantReach limit end _ = ⊥
