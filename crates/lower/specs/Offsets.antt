-- Offsets of slots: slot i has the values from offset i to offset i + 1.
-- (Arrow columnar format, "Variable-size Binary Layout".)
use Rattle.std.specs.Prelude.{◌≡◌, ℕ, ℤ, pos, negsuc, ◌+◌, ◌<◌, ◌≤◌, ◌≤ℤ◌, List, [], length, map, slice_index, slice_index_or}
use Rattle.lower.specs.declared.error.Error.{Error}
use Rattle.lower.specs.declared.error.Error.TheVariants.{OutOfSpec}
use Rattle.lower.specs.declared.error.Rule.TheVariants.{NoOffset, FallingOffset}

-- There is at least one offset, the first isn't negative, and none is below the one before it.
-- `integer` gives the number of each.
pub record AreOffsets {O : Type 0} (integer : O → ℤ) (offsets : List O) : Type 0 where
  pub some : 0 < length offsets
  pub start : (d : O) → pos 0 ≤ℤ integer (slice_index_or offsets 0 d)
  pub rising : (k : ℕ) (d : O) → k + 1 < length offsets → integer (slice_index_or offsets k d) ≤ℤ integer (slice_index_or offsets (k + 1) d)

-- The offsets break the rule that the error names.
abbrev pub BreaksOffsets : {O : Type 0} → (O → ℤ) → List O → Error → Type 0
BreaksOffsets integer offsets (OutOfSpec NoOffset) = offsets ≡ []
BreaksOffsets integer offsets (OutOfSpec FallingOffset) = (0 < length offsets) × ¬ (AreOffsets integer offsets)
BreaksOffsets integer offsets (OutOfSpec _) = ⊥

-- The index that an offset is; 0 if it is negative.
abbrev pub place : ℤ → ℕ
place (pos n) = n
place (negsuc n) = 0

-- The indices that the offsets are.
abbrev pub places : {O : Type 0} → (O → ℤ) → List O → List ℕ
places integer offsets = map (λ o. place (integer o)) offsets

-- No offset is below the one before it.
abbrev pub IsRising : List ℕ → Type 0
IsRising offsets = (k : ℕ) → k + 1 < length offsets → slice_index offsets k ≤ slice_index offsets (k + 1)

-- There is at least one offset, and none is below the one before it.
pub record IsOffsets (offsets : List ℕ) : Type 0 where
  pub some : 0 < length offsets
  pub rising : IsRising offsets

-- None of the first n numbers is below the one before it.
abbrev pub NeverFalls : List ℤ → ℕ → Type 0
NeverFalls numbers n = (k : ℕ) → k + 1 < n → slice_index_or numbers k (pos 0) ≤ℤ slice_index_or numbers (k + 1) (pos 0)
