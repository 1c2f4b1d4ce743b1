-- The indices of a union's slots in its children, of which only the lengths count.
-- (Arrow columnar format, "Union Layout".)
use Rattle.std.specs.Prelude.{◌≡◌, ℕ, ℤ, pos, ◌<◌, List, [], ◌∷◌, Option, Some, None, get_or, length}
use Rattle.lower_validation.specs.Keys.{KeyFits}
use Rattle.lower_validation.specs.Ids.{TypeIds, child_number}

-- Each of the lengths is n.
abbrev pub AllAre : ℕ → List ℕ → Type 0
AllAre n [] = Unit {0}
AllAre n (m ∷ ms) = (m ≡ n) × AllAre n ms

-- If there are offsets, each slot has one.
abbrev pub PlacesGiven : Option (List ℤ) → ℕ → Type 0
PlacesGiven None n = Unit {0}
PlacesGiven (Some os) n = length os ≡ n

-- Each offset is an index below the length of the slot's child.
pub record OffsetsFit (ids : TypeIds) (ts os : List ℤ) (ns : List ℕ) : Type 0 where
  pub each : (i : ℕ) → i < length ts → KeyFits (get_or os i (pos 0)) (get_or ns (child_number ids (get_or ts i (pos 0))) 0)

-- Slot i of a sparse union is slot i of its child, so each child has as many slots; the slots of a
-- dense union have valid offsets.
abbrev pub PlacesFit : TypeIds → List ℤ → Option (List ℤ) → List ℕ → Type 0
PlacesFit ids ts None ns = AllAre (length ts) ns
PlacesFit ids ts (Some os) ns = OffsetsFit ids ts os ns
