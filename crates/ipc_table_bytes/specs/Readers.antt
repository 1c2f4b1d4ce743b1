-- What the readers of a message give if it has a part.
-- (Flatbuffers, "Internals".)
use Rattle.std.specs.Prelude.{ℕ, ◌≡◌, List, [], ◌∷◌, length, Option, Some, None, slice_get, Ok}
use Rattle.ipc_table_views.specs.Spot.{Vector}
use Rattle.ipc_table_views.specs.Tables.{slot_at, table_in, target_at}
use Rattle.ipc_table_bytes.specs.Holds.{HoldsPart, spot}
use Rattle.ipc_table_bytes.specs.Tree.{Part, Slots, absent, offset, Parts, no_parts, part}

-- A field that is absent if there is no part.
abbrev pub optional : Option Part → Slots → Slots
optional None rest = absent rest
optional (Some x) rest = offset x rest

-- Some parts as one value.
abbrev pub parts_of : List Part → Parts
parts_of [] = no_parts
parts_of (x ∷ xs) = part x (parts_of xs)

-- Field i of the table at p leads to the part, or is absent.
abbrev pub HoldsOptional : List ℕ → ℕ → ℕ → Option Part → Type 0
HoldsOptional m p i None = slot_at m p i ≡ Ok None
HoldsOptional m p i (Some x) = (q : ℕ) × (t : ℕ) × (slot_at m p i ≡ Ok (Some q)) × (target_at m q ≡ Ok t) × HoldsPart m t x

-- The vector has a table for each value, which has the value's part.
pub record HoldsTables {V : Type 0} (v : Vector) (part_of : V → Part) (values : List V) : Type 0 where
  pub count : v.count ≡ length values
  pub each : (k : ℕ) (x : V) → slice_get values k ≡ Some x → (t : ℕ) × (table_in v k ≡ Ok (spot v.message t)) × HoldsPart v.message t (part_of x)
