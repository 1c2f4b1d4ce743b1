-- Columns that are being moved to their indices in the requested order.
use Rattle.std.specs.Prelude.{◌≡◌, ℕ, ◌<◌, ◌≤◌, nat_eq, List, Option, Some, slice_get, option_map, length}
use Rattle.std.specs.HashMap.{HashMap, get}

-- The first of the columns xs are left; each other is at its index in the requested order.
pub record Placing {S X : Type 0} (places : HashMap ℕ ℕ S) (xs left : List X) (done : List (Option X)) : Type 0 where
  pub long : length done ≡ length xs
  pub within : length left ≤ length xs
  pub same : (k : ℕ) → k < length left → slice_get left k ≡ slice_get xs k
  pub at : (k p : ℕ) → length left ≤ k → get nat_eq places k ≡ Some p → slice_get done p ≡ option_map Some (slice_get xs k)
