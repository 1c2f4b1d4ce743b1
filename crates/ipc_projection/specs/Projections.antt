-- Which columns of a batch are read, in ascending order, and where each of them goes afterwards.
use Rattle.std.specs.Prelude.{◌≡◌, ◌↔◌, ℕ, suc, ◌<◌, ◌≤◌, nat_eq, List, [], ◌∷◌, IsSome, Some, slice_get, length}
use Rattle.std.specs.List.{AllByRecursion}
use Rattle.std.specs.HashMap.{HashMap, get}
use Rattle.ipc_model.specs.Batches.{IsProjection}

-- Each number is at least k, and below those after it.
abbrev pub IsIncreasingFrom : ℕ → List ℕ → Type 0
IsIncreasingFrom k [] = Unit {0}
IsIncreasingFrom k (j ∷ js) = (k ≤ j) × IsIncreasingFrom (suc j) js

-- Each number is below those after it.
abbrev pub IsIncreasing : List ℕ → Type 0
IsIncreasing js = IsIncreasingFrom 0 js

-- Each number is one of n columns, and below those after it.
abbrev pub IsPrepared : List ℕ → ℕ → Type 0
IsPrepared js n = AllByRecursion (λ j. j < n) js × IsIncreasing js

-- The keys of the map are the numbers below n, and so are its values, each that of one key.
pub record IsReordering {S : Type 0} (places : HashMap ℕ ℕ S) (n : ℕ) : Type 0 where
  pub keys : (i : ℕ) → IsSome (get nat_eq places i) ↔ (i < n)
  pub values : (p : ℕ) → ((i : ℕ) × (get nat_eq places i ≡ Some p)) ↔ (p < n)
  pub once : (i j p : ℕ) → get nat_eq places i ≡ Some p → get nat_eq places j ≡ Some p → i ≡ j

-- Theorem: columns in ascending order, each once, are a projection.
abbrev pub PreparedLaw : Type 0
PreparedLaw = (js : List ℕ) (n : ℕ) → IsPrepared js n → IsProjection (Some js) n

-- ys are the columns xs in a new order: each is at its index by the map.
pub record AreReordered {S X : Type 0} (places : HashMap ℕ ℕ S) (xs ys : List X) : Type 0 where
  pub count : length ys ≡ length xs
  pub moved : (i p : ℕ) → get nat_eq places i ≡ Some p → slice_get ys p ≡ slice_get xs i
