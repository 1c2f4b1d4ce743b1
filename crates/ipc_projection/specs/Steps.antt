-- What single steps of the calls say.
use Rattle.std.specs.Prelude.{◌≡◌, ◌↔◌, ℕ, suc, ◌<◌, nat_eq, List, [], ◌∷◌, IsSome, Some}
use Rattle.std.specs.HashMap.{HashMap, get}

-- The keys of the map are the numbers below n.
pub record HasFirstKeys {S : Type 0} (places : HashMap ℕ ℕ S) (n : ℕ) : Type 0 where
  pub keys : (i : ℕ) → IsSome (get nat_eq places i) ↔ (i < n)

-- One of the first n columns has the index p.
pub record IsPlace {S : Type 0} (places : HashMap ℕ ℕ S) (n p : ℕ) : Type 0 where
  pub column : ℕ
  pub below : column < n
  pub goes : get nat_eq places column ≡ Some p

-- Column i has one of n indices, and no column before it has the same.
pub record IsApart {S : Type 0} (places : HashMap ℕ ℕ S) (n i : ℕ) : Type 0 where
  pub place : ℕ
  pub goes : get nat_eq places i ≡ Some place
  pub below : place < n
  pub apart : ¬ IsPlace places i place

-- Each of the first n columns has one of n indices, and each index a column.
pub record HasPlaces {S : Type 0} (places : HashMap ℕ ℕ S) (n : ℕ) : Type 0 where
  pub apart : (i : ℕ) → i < n → IsApart places n i
  pub all : (p : ℕ) → p < n → IsPlace places n p

-- Each number with its index, counted from k.
abbrev pub numbered : ℕ → List ℕ → List (ℕ × ℕ)
numbered k [] = []
numbered k (j ∷ js) = (j, k) ∷ numbered (suc k) js
