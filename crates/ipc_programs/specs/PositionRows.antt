-- Positions of columns, whatever vector has them.
use Rattle.std.specs.Prelude.{◌≡◌, ℕ, List, [], ◌∷◌, None, Some, Vec, codes}
use Rattle.std.specs.declared.alloc.Global.{Global}
use Rattle.ipc_programs.specs.Positions.{ArePositions, IsChoice}
use Rattle.ipc_programs.specs.declared.cat.chosen.Chosen.TheVariants.{Columns, Others}

abbrev pub Taken : ℕ → List ℕ → Type 0
Taken n items = (positions : Vec ℕ Global) → positions.items ≡ items → IsChoice (Some items) n (Columns (Some positions))

abbrev pub Refused : ℕ → List ℕ → Type 0
Refused n items = IsChoice (Some items) n Others

-- All columns, or some of n in any order; but no position that is too great, and none twice.
pub record PositionRows : Type 0 where
  pub all_columns : IsChoice None 2 (Columns None)
  pub not_others : ¬ IsChoice None 2 Others
  pub no_column : Taken 0 []
  pub last_column : Taken 2 (1 ∷ [])
  pub other_order : Taken 2 (1 ∷ 0 ∷ [])
  pub not_sorted : (positions : Vec ℕ Global) → positions.items ≡ 0 ∷ 1 ∷ [] → ¬ IsChoice (Some (1 ∷ 0 ∷ [])) 2 (Columns (Some positions))
  pub not_all : ¬ IsChoice (Some (1 ∷ [])) 2 (Columns None)
  pub too_great : Refused 1 (1 ∷ [])
  pub too_great_behind : Refused 2 (0 ∷ 2 ∷ [])
  pub repeated : Refused 2 (1 ∷ 1 ∷ [])
  pub repeated_apart : Refused 2 (0 ∷ 1 ∷ 0 ∷ [])
  pub not_refused : ¬ Refused 2 (1 ∷ 0 ∷ [])

-- The greatest number of 64 bits is a position, and the next isn't.
pub record ReadRows : Type 0 where
  pub two : (positions : Vec ℕ Global) → positions.items ≡ 10 ∷ 2 ∷ [] → ArePositions (codes "10,2") (Some positions)
  pub leading_zeros : (positions : Vec ℕ Global) → positions.items ≡ 7 ∷ [] → ArePositions (codes "007") (Some positions)
  pub greatest : ¬ ArePositions (codes "18446744073709551615") None
  pub one_more : ArePositions (codes "0,18446744073709551616") None
