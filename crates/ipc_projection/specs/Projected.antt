-- An iterator of which some items are chosen, by their numbers.
use Rattle.std.specs.Prelude.{ℕ, ◌+◌, ◌==◌, Bool, List}
use Rattle.std.specs.List.{list_any}

-- The iterator, the number of its next item, and the chosen numbers from there on. After the
-- last of these the number stays.
pub record Projected (I : Type 0) : Type 0 where
  pub source : I
  pub next : ℕ
  pub columns : List ℕ

-- Whether item i of those to come is chosen.
abbrev pub is_chosen : {I : Type 0} → Projected I → ℕ → Bool
is_chosen s i = list_any (λ j. s.next + i == j) s.columns
