-- An iterator that says of each item whether it is chosen.
use Rattle.std.specs.Prelude.{◌≡◌, ℕ, suc, Bool, true, false, Option, None, Some, IsSome}
use Rattle.ipc_projection.specs.declared.read.projection.ProjectionResult.{ProjectionResult}
use Rattle.ipc_projection.specs.declared.read.projection.ProjectionResult.TheVariants.{Selected, NotSelected}
use Rattle.ipc_projection.specs.Projected.{Projected, is_chosen}

-- An item, marked as chosen or not.
abbrev pub marked : {T : Type 0} → Bool → Option T → Option (ProjectionResult T)
marked chosen None = None
marked true (Some x) = Some (Selected x)
marked false (Some x) = Some (NotSelected x)

-- One call gives the next item of the inner iterator, marked, and moves on by one item; if
-- there was none, nothing changes.
pub record Marks {I T : Type 0} (gives : I → Option T → I → Type 0) (s : Projected I) (r : Option (ProjectionResult T)) (t : Projected I) : Type 0 where
  pub item : (x : Option T) × gives s.source x t.source × (r ≡ marked (is_chosen s 0) x)
  pub onward : IsSome r → (i : ℕ) → is_chosen t i ≡ is_chosen s (suc i)
  pub still : r ≡ None → (i : ℕ) → is_chosen t i ≡ is_chosen s i
