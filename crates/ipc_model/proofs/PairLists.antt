-- The pairs of a vector of their tables, one after another.
use Rattle.std.proofs.Common.{◌≡◌, ℕ, suc, ◌+◌, ◌-◌, ◌<◌, Some, None, Ok, refl, arith}
use Rattle.lower.specs.TypeTrees.{Pairs}
use Rattle.ipc_table_views.specs.Spot.{Spot, Vector}
use Rattle.ipc_table_views.specs.Tables.{table_in}
use Rattle.ipc_model.specs.Schemas.{pairs_from, with_key_value}

one-more : (k count : ℕ) → k < count → count - k ≡ suc (count - (k + 1))
one-more k count h = omega (arith, h)

-- one more pair
pub pairs-step : (v : Vector) (k : ℕ) (t : Spot) (es after : Pairs) → k < v.count → table_in v k ≡ Ok t → with_key_value t es ≡ Some after
    → pairs_from v (k + 1) (v.count - (k + 1)) after ≡ pairs_from v k (v.count - k) es
pairs-step v k t es after inside led read = rw (one-more k v.count inside) (rw (led, read) refl)

-- A pair without a meaning.
pub pairs-none : (v : Vector) (k : ℕ) (t : Spot) (es : Pairs) → k < v.count → table_in v k ≡ Ok t → with_key_value t es ≡ None → pairs_from v k (v.count - k) es ≡ None
pairs-none v k t es inside led read = rw (one-more k v.count inside) (rw (led, read) refl)
