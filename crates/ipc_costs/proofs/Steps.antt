-- The costs of the tables of a vector, one after another, and of a field, level by level.
use Rattle.std.proofs.Common.{◌≡◌, ℕ, zero, suc, ◌+◌, ◌-◌, ◌<◌, ◌≤◌, refl, ap, ◌∙◌, arith}
use Rattle.ipc_table_views.specs.Spot.{Spot, Vector}
use Rattle.ipc_table_views.specs.SchemaSlots.{field_type}
use Rattle.ipc_table_views.specs.Tables.{table_in}
use Rattle.ipc_model.specs.Schemas.{present}
use Rattle.ipc_costs.specs.Costs.{field_cost, own_cost, table_cost, tables_cost, typed_cost}

-- n tables from index k on, and the one after them.
one_more : (cost : Spot → ℕ) (v : Vector) (k n : ℕ) → tables_cost cost v k (suc n) ≡ tables_cost cost v k n + table_cost cost (table_in v (k + n))
one_more cost v k zero =
    let same : k + 0 ≡ k = omega arith in
    omega (arith, ap (λ j. table_cost cost (table_in v j)) same)
one_more cost v k (suc n) =
    let same : (k + 1) + n ≡ k + suc n = omega arith in
    omega (arith, one_more cost v (k + 1) n, ap (λ j. table_cost cost (table_in v j)) same)

-- fewer tables cost no more
fewer : (cost : Spot → ℕ) (v : Vector) (k m n : ℕ) → m ≤ n → tables_cost cost v k m ≤ tables_cost cost v k n
fewer cost v k zero n h = omega arith
fewer cost v k (suc m) zero h = absurd (omega arith)
fewer cost v k (suc m) (suc n) h = omega (arith, fewer cost v (k + 1) m n (omega (arith, h)))

pub cost_next : (cost : Spot → ℕ) (v : Vector) (i : ℕ) → tables_cost cost v 0 (i + 1) ≡ tables_cost cost v 0 i + table_cost cost (table_in v i)
cost_next cost v i =
    let one : i + 1 ≡ suc i = omega arith in
    let same : 0 + i ≡ i = omega arith in
    ap (λ n. tables_cost cost v 0 n) one ∙ one_more cost v 0 i ∙ ap (λ j. tables_cost cost v 0 i + table_cost cost (table_in v j)) same

pub cost_until : (cost : Spot → ℕ) (v : Vector) (i n : ℕ) → i < n → tables_cost cost v 0 i + table_cost cost (table_in v i) ≤ tables_cost cost v 0 n
cost_until cost v i n h = omega (arith, cost_next cost v i, fewer cost v 0 (i + 1) n (omega (arith, h)))

pub ruleset costs = (cost_next, cost_until)

-- The amount before a table doesn't suffice for it, so it doesn't suffice for all.
pub all_refused : (cost : Spot → ℕ) (v : Vector) (i n left amount : ℕ) → i < n → left + tables_cost cost v 0 i ≡ amount → left < table_cost cost (table_in v i) → amount < tables_cost cost v 0 n
all_refused cost v i n left amount h before few = omega (arith, before, few, cost_until cost v i n h)

pub no_level : (t : Spot) → field_cost 0 t ≡ 0
unfolding field_cost
no_level t = refl

pub level_down : (levels : ℕ) (t : Spot) → 0 < levels → field_cost levels t ≡ own_cost t + typed_cost (λ s. field_cost (levels - 1) s) t (present (field_type t))
unfolding field_cost
level_down levels t some =
    let one : levels ≡ suc (levels - 1) = omega (arith, some) in
    ap (λ n. field_cost n t) one

pub ruleset levels = (no_level, level_down)
