-- The rows of some columns.
use Rattle.std.proofs.Common.{◌≡◌, ℕ, suc, zero, List, [], ◌∷◌, map, refl, subst, arith}
use Rattle.std.specs.List.{All}
use Rattle.lower_arrays.specs.AnyLayouts.{layout_of}
use Rattle.lower_arrays.specs.Layouts.{len_of}
use Rattle.lower_arrays.specs.declared.array.AnyArray.{AnyArray}
use Rattle.ipc_base.specs.Chunks.{AreEqualRows, row_count}
use Rattle.ipc_plan.specs.Batches.{HaveRows}

pub rows_same : (xs : List AnyArray) → row_count (λ array. len_of (layout_of array)) xs ≡ row_count len_of (map layout_of xs)
rows_same [] = refl
rows_same (x ∷ xs) = refl

each_has : (k : ℕ) (xs : List AnyArray) → All (λ array. len_of (layout_of array) ≡ k) xs → HaveRows k (map layout_of xs)
each_has k [] h = tt
each_has k (x ∷ xs) h = (h zero x (omega arith), each_has k xs (λ i d inside. h (suc i) d (omega (arith, inside))))

pub have_rows : (xs : List AnyArray) → AreEqualRows (λ array. len_of (layout_of array)) xs → HaveRows (row_count len_of (map layout_of xs)) (map layout_of xs)
have_rows xs h = subst (λ (k : ℕ). HaveRows k (map layout_of xs)) (rows_same xs) (each_has (row_count (λ array. len_of (layout_of array)) xs) xs h)
