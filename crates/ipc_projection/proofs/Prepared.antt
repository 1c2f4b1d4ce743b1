-- Columns in ascending order are distinct.
use Rattle.std.proofs.Common.{◌≡◌, ℕ, suc, ◌<◌, ◌==◌, false, List, [], ◌∷◌, arith}
use Rattle.std.specs.List.{AllByRecursion, IsDistinct}
use Rattle.std.proofs.lemmas.Bool.{ne_eqb}
use Rattle.ipc_projection.specs.Projections.{IsIncreasingFrom, PreparedLaw}

apart : (i k : ℕ) (js : List ℕ) → i < k → IsIncreasingFrom k js → AllByRecursion (λ j. (i == j) ≡ false) js
apart i k [] below rising = tt
apart i k (j ∷ js) below rising = (ne_eqb i j (λ e. omega (arith, e, below, rising.0)), apart i (suc j) js (omega (arith, below, rising.0)) rising.1)

pub distinct : (k : ℕ) (js : List ℕ) → IsIncreasingFrom k js → IsDistinct (λ i j. i == j) js
unfolding IsDistinct
distinct k [] rising = tt
distinct k (j ∷ js) rising = (apart j (suc j) js (omega arith) rising.1, distinct (suc j) js rising.1)

pub prepared_projection : PreparedLaw
prepared_projection js n h = (h.0, distinct 0 js h.1)
