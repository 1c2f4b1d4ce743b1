-- The list of the elements of a vector.
use Rattle.std.proofs.Common.{◌≡◌, ℕ, zero, suc, ◌+◌, ◌*◌, ◌<◌, length, Some, ap, refl, ◌∙◌, arith}
use Rattle.std.specs.Prelude.{slice_get}
use Rattle.ipc_table_views.specs.Structs.{structs_from}

pub length-structs_from : {S : Type 0} (read : ℕ → S) (size count p : ℕ) → length (structs_from read size count p) ≡ count
length-structs_from read size zero p = refl
length-structs_from read size (suc count) p = omega (arith, length-structs_from read size count (p + size))

pub slice_get-structs_from : {S : Type 0} (read : ℕ → S) (size count p i : ℕ) → i < count → slice_get (structs_from read size count p) i ≡ Some (read (p + size * i))
slice_get-structs_from read size zero p i h = absurd (omega arith)
slice_get-structs_from read size (suc count) p zero h = ap (λ (k : ℕ). Some (read k)) (let e : p ≡ p + size * 0 = omega arith in e)
slice_get-structs_from read size (suc count) p (suc i) h =
    let e : p + size + size * i ≡ p + size * suc i = omega arith in
    slice_get-structs_from read size count (p + size) i (omega arith) ∙ ap (λ (k : ℕ). Some (read k)) e

pub ruleset structs = (length-structs_from, slice_get-structs_from)
