-- How long the bytes of the elements of a vector are.
use Rattle.std.proofs.Common.{◌≡◌, ℕ, ◌+◌, ◌*◌, List, [], ◌∷◌, length, arith, length-append}
use Rattle.std.specs.List.{flat_map}

-- elements of one size
times-more : (size n : ℕ) → size + size * n ≡ size * (n + 1)
times-more size n = omega arith

pub length-elements : {S : Type 0} (spelt : S → List ℕ) (size : ℕ) → ((x : S) → length (spelt x) ≡ size) → (xs : List S) → length (flat_map spelt xs) ≡ size * length xs
length-elements spelt size sized [] = omega arith
length-elements spelt size sized (x ∷ xs) =
    omega (arith, length-append (spelt x) (flat_map spelt xs), sized x, length-elements spelt size sized xs, times-more size (length xs))
