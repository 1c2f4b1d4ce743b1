-- Clones of arrays have the same layout.
use Rattle.std.proofs.Common.{◌≡◌, List, [], ◌∷◌, map, refl}
use Rattle.std.specs.List.{AllZip}
use Rattle.lower_arrays.specs.AnyLayouts.{layout_of}
use Rattle.lower_arrays.specs.declared.array.AnyArray.{AnyArray}

pub layouts_of_clones : (xs ys : List AnyArray) → AllZip (λ (x y : AnyArray). layout_of y ≡ layout_of x) xs ys → map layout_of ys ≡ map layout_of xs
layouts_of_clones [] [] h = refl
layouts_of_clones [] (y ∷ ys) h = absurd h
layouts_of_clones (x ∷ xs) [] h = absurd h
layouts_of_clones (x ∷ xs) (y ∷ ys) h = rw (h.0, layouts_of_clones xs ys h.1) refl
