-- Columns of equal lengths that are cut in the same way.
use Rattle.std.proofs.Common.{arith, refl, ◌≡◌, ℕ, zero, suc, ◌+◌, ◌<◌, ◌≤◌, List, [], ◌∷◌, length, map, drop, get_or, sym, ap, ◌∙◌}
use Rattle.std.specs.List.{All}
use Rattle.lower_arrays.specs.Layouts.{Layout, layout, layouts, len_of}
use Rattle.lower_arrays.specs.Children.{AllReach}
use Rattle.lower_arrays.specs.Cuts.{cut}
use Rattle.lower_arrays.specs.AnyLayouts.{layout_of}
use Rattle.lower_arrays.specs.declared.array.AnyArray.{AnyArray}
use Rattle.lower_arrays.proofs.Children.{all_reach}
use Rattle.ipc_base.specs.Chunks.{AreEqualRows, row_count}

-- each column has the rows of the chunk
pub rows_reach : (n : ℕ) (xs : List AnyArray) → AreEqualRows (λ array. len_of (layout_of array)) xs
    → n ≤ row_count (λ array. len_of (layout_of array)) xs → AllReach n (layouts (map layout_of xs))
rows_reach n xs equal within = all_reach n xs (λ k d l. let e = equal k d l in omega (arith, e, within))

len-cut : (o n : ℕ) (l : Layout) → len_of (cut o n l) ≡ n
len-cut o n (layout h cs) = refl

lens-cut : (o n : ℕ) (ys xs : List AnyArray) → map layout_of ys ≡ map (cut o n) (map layout_of xs) → All (λ y. len_of (layout_of y) ≡ n) ys
lens-cut o n [] xs e k d l = let no : ⊥ = omega (arith, l) in absurd no
lens-cut o n (y ∷ ys) [] e k d l =
    let count : length (map layout_of (y ∷ ys)) ≡ 0 = ap length e in
    let no : ⊥ = omega (arith, count) in
    absurd no
lens-cut o n (y ∷ ys) (x ∷ xs) e zero d l = ap (λ ls. len_of (get_or ls 0 (layout_of y))) e ∙ len-cut o n (layout_of x)
lens-cut o n (y ∷ ys) (x ∷ xs) e (suc k) d l = lens-cut o n ys xs (ap (drop 1) e) k d (omega (arith, l))

-- columns that are cut in the same way have equal lengths
pub equal_cut : (o n : ℕ) (ys xs : List AnyArray) → map layout_of ys ≡ map (cut o n) (map layout_of xs)
    → AreEqualRows (λ array. len_of (layout_of array)) ys
equal_cut o n [] xs e k d l = let no : ⊥ = omega (arith, l) in absurd no
equal_cut o n (y ∷ ys) xs e k d l = lens-cut o n (y ∷ ys) xs e k d l ∙ sym (lens-cut o n (y ∷ ys) xs e 0 y (omega arith))

pub ruleset cut_rows = (rows_reach, equal_cut)
