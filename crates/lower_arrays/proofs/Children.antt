-- Children one by one.
use Rattle.std.proofs.Common.{arith, ◌≡◌, refl, ℕ, zero, suc, ◌+◌, ◌<◌, ◌≤◌, List, [], ◌∷◌, length, map, get_or, sym, ap, ◌∙◌}
use Rattle.std.specs.List.{All}
use Rattle.std.proofs.lemmas.List.{length-map}
use Rattle.lower_arrays.specs.Layouts.{Layout, more_layouts, layouts, len_of, type_of, height, heights}
use Rattle.lower_arrays.specs.Children.{child_count, types_of, lens_of, AllReach}
use Rattle.lower_arrays.specs.Structs.{first_len}
use Rattle.lower_arrays.specs.Slots.{IsArray, AreArrays}
use Rattle.lower_arrays.specs.Cuts.{cut, cut_each}
use Rattle.lower_arrays.specs.AnyLayouts.{layout_of}
use Rattle.lower_arrays.specs.declared.array.AnyArray.{AnyArray}

-- ---- counts
pub count_children : (cs : List Layout) → child_count (layouts cs) ≡ length cs
count_children [] = refl
count_children (c ∷ cs) = let rest = count_children cs in omega (arith, rest)

pub children_counted : (xs : List AnyArray) → child_count (layouts (map layout_of xs)) ≡ length xs
children_counted xs = count_children (map layout_of xs) ∙ length-map xs layout_of

-- ---- lengths, and arrays
pub reach_at : (ys : List AnyArray) (n i : ℕ) (y : AnyArray) → i < length ys → y ≡ get_or ys i y → AllReach n (layouts (map layout_of ys)) → n ≤ len_of (layout_of y)
reach_at [] n i y l q h = let no : ⊥ = omega (arith, l) in absurd no
reach_at (z ∷ ys) n zero y l q h = let e : len_of (layout_of y) ≡ len_of (layout_of z) = ap (λ v. len_of (layout_of v)) q in omega (arith, e, h.0)
reach_at (z ∷ ys) n (suc i) y l q h = reach_at ys n i y (omega (arith, l)) q h.1

pub height_at : (ys : List AnyArray) (i : ℕ) (y : AnyArray) → i < length ys → y ≡ get_or ys i y → height (layout_of y) + 1 ≤ heights (layouts (map layout_of ys))
height_at [] i y l q = let no : ⊥ = omega (arith, l) in absurd no
height_at (z ∷ ys) zero y l q = let e : height (layout_of y) ≡ height (layout_of z) = ap (λ v. height (layout_of v)) q in omega (arith, e)
height_at (z ∷ ys) (suc i) y l q = let below = height_at ys i y (omega (arith, l)) q in omega (arith, below)

pub reach_all : (n : ℕ) (xs : List AnyArray) → AllReach n (layouts (map layout_of xs)) → All (λ x. n ≤ len_of (layout_of x)) xs
reach_all n [] h k d l = let no : ⊥ = omega (arith, l) in absurd no
reach_all n (x ∷ xs) h zero d l = h.0
reach_all n (x ∷ xs) h (suc k) d l = reach_all n xs h.1 k d (omega (arith, l))

pub all_reach : (n : ℕ) (xs : List AnyArray) → All (λ x. n ≤ len_of (layout_of x)) xs → AllReach n (layouts (map layout_of xs))
all_reach n [] h = tt
all_reach n (x ∷ xs) h = (h 0 x (omega arith), all_reach n xs (λ k d l. h (suc k) d (omega (arith, l))))

-- ---- what the rules see of children
pub types_are : (xs : List AnyArray) → types_of (layouts (map layout_of xs)) ≡ map (λ x. type_of (layout_of x)) xs
types_are [] = refl
types_are (x ∷ xs) = ap (λ ts. type_of (layout_of x) ∷ ts) (types_are xs)

pub lens_are : (xs : List AnyArray) → lens_of (layouts (map layout_of xs)) ≡ map (λ x. len_of (layout_of x)) xs
lens_are [] = refl
lens_are (x ∷ xs) = ap (λ ns. len_of (layout_of x) ∷ ns) (lens_are xs)

pub lens_counted : (xs : List AnyArray) → length (map (λ x. len_of (layout_of x)) xs) ≡ child_count (layouts (map layout_of xs))
lens_counted xs = length-map xs (λ x. len_of (layout_of x)) ∙ sym (children_counted xs)

-- as many slots as the first child has
pub first_is : (xs : List AnyArray) → get_or (map (λ x. len_of (layout_of x)) xs) 0 0 ≡ first_len (map layout_of xs)
first_is [] = refl
first_is (x ∷ xs) = refl

pub arrays_are : (xs : List AnyArray) → All (λ x. IsArray (layout_of x)) xs → AreArrays (layouts (map layout_of xs))
arrays_are [] h = tt
arrays_are (x ∷ xs) h = (h 0 x (omega arith), arrays_are xs (λ k d l. h (suc k) d (omega (arith, l))))

-- ---- children that a loop cuts: the first i of xs are cut in ys
pub record CutUpTo (o n i : ℕ) (xs ys : List AnyArray) : Type 0 where
  pub count : length ys ≡ length xs
  pub done : (k : ℕ) (d : AnyArray) → k < i → layout_of (get_or ys k d) ≡ cut o n (layout_of (get_or xs k d))

pub all_cut : (o n : ℕ) (xs ys : List AnyArray) → CutUpTo o n (length xs) xs ys → map layout_of ys ≡ map (cut o n) (map layout_of xs)
all_cut o n [] [] h = refl
all_cut o n [] (y ∷ ys) h = let no : ⊥ = omega (arith, h.count) in absurd no
all_cut o n (x ∷ xs) [] h = let no : ⊥ = omega (arith, h.count) in absurd no
all_cut o n (x ∷ xs) (y ∷ ys) h =
    let head : layout_of y ≡ cut o n (layout_of x) = h.done 0 x (omega arith) in
    let tail : CutUpTo o n (length xs) xs ys = record {
      count = omega (arith, h.count);
      done = λ k d l. h.done (suc k) d (omega (arith, l));
    } in
    λ j. head j ∷ all_cut o n xs ys tail j

pub layouts-cut : (o n : ℕ) (cs : List Layout) → layouts (map (cut o n) cs) ≡ cut_each o n (layouts cs)
layouts-cut o n [] = refl
layouts-cut o n (c ∷ cs) = ap (λ ds. more_layouts (cut o n c) ds) (layouts-cut o n cs)
