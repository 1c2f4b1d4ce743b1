-- The children of arrays, by their numbers.
use Rattle.std.proofs.Common.{arith, zero, suc, refl, ◌≡◌, ℕ, ◌<◌, ◌≤◌, List, [], ◌∷◌, length, map, get_or, sym, ap}
use Rattle.lower_arrays.specs.Layouts.{Layout, Layouts, no_layouts, more_layouts, layouts, len_of, type_of}
use Rattle.lower_arrays.specs.Children.{child_count, types_of, HasChild, AllHave, AllReach}
use Rattle.lower_arrays.specs.Choices.{child, no_child}
use Rattle.lower_arrays.specs.Slots.{slot_at, children_at, each_at}
use Rattle.lower_arrays.specs.AnyLayouts.{layout_of}
use Rattle.lower_arrays.specs.declared.array.AnyArray.{AnyArray}

-- the one child
pub only_child : (c : Layout) (k : ℕ) → k < child_count (more_layouts c no_layouts) → c ≡ child (more_layouts c no_layouts) k
only_child c zero lt = refl
only_child c (suc k) lt = absurd (omega (arith, lt))

pub ruleset places = (only_child)

pub child_layouts : (cs : List Layout) (k : ℕ) → child (layouts cs) k ≡ get_or cs k no_child
child_layouts [] k = refl
child_layouts (c ∷ cs) zero = refl
child_layouts (c ∷ cs) (suc k) = child_layouts cs k

-- array k of some, as a layout
pub layout_at : (xs : List AnyArray) (k : ℕ) (x : AnyArray) → k < length xs → x ≡ get_or xs k x → get_or (map layout_of xs) k no_child ≡ layout_of x
layout_at [] k x lt at = absurd (omega (arith, lt))
layout_at (y ∷ xs) zero x lt at = ap layout_of (sym at)
layout_at (y ∷ xs) (suc k) x lt at = layout_at xs k x (omega (arith, lt)) at

-- the slots of the children at one index
pub each-same : (cs ds : Layouts) (i j : ℕ) → child_count cs ≡ child_count ds → ((k : ℕ) → k < child_count cs → slot_at (child cs k) i ≡ slot_at (child ds k) j)
    → each_at (children_at cs) i ≡ each_at (children_at ds) j
each-same no_layouts no_layouts i j n h = refl
each-same no_layouts (more_layouts d ds) i j n h = absurd (omega (arith, n))
each-same (more_layouts c cs) no_layouts i j n h = absurd (omega (arith, n))
each-same (more_layouts c cs) (more_layouts d ds) i j n h =
    let first = h 0 (omega arith) in
    let rest = each-same cs ds i j (omega (arith, n)) (λ k lt. h (suc k) (omega (arith, lt))) in
    λ q. first q ∷ rest q

-- ---- the rules of children, one by one
pub types-same : (cs ds : List Layout) → length cs ≡ length ds → ((k : ℕ) → k < length ds → type_of (get_or cs k no_child) ≡ type_of (get_or ds k no_child))
    → types_of (layouts cs) ≡ types_of (layouts ds)
types-same [] [] n h = refl
types-same [] (d ∷ ds) n h = absurd (omega (arith, n))
types-same (c ∷ cs) [] n h = absurd (omega (arith, n))
types-same (c ∷ cs) (d ∷ ds) n h =
    let first = h 0 (omega arith) in
    let rest = types-same cs ds (omega (arith, n)) (λ k lt. h (suc k) (omega (arith, lt))) in
    λ q. first q ∷ rest q

pub all-have : (n : ℕ) (cs : List Layout) → ((k : ℕ) → k < length cs → len_of (get_or cs k no_child) ≡ n) → AllHave n (layouts cs)
all-have n [] h = tt
all-have n (c ∷ cs) h = (h 0 (omega arith), all-have n cs (λ k lt. h (suc k) (omega (arith, lt))))

pub has-child : (cs ds : List Layout) → length cs ≡ length ds → HasChild (layouts ds) → HasChild (layouts cs)
has-child [] [] n h = h
has-child [] (d ∷ ds) n h = absurd (omega (arith, n))
has-child (c ∷ cs) ds n h = tt

pub some-child : (cs : Layouts) → HasChild cs → 0 < child_count cs
some-child no_layouts h = absurd h
some-child (more_layouts c cs) h = omega arith

-- the first child reaches as far as all do
pub reach-first : (n : ℕ) (cs : Layouts) → AllReach n cs → 0 < child_count cs → n ≤ len_of (child cs 0)
reach-first n no_layouts h lt = absurd (omega (arith, lt))
reach-first n (more_layouts c cs) h lt = h.0

pub have-first : (n : ℕ) (cs : Layouts) → AllHave n cs → 0 < child_count cs → len_of (child cs 0) ≡ n
have-first n no_layouts h lt = absurd (omega (arith, lt))
have-first n (more_layouts c cs) h lt = h.0
