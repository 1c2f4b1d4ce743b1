-- The children of a union, by their indices.
use Rattle.std.proofs.Common.{arith, ◌≡◌, refl, ℕ, zero, suc, ◌+◌, ◌<◌, ◌≤◌, List, [], ◌∷◌, length, map, get_or, sym, ap}
use Rattle.lower_arrays.specs.Layouts.{Layouts, no_layouts, more_layouts, layouts, len_of, height, heights}
use Rattle.lower_arrays.specs.Slots.{null_slot, each_at, slot_at, children_at}
use Rattle.lower_arrays.specs.Children.{child_count, lens_of, AllHave}
use Rattle.lower_arrays.specs.Choices.{child}
use Rattle.lower_arrays.specs.AnyLayouts.{layout_of}
use Rattle.lower_arrays.specs.declared.array.AnyArray.{AnyArray}

-- child k of an array is array k of them
pub child_is : (ys : List AnyArray) (k : ℕ) (y : AnyArray) → k < length ys → y ≡ get_or ys k y → child (layouts (map layout_of ys)) k ≡ layout_of y
child_is [] k y l q = let no : ⊥ = omega (arith, l) in absurd no
child_is (x ∷ ys) zero y l q = ap layout_of (sym q)
child_is (x ∷ ys) (suc k) y l q = child_is ys k y (omega (arith, l)) q

-- The slots of child k are those at index k among all.
pub child_slot : (cs : Layouts) (k i : ℕ) → get_or (each_at (children_at cs) i) k null_slot ≡ slot_at (child cs k) i
child_slot no_layouts k i = refl
child_slot (more_layouts c cs) zero i = refl
child_slot (more_layouts c cs) (suc k) i = child_slot cs k i

pub child_has : (cs : Layouts) (n k : ℕ) → AllHave n cs → k < child_count cs → len_of (child cs k) ≡ n
child_has no_layouts n k h l = let no : ⊥ = omega (arith, l) in absurd no
child_has (more_layouts c cs) n zero h l = h.0
child_has (more_layouts c cs) n (suc k) h l = child_has cs n k h.1 (omega (arith, l))

pub child_len : (cs : Layouts) (k : ℕ) → get_or (lens_of cs) k 0 ≡ len_of (child cs k)
child_len no_layouts k = refl
child_len (more_layouts c cs) zero = refl
child_len (more_layouts c cs) (suc k) = child_len cs k

pub child_low : (cs : Layouts) (k : ℕ) → k < child_count cs → height (child cs k) + 1 ≤ heights cs
child_low no_layouts k l = let no : ⊥ = omega (arith, l) in absurd no
child_low (more_layouts c cs) zero l = omega arith
child_low (more_layouts c cs) (suc k) l = let below = child_low cs k (omega (arith, l)) in omega (arith, below)
