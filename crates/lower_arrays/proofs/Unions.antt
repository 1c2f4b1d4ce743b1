-- Some slots of a union, and the index of a slot in its child.
use Rattle.std.proofs.Common.{arith, ℕ, ℤ, pos, ◌+◌, ◌<◌, ◌≤◌, List, Option, Some, None, length, get_or, subst, sym}
use Rattle.lower.specs.TypeTrees.{TypeTree}
use Rattle.lower_arrays.specs.Layouts.{Layout, Layouts, layouts, len_of}
use Rattle.lower_arrays.specs.Slots.{IsArray}
use Rattle.lower_arrays.specs.Children.{child_count, lens_of}
use Rattle.lower_validation.specs.Keys.{place_of}
use Rattle.lower_validation.specs.Ids.{TypeIds, union_ids, child_number}
use Rattle.lower_validation.specs.Places.{PlacesFit}
use Rattle.lower_validation.proofs.ChildNumbers.{number_below, number_fits}
use Rattle.lower_arrays.specs.Choices.{child, place_in}
use Rattle.lower_arrays.specs.Unions.{UnionSeen, union_seen, union_layout, IsUnion, cut_union}
use Rattle.lower_arrays.proofs.Choices.{child_has, child_len}
use Rattle.lower_arrays.proofs.CutRules.{IsArray-cut}
use Rattle.lower_arrays.proofs.Slices.{layout-cut_union}

union_is : (a : UnionSeen) → IsArray (union_layout a) → IsUnion a
union_is a k = record { fits = k.1.2; arrays = k.2 }

is_union : (t : TypeTree) (ts : List ℤ) (os : Option (List ℤ)) (cs : List Layout) → IsUnion (union_seen t ts cs os) → IsArray (union_layout (union_seen t ts cs os))
is_union t ts os cs k = (tt, (λ i. None, λ i. length ts, k.fits), k.arrays)

pub cut_union_is :
    (t : TypeTree) (ts : List ℤ) (os : Option (List ℤ)) (cs : List Layout) (o n : ℕ) → o + n ≤ length ts
    → IsUnion (union_seen t ts cs os) → IsUnion (cut_union o n (union_seen t ts cs os))
cut_union_is t ts os cs o n room k =
    let a : UnionSeen = union_seen t ts cs os in
    union_is (cut_union o n a)
    (subst IsArray (sym (layout-cut_union o n t ts os cs room)) (IsArray-cut (union_layout a) o n room (is_union t ts os cs k)))

-- the child of slot i
pub index_child :
    (a : UnionSeen) (i : ℕ) → IsUnion a → i < length a.types
    → child_number (union_ids a.type) (get_or a.types i (pos 0)) < child_count (layouts a.children)
index_child a i k l = number_below (union_ids a.type) (child_count (layouts a.children)) (get_or a.types i (pos 0)) (k.fits.names.each i l)

place_within :
    (zs : TypeIds) (ts : List ℤ) (os : Option (List ℤ)) (cs : Layouts) (i : ℕ) → PlacesFit zs ts os (lens_of cs) → i < length ts
    → child_number zs (get_or ts i (pos 0)) < child_count cs
    → place_in os i < len_of (child cs (child_number zs (get_or ts i (pos 0))))
place_within zs ts None cs i k l c = let e = child_has cs (length ts) (child_number zs (get_or ts i (pos 0))) k c in omega (arith, e, l)
place_within zs ts (Some os) cs i k l c =
    let j = child_number zs (get_or ts i (pos 0)) in
    subst (λ m. place_of (get_or os i (pos 0)) < m) (child_len cs j) (number_fits (get_or os i (pos 0)) (get_or (lens_of cs) j 0) (k.each i l))

pub index_bound :
    (a : UnionSeen) (i : ℕ) → IsUnion a → i < length a.types
    → place_in a.offsets i < len_of (child (layouts a.children) (child_number (union_ids a.type) (get_or a.types i (pos 0))))
index_bound a i k l = place_within (union_ids a.type) a.types a.offsets (layouts a.children) i k.fits.places l (index_child a i k l)

pub ruleset index_rules = (index_child, index_bound)
