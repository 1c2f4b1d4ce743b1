-- Some items of a list, some bits of a validity.
use Rattle.std.proofs.Common.{arith, ◌≡◌, ℕ, ◌+◌, ◌<◌, ◌≤◌, List, Some, None, length, take, drop, map, get_or, sym, ap, ◌∙◌}
use Rattle.std.proofs.lemmas.List.{length-take, length-drop, get_or-take, get_or-drop, take-map, drop-map}
use Rattle.lower_flat_arrays.specs.Validities.{Validity, ValidityFits, part, cut_validity}

pub get_or-part : {A : Type 0} (o n : ℕ) (xs : List A) (i : ℕ) (d : A) → i < n → get_or (part o n xs) i d ≡ get_or xs (o + i) d
get_or-part o n xs i d h = get_or-take n (drop o xs) i d h ∙ get_or-drop o xs i d

pub length-part : {A : Type 0} (o n : ℕ) (xs : List A) → o + n ≤ length xs → length (part o n xs) ≡ n
length-part o n xs h = omega (arith, length-take n (drop o xs), length-drop o xs, h)

pub map-part : {A B : Type 0} (f : A → B) (o n : ℕ) (xs : List A) → map f (part o n xs) ≡ part o n (map f xs)
map-part f o n xs = sym (take-map f n (drop o xs)) ∙ ap (λ ys. take n ys) (sym (drop-map f o xs))

-- a validity of m slots has a bit for each of some of them
pub fits-cut : (v : Validity) (o n m : ℕ) → o + n ≤ m → ValidityFits v m → ValidityFits (cut_validity o n v) n
fits-cut None o n m h f = tt
fits-cut (Some bits) o n m h f = length-part o n bits (omega (arith, h, f))
