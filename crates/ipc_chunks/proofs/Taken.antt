-- The first elements of a list, and one more.
use Rattle.std.proofs.Common.{◌≡◌, ℕ, suc, ◌+◌, ◌<◌, List, [], ◌∷◌, ◌++◌, length, take, map, get_or, refl, sym, ap, ◌∙◌, arith}
use Rattle.std.proofs.Math.Seq.{take-suc}

pub map_more : {A B : Type 0} (f : A → B) (xs : List A) (x : A) → map f (xs ++ x ∷ []) ≡ map f xs ++ f x ∷ []
map_more {B = B} f [] x = refl
map_more {B = B} f (y ∷ xs) x = ap (λ (zs : List B). f y ∷ zs) (map_more f xs x)

pub taken_next : {A B : Type 0} (f : A → B) (xs : List A) (i : ℕ) (x d : A) → i < length xs → x ≡ get_or xs i d → map f (take (i + 1) xs) ≡ map f (take i xs) ++ f x ∷ []
taken_next {A = A} f xs i x d inside e =
    let one : i + 1 ≡ suc i = omega arith in
    ap (λ (n : ℕ). map f (take n xs)) one ∙ ap (map f) (take-suc xs i d inside ∙ ap (λ (y : A). take i xs ++ y ∷ []) (sym e)) ∙ map_more f (take i xs) x
