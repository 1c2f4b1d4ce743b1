-- Steps of loops over arrays.
use Rattle.std.proofs.Common.{arith, refl, ◌≡◌, ℕ, ◌+◌, ◌*◌, ◌/◌, ◌<◌, List, [], ◌∷◌, ◌++◌, true, false, length, take, map, get_or, sym, ap, ap₂, subst, ◌∙◌}
use Rattle.std.specs.Prelude.{Option, Some, None, is_some}
use Rattle.std.specs.Borrow.{Bor}
use Rattle.std.specs.Option.{option_copied}
use Rattle.std.specs.List.{All}
use Rattle.std.proofs.lemmas.List.{map_push, map_more}
use Rattle.std.proofs.lemmas.List.Elements.{All-more}
use Rattle.std.proofs.lemmas.Nat.{div-mul-add}
use Rattle.lower_compute.proofs.RunPlaces.{map-map}

-- a fact of each element, one more of which was read
pub all_more_read : {X : Type 0} (P : X → Type 0) (xs : List X) (i : ℕ) (x : X) → i < length xs → x ≡ get_or xs i x → All P (take i xs) → P x → All P (take (i + 1) xs)
all_more_read P xs i x h at before this = All-more P xs i x h before (subst P at this)

-- a view of each element, one more of which was read and pushed
pub pushed : {X Y Z : Type 0} (v : Y → Z) (f : X → Z) (ys ys' : List Y) (y : Y) (xs : List X) (i : ℕ) (x : X) → i < length xs → x ≡ get_or xs i x
    → ys' ≡ ys ++ y ∷ [] → v y ≡ f x → map v ys ≡ map f (take i xs) → map v ys' ≡ map f (take (i + 1) xs)
pushed v f ys ys' y xs i x h at more same before =
    ap (map v) more ∙ map_push v ys y ∙ ap₂ (λ zs z. zs ++ z ∷ []) before (same ∙ ap f at) ∙ sym (map_more f xs i x h)

pub none_of : {A : Type 0} (o : Option A) → is_some o ≡ false → o ≡ None
none_of None h = refl
none_of (Some x) h = absurd (let no : true ≡ false = h in cc)

pub some_of : {A : Type 0} (o : Option (Bor A)) → is_some o ≡ true → option_copied o ≡ None → ⊥
some_of None h e = absurd (let no : false ≡ true = h in cc)
some_of (Some x) h e = absurd (let no : Some x.now ≡ None = e in cc)

-- the lengths of lists, by another view of them
pub lens_of : {X Y A : Type 0} (v : Y → List A) (f : X → List A) (ys' ys : List Y) (xs : List X) → ys' ≡ ys → map v ys ≡ map f xs → map (λ y. length (v y)) ys' ≡ map (λ x. length (f x)) xs
lens_of v f ys' ys xs same e =
    ap (map (λ y. length (v y))) same ∙ sym (map-map (λ l. length l) v ys) ∙ ap (map (λ l. length l)) e ∙ map-map (λ l. length l) f xs

-- so many items of a size
pub count_of_size : (m s size count : ℕ) → m ≡ count * size → s ≡ size → 0 < size → m / s ≡ count
count_of_size m s size count whole same some =
    let e : count * size ≡ count * size + 0 = omega arith in
    ap₂ (λ a b. a / b) (whole ∙ e) same ∙ div-mul-add count size 0 some

-- a number of each, by another view of them
pub counts_of : {X Y Z : Type 0} (m : Z → ℕ) (v : Y → Z) (f : X → Z) (ys' ys : List Y) (xs : List X) → ys' ≡ ys → map v ys ≡ map f xs → map (λ y. m (v y)) ys' ≡ map (λ x. m (f x)) xs
counts_of m v f ys' ys xs same e = ap (map (λ y. m (v y))) same ∙ sym (map-map m v ys) ∙ ap (map m) e ∙ map-map m f xs
