-- Children one by one, as the code visits them.
use Rattle.std.proofs.Common.{arith, ◌≡◌, refl, ℕ, zero, suc, ◌+◌, ◌<◌, List, [], ◌∷◌, ◌++◌, length, take, map, get_or, subst, sym, ap, ◌∙◌}
use Rattle.std.proofs.lemmas.List.{length-map, map_more}
use Rattle.lower.specs.TypeTrees.{TypeTree, FieldTree}
use Rattle.lower.specs.TypeViews.{fields_of, field_view}
use Rattle.lower.specs.declared.datatypes.Field.{Field}
use Rattle.lower_validation.specs.Fields.{field_type, FieldTypes}
use Rattle.lower_validation.specs.Places.{AllAre}

-- ---- types
same_count : (fs : List FieldTree) (ts : List TypeTree) → FieldTypes (fields_of fs) ts → length fs ≡ length ts
same_count [] [] h = refl
same_count (f ∷ fs) (t ∷ ts) h = ap suc (same_count fs ts h.1)
same_count [] (t ∷ ts) h = absurd h
same_count (f ∷ fs) [] h = absurd h

pub counts_equal : {C : Type 0} (f : C → TypeTree) (xs : List Field) (ys : List C) → FieldTypes (fields_of (map field_view xs)) (map f ys) → length xs ≡ length ys
counts_equal f xs ys h = sym (length-map xs field_view) ∙ same_count (map field_view xs) (map f ys) h ∙ length-map ys f

-- child i has the type of field i
pub type_at :
    {C : Type 0} (f : C → TypeTree) (xs : List Field) (ys : List C) (i : ℕ) (x : Field) (y : C) → i < length xs → x ≡ get_or xs i x → y ≡ get_or ys i y
    → FieldTypes (fields_of (map field_view xs)) (map f ys) → f y ≡ field_type (field_view x)
type_at f [] ys i x y l p q h = let no : ⊥ = omega (arith, l) in absurd no
type_at f (w ∷ xs) [] i x y l p q h = absurd h
type_at f (w ∷ xs) (z ∷ ys) zero x y l p q h = ap f q ∙ h.0 ∙ ap (λ v. field_type (field_view v)) (sym p)
type_at f (w ∷ xs) (z ∷ ys) (suc i) x y l p q h = type_at f xs ys i x y (omega (arith, l)) p q h.1

-- the first n children have the types of their fields
abbrev pub TypedBelow : {C : Type 0} → (C → TypeTree) → List Field → List C → ℕ → Type 0
TypedBelow f xs ys n = FieldTypes (fields_of (map field_view (take n xs))) (map f (take n ys))

types_append :
    (fs : List FieldTree) (ts : List TypeTree) (f : FieldTree) (t : TypeTree) → FieldTypes (fields_of fs) ts → t ≡ field_type f
    → FieldTypes (fields_of (fs ++ f ∷ [])) (ts ++ t ∷ [])
types_append [] [] f t h k = (k, tt)
types_append [] (u ∷ ts) f t h k = absurd h
types_append (g ∷ fs) [] f t h k = absurd h
types_append (g ∷ fs) (u ∷ ts) f t h k = (h.0, types_append fs ts f t h.1 k)

pub type_more :
    {C : Type 0} (f : C → TypeTree) (xs : List Field) (ys : List C) (i : ℕ) (x : Field) (y : C) → i < length xs → i < length ys
    → x ≡ get_or xs i x → y ≡ get_or ys i y → f y ≡ field_type (field_view x) → TypedBelow f xs ys i → TypedBelow f xs ys (i + 1)
type_more f xs ys i x y lx ly p q k h =
    let e : map field_view (take (i + 1) xs) ≡ map field_view (take i xs) ++ field_view x ∷ [] =
    map_more field_view xs i x lx ∙ ap (λ z. map field_view (take i xs) ++ field_view z ∷ []) (sym p)
    in
    let d : map f (take (i + 1) ys) ≡ map f (take i ys) ++ f y ∷ [] =
    map_more f ys i y ly ∙ ap (λ z. map f (take i ys) ++ f z ∷ []) (sym q)
    in
    subst (λ fs. FieldTypes (fields_of fs) (map f (take (i + 1) ys))) (sym e)
    (subst (λ ts. FieldTypes (fields_of (map field_view (take i xs) ++ field_view x ∷ [])) ts) (sym d)
    (types_append (map field_view (take i xs)) (map f (take i ys)) (field_view x) (f y) h k))

-- ---- lengths
pub len_at : {C : Type 0} (f : C → ℕ) (ys : List C) (n i : ℕ) (y : C) → i < length ys → y ≡ get_or ys i y → AllAre n (map f ys) → f y ≡ n
len_at f [] n i y l q h = let no : ⊥ = omega (arith, l) in absurd no
len_at f (z ∷ ys) n zero y l q h = ap f q ∙ h.0
len_at f (z ∷ ys) n (suc i) y l q h = len_at f ys n i y (omega (arith, l)) q h.1

are_append : (ms : List ℕ) (n m : ℕ) → AllAre n ms → m ≡ n → AllAre n (ms ++ m ∷ [])
are_append [] n m h k = (k, tt)
are_append (l ∷ ms) n m h k = (h.0, are_append ms n m h.1 k)

pub len_more :
    {C : Type 0} (f : C → ℕ) (ys : List C) (n i : ℕ) (y : C) → i < length ys → y ≡ get_or ys i y → f y ≡ n → AllAre n (map f (take i ys))
    → AllAre n (map f (take (i + 1) ys))
len_more f ys n i y l q k h =
    let e : map f (take (i + 1) ys) ≡ map f (take i ys) ++ f y ∷ [] =
    map_more f ys i y l ∙ ap (λ z. map f (take i ys) ++ f z ∷ []) (sym q)
    in
    subst (AllAre n) (sym e) (are_append (map f (take i ys)) n (f y) h k)

pub ruleset one_more = (len_at, len_more)
