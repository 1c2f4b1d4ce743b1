-- Fields counted, and one field alone.
use Rattle.std.proofs.Common.{arith, ◌≡◌, refl, List, [], ◌∷◌, length, map, get_or, ap, ◌∙◌, sym}
use Rattle.std.proofs.lemmas.List.{length-map}
use Rattle.lower.specs.TypeTrees.{TypeTree, FieldTree}
use Rattle.lower.specs.TypeViews.{fields_of, field_view}
use Rattle.lower.specs.declared.datatypes.Field.{Field}
use Rattle.lower_validation.specs.Fields.{field_type, field_count, FieldTypes}

count_fields : (fs : List FieldTree) → field_count (fields_of fs) ≡ length fs
count_fields [] = refl
count_fields (f ∷ fs) = let rest = count_fields fs in omega (arith, rest)

pub fields_counted : (xs : List Field) → field_count (fields_of (map field_view xs)) ≡ length xs
fields_counted xs = count_fields (map field_view xs) ∙ length-map xs field_view

-- one type is that of one field
pub one_type : (xs : List Field) (t : TypeTree) → FieldTypes (fields_of (map field_view xs)) (t ∷ []) → length xs ≡ 1
one_type [] t h = absurd h
one_type (x ∷ []) t h = refl
one_type (x ∷ y ∷ xs) t h = absurd h.1

pub type_of_one : (xs : List Field) (x : Field) (t : TypeTree) → length xs ≡ 1 → x ≡ get_or xs 0 x → FieldTypes (fields_of (map field_view xs)) (t ∷ []) → t ≡ field_type (field_view x)
type_of_one [] x t l q h = absurd h
type_of_one (y ∷ ys) x t l q h = h.0 ∙ ap (λ f. field_type (field_view f)) (sym q)

pub only_type : (xs : List Field) (x : Field) (t : TypeTree) → length xs ≡ 1 → x ≡ get_or xs 0 x → t ≡ field_type (field_view x) → FieldTypes (fields_of (map field_view xs)) (t ∷ [])
only_type [] x t l q h = let no : ⊥ = omega (arith, l) in absurd no
only_type (y ∷ []) x t l q h = (h ∙ ap (λ f. field_type (field_view f)) q, tt)
only_type (y ∷ z ∷ ys) x t l q h = let no : ⊥ = omega (arith, l) in absurd no
