-- Arrays of keys.
use Rattle.std.proofs.Common.{arith, zero, suc, refl, ◌≡◌, ℕ, ℤ, pos, ◌<◌, List, [], ◌∷◌, Bool, true, false, length, map, get_or, sym, ap, ap₂, subst, ◌∙◌}
use Rattle.std.specs.Prelude.{Option, Some, None, option_map, Result, Ok, Err, IfOk}
use Rattle.std.proofs.lemmas.List.{length-map, get_or-map}
use Rattle.lower.specs.TypeTrees.{plain}
use Rattle.lower.specs.Physical.{integer, number_type}
use Rattle.lower.specs.declared.datatypes.IntegerType.{IntegerType}
use Rattle.lower_types.specs.declared.PrimitiveType.{PrimitiveType}
use Rattle.lower_flat_arrays.specs.Primitives.{PrimitiveSeen}
use Rattle.lower_flat_arrays.specs.Validities.{Validity, is_valid}
use Rattle.lower_flat_arrays.specs.Options.{option_where, where_set, options}
use Rattle.lower_validation.specs.Keys.{KeysFit, keys_in}
use Rattle.lower_validation.specs.AnyKeys.{keys_seen}
use Rattle.lower_validation.specs.declared.keys.DictionaryKeys.{DictionaryKeys}
use Rattle.lower_dictionary_builders.specs.Keyed.{Selects, AreKeysOf}

option_where-map : {A B : Type 0} (f : A → B) (b : Bool) (x : A) → option_where b (f x) ≡ option_map f (option_where b x)
option_where-map f true x = refl
option_where-map f false x = refl

where_set-map : {A B : Type 0} (f : A → B) (bits : List Bool) (xs : List A) → where_set bits (map f xs) ≡ map (option_map f) (where_set bits xs)
where_set-map f [] [] = refl
where_set-map f [] (x ∷ xs) = refl
where_set-map f (b ∷ bs) [] = refl
where_set-map f (b ∷ bs) (x ∷ xs) = ap₂ (λ y ys. y ∷ ys) (option_where-map f b x) (where_set-map f bs xs)

all-map : {A B : Type 0} (f : A → B) (xs : List A) → map Some (map f xs) ≡ map (option_map f) (map Some xs)
all-map f [] = refl
all-map f (x ∷ xs) = ap (λ ys. Some (f x) ∷ ys) (all-map f xs)

-- a function of each slot
options-map : {A B : Type 0} (f : A → B) (v : Validity) (xs : List A) → options v (map f xs) ≡ map (option_map f) (options v xs)
options-map f None xs = all-map f xs
options-map f (Some bits) xs = where_set-map f bits xs

slots-map : {A B : Type 0} (f : A → B) (v : Validity) (xs : List A) (slots : List (Option A)) → options v xs ≡ slots → options v (map f xs) ≡ map (option_map f) slots
slots-map f v xs slots e = options-map f v xs ∙ ap (map (option_map f)) e

-- numbers as keys
pub keys_of : {T E : Type 0} (key : IntegerType) (p : PrimitiveType) (integer_of : T → ℤ) (slots : List (Option T)) (a : PrimitiveSeen T) (r : Result DictionaryKeys E)
    → number_type p ≡ integer key → a.type ≡ plain (number_type p) → options a.validity a.values ≡ slots
    → IfOk r (λ all. keys_seen all ≡ keys_in key integer_of a) → IfOk r (λ all. AreKeysOf key (map (option_map integer_of) slots) (keys_seen all))
keys_of key p integer_of slots a (Err e) named type same is = tt
keys_of key p integer_of slots a (Ok all) named type same is =
    subst (AreKeysOf key (map (option_map integer_of) slots)) (sym is)
    (record { key_is = refl; type = type ∙ ap plain named; slots_are = slots-map integer_of a.validity a.values slots same })

where_slot : (bits : List Bool) (ks : List ℤ) (i : ℕ) → i < length ks → get_or bits i false ≡ true → (i < length (where_set bits ks)) × (get_or (where_set bits ks) i None ≡ Some (get_or ks i (pos 0)))
where_slot [] ks i h e = let no : ⊥ = cc in absurd no
where_slot (b ∷ bs) [] i h e = let no : ⊥ = omega (arith, h) in absurd no
where_slot (b ∷ bs) (k ∷ ks) zero h e = (omega arith, ap (λ c. option_where c k) e)
where_slot (b ∷ bs) (k ∷ ks) (suc i) h e = let r = where_slot bs ks i (omega (arith, h)) e in (let w = r.0 in omega (arith, w), r.1)

-- a key that isn't null, as a slot
valid_slot : (v : Validity) (ks : List ℤ) (i : ℕ) → i < length ks → is_valid v i ≡ true → (i < length (options v ks)) × (get_or (options v ks) i None ≡ Some (get_or ks i (pos 0)))
valid_slot None ks i h e = (let n = length-map ks Some in omega (arith, h, n), get_or-map Some ks i (pos 0) None h)
valid_slot (Some bits) ks i h e = where_slot bits ks i h e

-- keys whose slots select values
pub keys_fit : (v : Validity) (ks : List ℤ) (n : ℕ) (slots : List (Option ℤ)) → options v ks ≡ slots → ((i : ℕ) → i < length slots → Selects n (get_or slots i None)) → KeysFit v ks n
keys_fit v ks n slots same each = record {
  each = λ i below valid.
      let r = valid_slot v ks i below valid in
      let count : length (options v ks) ≡ length slots = ap length same in
      let inside : i < length slots = let w = r.0 in omega (arith, w, count) in
      let here : get_or slots i None ≡ Some (get_or ks i (pos 0)) = ap (λ s. get_or s i None) (sym same) ∙ r.1 in
      subst (Selects n) here (each i inside);
}
