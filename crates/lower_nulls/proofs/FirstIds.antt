-- The type id of the first child of a union.
use Rattle.std.proofs.Common.{arith, refl, ◌≡◌, ℕ, ℤ, pos, negsuc, ◌<◌, List, [], ◌∷◌, sym, subst}
use Rattle.std.specs.Prelude.{Some, None, slice_get}
use Rattle.std.proofs.lemmas.Option.{slice_get_within, get_or_from_slice_get}
use Rattle.lower_validation.specs.Keys.{KeyFits}
use Rattle.lower_validation.specs.Ids.{IdsFit}
use Rattle.lower_nulls.specs.Nulls.{first_id}

pub first_is : (zs : List ℤ) (z : ℤ) → slice_get zs 0 ≡ Some z → z ≡ first_id (Some zs)
first_is [] z e = let none : ⊥ = cc in absurd none
first_is (x ∷ zs) z e = sym (get_or_from_slice_get (x ∷ zs) 0 z z e)

-- without a first id there are no ids of children
pub no_first : (zs : List ℤ) → None ≡ slice_get zs 0 → (n : ℕ) → 0 < n → ¬ (IdsFit (Some zs) n)
no_first [] e n some fits = let count = fits.count in omega (arith, some, count)
no_first (z ∷ zs) e n some fits = cc

-- ids of children are from 0 to 126
pub wide_first : (zs : List ℤ) (z : ℤ) → slice_get zs 0 ≡ Some z → ((k : ℕ) → z ≡ pos k → k < 127 → ⊥) → (n : ℕ) → 0 < n → ¬ (IdsFit (Some zs) n)
wide_first zs z e wide n some fits =
    let inside = slice_get_within zs 0 z e in
    by z wide (subst (λ (x : ℤ). KeyFits x 127) (get_or_from_slice_get zs 0 z (pos 0) e) (fits.range 0 inside))
  where
    by : (x : ℤ) → ((k : ℕ) → x ≡ pos k → k < 127 → ⊥) → KeyFits x 127 → ⊥
    by (pos k) w h = w k refl h
    by (negsuc k) w h = h
