-- The values that a builder keeps in a set.
use Rattle.std.proofs.Common.{arith, true≢false, ◌≡◌, ℕ, ◌+◌, ◌<◌, List, [], ◌∷◌, ◌++◌, Bool, true, false, length, get_or, sym, ap, ◌∙◌}
use Rattle.std.specs.Prelude.{Option, Some, None, slice_get, position, option_to_list, IsSome, ◌↔◌, if◌then◌else◌}
use Rattle.std.specs.Bool.{Decides}
use Rattle.std.specs.List.{list_any}
use Rattle.std.proofs.lemmas.List.{length_push, same_from_push}
use Rattle.std.proofs.lemmas.List.Quantifiers.{position-Some}
use Rattle.std.proofs.lemmas.Option.{slice_get-get_or}
use Rattle.indexmap.specs.IndexSet.{insert_key}

module _ {A : Type 0} (same : A → A → Bool) where
  -- the value at the index that a search finds
  pub found_value : ((x y : A) → Decides (same x y) (x ≡ y)) → (t : A) (ks : List A) (i : ℕ) → position (same t) ks ≡ Some i → slice_get ks i ≡ Some t
  found_value decides t [] i e = let no : ⊥ = cc in absurd no
  found_value decides t (k ∷ ks) i e =
      let all = k ∷ ks in
      let f = position-Some (same t) all i k e in
      slice_get-get_or all i k f.0 ∙ ap Some (sym ((decides t (get_or all i k)).0 f.1))

  -- a value that is new goes last
  pub value_new : (ks ks' : List A) (x : A) → ks' ≡ insert_key same ks x → list_any (same x) ks ≡ false → ks' ≡ ks ++ x ∷ []
  value_new ks ks' x is absent = is ∙ ap (λ b. if b then ks else ks ++ x ∷ []) absent

-- and is taken back
pub value_back : {A : Type 0} (ks mid back : List A) (x : A) (r : Option A) → mid ≡ ks ++ x ∷ [] → mid ≡ back ++ option_to_list r → (IsSome r ↔ (0 < length mid)) → back ≡ ks
value_back ks mid back x (Some y) is was found = (same_from_push back ks y x (sym was ∙ is)).0
value_back ks mid back x None is was found =
    let n : length mid ≡ length ks + 1 = ap length is ∙ length_push ks x in
    absurd (true≢false (sym (found.1 (omega (arith, n)))))
