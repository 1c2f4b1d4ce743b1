-- The type ids of a union's children, and the children that they name: by a rule
-- of its array and by the entries.
use Rattle.std.proofs.Common.{arith, ◌≡◌, ◌≢◌, ℕ, zero, suc, ℤ, pos, negsuc, ◌+◌, ◌<◌, true, false, true≢false, cond, List, [], ◌∷◌, length, get_or, Some, None, refl, sym, ap, ◌∙◌, subst, inl, inr}
use Rattle.std.specs.Prelude.{nat_lt}
use Rattle.std.specs.List.{position_or_len}
use Rattle.std.specs.Ordering.{int_eq}
use Rattle.std.proofs.lemmas.Bool.{cases_Bool}
use Rattle.std.proofs.lemmas.Bool.Decides.{nat_tests, Decides-int_eq}
use Rattle.std.proofs.lemmas.List.Recursion.{is_position_or_len}
use Rattle.std.proofs.lemmas.Map.Keys.{apart_from_distinct, IsDistinct-from_apart}
use Rattle.lower_validation.specs.Ids.{TypeIds, IdsFit, NamesChild, place_among, child_number}
use Rattle.ipc_model.specs.Columns.{AreUnionIds, child_named}
use Rattle.ipc_model.specs.Entries.{IsIndex}
use Rattle.ipc_read_flat.proofs.Indices.{index_key, key_index}

-- ---- ids

apart : (x y : ℤ) → x ≢ y → int_eq x y ≡ false
apart x y h = elim (cases_Bool (int_eq x y)) [ inl e ↦ absurd (h ((Decides-int_eq x y).0 e)) | inr e ↦ e ]

differ : (x y : ℤ) → int_eq x y ≡ false → x ≢ y
differ x y e = λ same. true≢false (sym ((Decides-int_eq x y).1 same) ∙ e)

-- An item is the same whatever the default is.
get_any : (xs : List ℤ) (i : ℕ) (d e : ℤ) → i < length xs → get_or xs i d ≡ get_or xs i e
get_any [] i d e h = absurd (omega (arith, h))
get_any (x ∷ xs) zero d e h = refl
get_any (x ∷ xs) (suc i) d e h = get_any xs i d e (omega (arith, h))

pub ids_are : (ids : TypeIds) (n : ℕ) → IdsFit ids n → AreUnionIds ids n
ids_are None n h = tt
ids_are (Some xs) n h = (
  h.count,
  IsDistinct-from_apart int_eq xs (λ i j d before inside.
      subst (λ (z : ℤ). int_eq z (get_or xs j d) ≡ false) (get_any xs i (pos 0) d (omega (arith, before, inside)))
      (subst (λ (z : ℤ). int_eq (get_or xs i (pos 0)) z ≡ false) (get_any xs j (pos 0) d inside)
      (apart (get_or xs i (pos 0)) (get_or xs j (pos 0)) (h.distinct i j before inside)))),
  λ i d inside. subst (λ (z : ℤ). IsIndex z 127) (get_any xs i (pos 0) d inside) (key_index (get_or xs i (pos 0)) 127 (h.range i inside)),
)

pub ids_were : (ids : TypeIds) (n : ℕ) → AreUnionIds ids n → IdsFit ids n
ids_were None n h = tt
ids_were (Some xs) n h = record {
  count = h.0;
  range = λ i inside. index_key (get_or xs i (pos 0)) 127 (h.2 i (pos 0) inside);
  distinct = λ i j before inside. differ (get_or xs i (pos 0)) (get_or xs j (pos 0)) (apart_from_distinct int_eq xs i j (pos 0) h.1 before inside);
}

-- ---- the child that an id names

first_is : (z : ℤ) (xs : List ℤ) → place_among z xs ≡ position_or_len (λ x. int_eq x z) xs
first_is z xs = is_position_or_len (place_among z) (λ x. int_eq x z) refl (λ x ys. ap (λ k. cond (int_eq x z) 0 k) (let e : place_among z ys + 1 ≡ 1 + place_among z ys = omega arith in e)) xs

-- The index of a child, which exists.
pub names_one : (ids : TypeIds) (n : ℕ) (z : ℤ) → IdsFit ids n → child_named ids n z < n → NamesChild ids n z × (child_number ids z ≡ child_named ids n z)
names_one None n (pos m) fit h = (h, refl)
names_one None n (negsuc m) fit h = absurd (omega (arith, h))
names_one (Some xs) n z fit h =
    elim (cases_Bool (nat_lt (position_or_len (λ x. int_eq x z) xs) (length xs))) [
      | inl e ↦
          let same : child_named (Some xs) n z ≡ position_or_len (λ x. int_eq x z) xs = (rw e refl) in
          let at = first_is z xs in
          ((omega (arith, at, same, h)), at ∙ sym same)
      | inr e ↦ let low : n < n = rw e at h in absurd (omega (arith, low))
    ]

pub one_named : (ids : TypeIds) (n : ℕ) (z : ℤ) → IdsFit ids n → NamesChild ids n z → child_named ids n z < n
one_named None n (pos m) fit h = h
one_named None n (negsuc m) fit h = absurd h
one_named (Some xs) n z fit h =
    let at = first_is z xs in
    let low : position_or_len (λ x. int_eq x z) xs < length xs = omega (arith, at, h, fit.count) in
    let test : nat_lt (position_or_len (λ x. int_eq x z) xs) (length xs) ≡ true = grind (arith, nat_tests) in
    let same : child_named (Some xs) n z ≡ position_or_len (λ x. int_eq x z) xs = (rw test refl) in
    omega (arith, same, at, h)
