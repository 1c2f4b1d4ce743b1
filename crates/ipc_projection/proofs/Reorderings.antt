-- What the tests of a reordering say together.
use Rattle.std.proofs.Common.{◌≡◌, ℕ, ◌<◌, nat_eq, Option, Some, None, IsSome, arith, refl, sym, ◌∙◌, ap, subst, inl, inr}
use Rattle.std.specs.List.{All}
use Rattle.std.specs.Option.{unwrap_or}
use Rattle.std.specs.HashMap.{HashMap, get, keys}
use Rattle.std.specs.Cmp.{nat_eq_equiv}
use Rattle.std.proofs.lemmas.Bool.{cases_lt, false≢true}
use Rattle.std.proofs.lemmas.Map.Views.{All-keys_from_lookup, Contains-keys_from_lookup, exact_unsigned_eq}
use Rattle.std.proofs.lemmas.List.Elements.{All-contains}
use Rattle.ipc_projection.specs.Projections.{IsReordering}
use Rattle.ipc_projection.specs.Steps.{HasFirstKeys, HasPlaces, IsPlace, IsApart}

pub some_same : {X : Type 0} {x y : X} → Some x ≡ Some y → x ≡ y
some_same {X} {x} {y} e = ap (λ (o : Option X). unwrap_or o x) e

pub some_of : {X : Type 0} (o : Option X) → IsSome o → (x : X) × (o ≡ Some x)
some_of None h = absurd (false≢true h)
some_of (Some x) h = (x, refl)

pub some_is : {X : Type 0} (o : Option X) (x : X) → o ≡ Some x → IsSome o
some_is o x e = subst IsSome (sym e) refl

module _ {S : Type 0} (m : HashMap ℕ ℕ S) (n : ℕ) where
  abbrev pub EachKey : Type 0
  EachKey = (i : ℕ) → i < n → IsSome (get nat_eq m i)

  abbrev pub EachApart : Type 0
  EachApart = (i : ℕ) → i < n → IsApart m n i

  abbrev pub EachPlace : Type 0
  EachPlace = (p : ℕ) → p < n → IsPlace m n p

  pub has_keys : All (λ key. key < n) (keys m) → EachKey → HasFirstKeys m n
  has_keys below each = record {
    keys = λ i. (
      λ some. All-contains (λ key. key < n) (keys m) i below (Contains-keys_from_lookup exact_unsigned_eq i m.entries some),
      each i,
    );
  }

  pub keys_under : HasFirstKeys m n → All (λ key. key < n) (keys m)
  keys_under h = All-keys_from_lookup nat_eq_equiv (λ key. key < n) m.entries (λ q some. (h.keys q).0 some)

  pub is_checked : HasFirstKeys m n → EachApart → EachPlace → IsReordering m n
  is_checked h apart place = record {
    keys = h.keys;
    values = λ p. (λ w. below w.0 p w.1, λ l. ((place p l).column, (place p l).goes));
    once = λ i j p e f. elim (cases_lt i j) [
      | inl l ↦ absurd (earlier i j p l e f)
      | inr g ↦ elim (cases_lt j i) [
        | inl l ↦ absurd (earlier j i p l f e)
        | inr k ↦ omega (arith, g, k)
      ]
    ];
  }
    where
      inside : (i p : ℕ) → get nat_eq m i ≡ Some p → i < n
      inside i p e = (h.keys i).0 (some_is (get nat_eq m i) p e)

      below : (i p : ℕ) → get nat_eq m i ≡ Some p → p < n
      below i p e =
          let a = apart i (inside i p e) in
          let same : p ≡ a.place = some_same (sym e ∙ a.goes) in
          omega (arith, same, a.below)

      earlier : (i j p : ℕ) → i < j → get nat_eq m i ≡ Some p → get nat_eq m j ≡ Some p → ⊥
      earlier i j p l e f =
          let a = apart j (inside j p f) in
          a.apart (record { column = i; below = l; goes = e ∙ sym f ∙ a.goes })

  pub apart_of : IsReordering m n → EachApart
  apart_of r i l =
      let w = some_of (get nat_eq m i) ((r.keys i).1 l) in
      record {
        place = w.0;
        goes = w.1;
        below = (r.values w.0).0 (i, w.1);
        apart = λ q. let same : q.column ≡ i = r.once q.column i w.0 q.goes w.1 in omega (arith, same, q.below);
      }

  pub place_of : IsReordering m n → EachPlace
  place_of r p l =
      let w = (r.values p).1 l in
      record { column = w.0; below = (r.keys w.0).0 (some_is (get nat_eq m w.0) p w.1); goes = w.1 }

  pub reordering_of : HasFirstKeys m n → HasPlaces m n → IsReordering m n
  reordering_of k p = is_checked k p.apart p.all

  pub keys_of_reordering : IsReordering m n → HasFirstKeys m n
  keys_of_reordering r = record { keys = r.keys }

  pub places_of_reordering : IsReordering m n → HasPlaces m n
  places_of_reordering r = record { apart = apart_of r; all = place_of r }
