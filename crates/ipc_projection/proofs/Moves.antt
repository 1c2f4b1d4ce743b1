-- Columns that are moved to their indices.
use Rattle.std.proofs.Common.{◌≡◌, ℕ, zero, suc, ◌<◌, ◌≤◌, ◌≢◌, nat_eq, List, [], ◌∷◌, ◌++◌, length, get_or, set, Option, Some, None, IsSome, slice_get, option_map, arith, refl, sym, ◌∙◌, ap, subst, inl, inr}
use Rattle.std.specs.List.{All, filter_map}
use Rattle.std.specs.HashMap.{HashMap, get}
use Rattle.std.proofs.lemmas.Bool.{cases_lt, false≢true}
use Rattle.std.proofs.lemmas.List.{get_or-set_same, get_or-set_other}
use Rattle.std.proofs.lemmas.Option.{slice_get-get_or}
use Rattle.ipc_base.specs.Chunks.{AreEqualRows, row_count}
use Rattle.ipc_projection.proofs.Reorderings.{some_same, some_is}
use Rattle.ipc_projection.specs.Projections.{IsReordering, AreReordered}
use Rattle.ipc_projection.specs.Placing.{Placing}

length_set : {X : Type 0} (xs : List X) (i : ℕ) (y : X) → length (set xs i y) ≡ length xs
length_set [] i y = refl
length_set (x ∷ xs) zero y = refl
length_set (x ∷ xs) (suc i) y = ap suc (length_set xs i y)

length_last : {X : Type 0} (xs : List X) (x : X) → length (xs ++ x ∷ []) ≡ suc (length xs)
length_last [] x = refl
length_last (y ∷ xs) x = ap suc (length_last xs x)

at_front : {X : Type 0} (xs ys : List X) (k : ℕ) → k < length xs → slice_get (xs ++ ys) k ≡ slice_get xs k
at_front [] ys k l = absurd (omega (arith, l))
at_front (x ∷ xs) ys zero l = refl
at_front (x ∷ xs) ys (suc k) l = at_front xs ys k (omega (arith, l))

at_last : {X : Type 0} (xs : List X) (x : X) → slice_get (xs ++ x ∷ []) (length xs) ≡ Some x
at_last [] x = refl
at_last (y ∷ xs) x = at_last xs x

at_same : {X : Type 0} (os : List (Option X)) (p : ℕ) (o : Option X) → p < length os → slice_get (set os p o) p ≡ Some o
at_same os p o l =
    let inside : p < length (set os p o) = omega (arith, l, length_set os p o) in
    slice_get-get_or (set os p o) p None inside ∙ ap Some (get_or-set_same os p o None l)

at_other : {X : Type 0} (os : List (Option X)) (p q : ℕ) (o : Option X) → q < length os → q ≢ p → slice_get (set os p o) q ≡ slice_get os q
at_other os p q o l ne =
    let inside : q < length (set os p o) = omega (arith, l, length_set os p o) in
    slice_get-get_or (set os p o) q None inside ∙ ap Some (get_or-set_other os p q o None ne) ∙ sym (slice_get-get_or os q None l)

inner : {X : Type 0} → Option (Option X) → Option X
inner None = None
inner (Some o) = o

inner_of : {X : Type 0} (o : Option X) → inner (option_map Some o) ≡ o
unfolding inner
inner_of None = refl
inner_of (Some x) = refl

within : {X : Type 0} (ys : List X) (i : ℕ) → i < length ys → (y : X) × (slice_get ys i ≡ Some y)
within [] i l = absurd (omega (arith, l))
within (y ∷ ys) zero l = (y, refl)
within (y ∷ ys) (suc i) l = within ys i (omega (arith, l))

none_some : {X : Type 0} {x : X} → Some None ≡ Some (Some x) → ⊥
none_some {X} {x} e = false≢true (subst (λ (o : Option X). IsSome o) (sym (some_same e)) refl)

-- The elements of a list with none left out.
pub taken : {X : Type 0} (os : List (Option X)) → ((p : ℕ) → p < length os → (x : X) × (slice_get os p ≡ Some (Some x)))
    → (length (filter_map (λ o. o) os) ≡ length os) × ((p : ℕ) → slice_get os p ≡ option_map Some (slice_get (filter_map (λ o. o) os) p))
taken [] full = (refl, λ p. refl)
taken (None ∷ os) full = absurd (none_some (full 0 (omega arith)).1)
taken {X} (Some x ∷ os) full =
    let rest = taken os (λ p l. full (suc p) (omega (arith, l))) in
    (ap suc rest.0, places rest.1)
  where
    places : ((p : ℕ) → slice_get os p ≡ option_map Some (slice_get (filter_map (λ o. o) os) p))
        → (p : ℕ) → slice_get (Some x ∷ os) p ≡ option_map Some (slice_get (x ∷ filter_map (λ o. o) os) p)
    places h zero = refl
    places h (suc p) = h p

module _ {S X : Type 0} (m : HashMap ℕ ℕ S) (xs : List X) (r : IsReordering m (length xs)) where
  column_inside : (i p : ℕ) → get nat_eq m i ≡ Some p → i < length xs
  column_inside i p e = (r.keys i).0 (some_is (get nat_eq m i) p e)

  place_inside : (i p : ℕ) → get nat_eq m i ≡ Some p → p < length xs
  place_inside i p e = (r.values p).0 (i, e)

  pub begun : (os : List (Option X)) → length os ≡ length xs → Placing m xs xs os
  begun os long = record {
    long = long;
    within = omega arith;
    same = λ k l. refl;
    at = λ k p l e. let inside = column_inside k p e in absurd (omega (arith, l, inside));
  }

  -- The last column that is left has an index.
  pub has_place : (left rest : List X) (x : X) (os : List (Option X)) → Placing m xs left os → left ≡ rest ++ x ∷ [] → IsSome (get nat_eq m (length rest))
  has_place left rest x os h e = let long = ap length e ∙ length_last rest x in (r.keys (length rest)).1 (omega (arith, long, h.within))

  pub has_room : (left : List X) (os : List (Option X)) (i p : ℕ) → Placing m xs left os → get nat_eq m i ≡ Some p → p < length os
  has_room left os i p h e = let inside = place_inside i p e in omega (arith, inside, h.long)

  pub one_placed : (left rest : List X) (x : X) (os : List (Option X)) (p : ℕ) → Placing m xs left os → left ≡ rest ++ x ∷ [] → get nat_eq m (length rest) ≡ Some p
      → Placing m xs rest (set os p (Some x))
  one_placed left rest x os p h e goes = record {
    long = length_set os p (Some x) ∙ h.long;
    within = omega (arith, long, h.within);
    same = λ k l. sym (at_front rest (x ∷ []) k l) ∙ ap (λ (ys : List X). slice_get ys k) (sym e) ∙ h.same k (omega (arith, l, long));
    at = at;
  }
    where
      long : length left ≡ suc (length rest)
      long = ap length e ∙ length_last rest x

      is : slice_get xs (length rest) ≡ Some x
      is = sym (h.same (length rest) (omega (arith, long))) ∙ ap (λ (ys : List X). slice_get ys (length rest)) e ∙ at_last rest x

      at : (k q : ℕ) → length rest ≤ k → get nat_eq m k ≡ Some q → slice_get (set os p (Some x)) q ≡ option_map Some (slice_get xs k)
      at k q l f = elim (cases_lt (length rest) k) [
        | inl behind ↦
            (let room = has_room left os k q h f in
            at_other os p q (Some x) room
            (λ same. let one : k ≡ length rest = r.once k (length rest) p (f ∙ ap Some same) goes in omega (arith, one, behind)) ∙ h.at k q (omega (arith, long, behind)) f)
        | inr here ↦
            (let is_k : k ≡ length rest = omega (arith, l, here) in
            let to : q ≡ p = some_same (sym f ∙ ap (get nat_eq m) is_k ∙ goes) in
            let room = has_room left os (length rest) p h goes in
            subst (λ (j : ℕ). slice_get (set os p (Some x)) q ≡ option_map Some (slice_get xs j)) (sym is_k)
            (ap (slice_get (set os p (Some x))) to ∙ at_same os p (Some x) room ∙ sym (ap (option_map Some) is)))
      ]

  module _ (left : List X) (os : List (Option X)) (none : length left ≡ 0) (h : Placing m xs left os) where
    at_all : (i p : ℕ) → get nat_eq m i ≡ Some p → slice_get os p ≡ option_map Some (slice_get xs i)
    at_all i p e = h.at i p (omega (arith, none)) e

    full : (p : ℕ) → p < length os → (x : X) × (slice_get os p ≡ Some (Some x))
    full p l =
        let long = h.long in
        let w = (r.values p).1 (omega (arith, l, long)) in
        let v = within xs w.0 (column_inside w.0 p w.1) in
        (v.0, at_all w.0 p w.1 ∙ ap (option_map Some) v.1)

    pub all_moved : AreReordered m xs (filter_map (λ o. o) os)
    all_moved =
        let whole = taken os full in
        record {
          count = whole.0 ∙ h.long;
          moved = λ i p e. sym (inner_of (slice_get (filter_map (λ o. o) os) p)) ∙ ap inner (sym (whole.1 p) ∙ at_all i p e) ∙ inner_of (slice_get xs i);
        }

  pub all_moved_to : (os : List (Option X)) (ys : List X) → Placing m xs [] os → ys ≡ filter_map (λ o. o) os → AreReordered m xs ys
  all_moved_to os ys h e = subst (λ (zs : List X). AreReordered m xs zs) (sym e) (all_moved [] os refl h)

  module _ (rows : X → ℕ) (ys : List X) (moved : AreReordered m xs ys) (equal : AreEqualRows rows xs) where
    all_rows : All (λ y. rows y ≡ row_count rows xs) ys
    all_rows k d l =
        let long = moved.count in
        let w = (r.values k).1 (omega (arith, l, long)) in
        let inside = column_inside w.0 k w.1 in
        let same : get_or ys k d ≡ get_or xs w.0 d = some_same (sym (slice_get-get_or ys k d l) ∙ moved.moved w.0 k w.1 ∙ slice_get-get_or xs w.0 d inside) in
        ap rows same ∙ equal w.0 d inside

    pub moved_rows : row_count rows ys ≡ row_count rows xs
    moved_rows = of ys moved.count all_rows
      where
        of : (zs : List X) → length zs ≡ length xs → All (λ y. rows y ≡ row_count rows xs) zs → row_count rows zs ≡ row_count rows xs
        of [] long all = none xs (sym long)
          where
            none : (us : List X) → length us ≡ 0 → 0 ≡ row_count rows us
            none [] e = refl
            none (u ∷ us) e = absurd (omega (arith, e))
        of (z ∷ zs) long all = all 0 z (omega arith)

    pub moved_equal : AreEqualRows rows ys
    moved_equal = subst (λ (n : ℕ). All (λ y. rows y ≡ n) ys) (sym moved_rows) all_rows
