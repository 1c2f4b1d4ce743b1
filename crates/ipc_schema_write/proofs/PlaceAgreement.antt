-- Dictionary fields that are compared with the first of their id.
use Rattle.std.proofs.Common.{◌≡◌, ℕ, ℤ, zero, suc, ◌+◌, ◌<◌, ◌≤◌, ◌⊎◌, inl, inr, ⊎_elim, List, [], ◌∷◌, length, map, get_or, Bool, true, false, cond, Option, Some, None, refl, ap, sym, subst, ◌∙◌, arith}
use Rattle.std.specs.Prelude.{AllPairs}
use Rattle.std.specs.Ordering.{int_eq}
use Rattle.std.proofs.lemmas.Bool.Decides.{Decides-int_eq}
use Rattle.lower.specs.Normal.{norm}
use Rattle.ipc_model.specs.Batches.{Place}
use Rattle.ipc_model.specs.Writable.{SameUnderId}
use Rattle.ipc_schema_write.specs.Places.{HaveOneValueType, place_view, places_view}
use Rattle.ipc_schema_write.specs.declared.dictionaries.DictionaryPlace.{DictionaryPlace}

get-any : {A : Type 0} (xs : List A) (k : ℕ) (d e : A) → k < length xs → get_or xs k d ≡ get_or xs k e
get-any [] k d e h = absurd (omega (arith, h))
get-any (x ∷ xs) zero d e h = refl
get-any (x ∷ xs) (suc k) d e h = get-any xs k d e (omega (arith, h))

some-same : (A : Type 0) (a b : A) → Some a ≡ Some b → a ≡ b
some-same A a b e = cc

-- The index of the first dictionary field of each id, among so many.
pub record AreFirst (ps : List Place) (firsts : ℤ → Option ℕ) (k : ℕ) : Type 0 where
  pub stand : (q : ℤ) (i : ℕ) (d : Place) → firsts q ≡ Some i → (i < k) × ((get_or ps i d).id ≡ Some q)
  pub met : (j : ℕ) (d : Place) → j < k → (q : ℤ) × (i : ℕ) × ((get_or ps j d).id ≡ Some q) × (firsts q ≡ Some i) × HaveOneValueType (get_or ps i d) (get_or ps j d)

pub none-first : (ps : List Place) (firsts : ℤ → Option ℕ) → ((q : ℤ) → firsts q ≡ None) → AreFirst ps firsts 0
none-first ps firsts none = record {
  stand = λ q i d e. absurd (let n = none q in cc);
  met = λ j d h. absurd (omega (arith, h));
}

-- all were compared
pub all-agree : (ps : List Place) (firsts : ℤ → Option ℕ) (k : ℕ) → length ps ≤ k → AreFirst ps firsts k → AllPairs SameUnderId ps
all-agree ps firsts k past first = λ i j d before inside.
    let (q, a, q_is, a_is, a_like) = first.met i d (omega (arith, before, inside, past)) in
    let (r, b, r_is, b_is, b_like) = first.met j d (omega (arith, inside, past)) in
    let one : (get_or ps i d).id ≡ (get_or ps j d).id → a ≡ b = λ e.
    let same : q ≡ r = some-same ℤ q r (sym q_is ∙ e ∙ r_is) in
    some-same ℕ a b (sym a_is ∙ ap firsts same ∙ b_is) in
    record {
      type = λ e. sym a_like.0 ∙ ap (λ n. norm (get_or ps n d).type) (one e) ∙ b_like.0;
      nested = λ e. sym a_like.1 ∙ ap (λ n. (get_or ps n d).ids) (one e) ∙ b_like.1;
    }

-- one isn't like the first of its id
pub one-differs : (ps : List Place) (firsts : ℤ → Option ℕ) (k i : ℕ) (q : ℤ) (d : Place) → AreFirst ps firsts k → k < length ps → (get_or ps k d).id ≡ Some q
    → firsts q ≡ Some i → (HaveOneValueType (get_or ps i d) (get_or ps k d) → ⊥) → AllPairs SameUnderId ps → ⊥
one-differs ps firsts k i q d first inside id there differ all =
    let (before, same) = first.stand q i d there in
    let pair = all i k d before inside in
    differ (pair.type (same ∙ sym id), pair.nested (same ∙ sym id))

-- What is known of one dictionary field that was visited.
abbrev pub IsMet : List Place → (ℤ → Option ℕ) → ℕ → Place → Type 0
IsMet ps firsts j d = (q : ℤ) × (i : ℕ) × ((get_or ps j d).id ≡ Some q) × (firsts q ≡ Some i) × HaveOneValueType (get_or ps i d) (get_or ps j d)

split-last : (j k : ℕ) → j < k + 1 → (j < k) ⊎ (j ≡ k)
split-last zero zero h = inr refl
split-last zero (suc k) h = inl (omega arith)
split-last (suc j) zero h = absurd (omega (arith, h))
split-last (suc j) (suc k) h = ⊎_elim (λ b. inl (omega (arith, b))) (λ e. inr (ap suc e)) (split-last j k (omega (arith, h)))

met-next : (ps : List Place) (firsts : ℤ → Option ℕ) (k j : ℕ) (d : Place) → j < k + 1 → (j < k → IsMet ps firsts j d) → IsMet ps firsts k d → IsMet ps firsts j d
met-next ps firsts k j d h before here = at (split-last j k h)
  where
    at : (j < k) ⊎ (j ≡ k) → IsMet ps firsts j d
    at (inl b) = before b
    at (inr e) = subst (λ n. IsMet ps firsts n d) (sym e) here

-- One is like the first of its id.
pub one-like : (ps : List Place) (firsts : ℤ → Option ℕ) (k i : ℕ) (q : ℤ) (c : Place) → AreFirst ps firsts k → k < length ps → (get_or ps k c).id ≡ Some q
    → firsts q ≡ Some i → HaveOneValueType (get_or ps i c) (get_or ps k c) → AreFirst ps firsts (k + 1)
one-like ps firsts k i q c first inside id there like = record {
  stand = λ r a e h. (let (before, same) = first.stand r a e h in (omega (arith, before), same));
  met = λ j d h. met-next ps firsts k j d h (λ b. first.met j d b)
      (let (before, same) = first.stand q i c there in
      let here = get-any ps k c d inside in
      let there_is = get-any ps i c d (omega (arith, before, inside)) in
      (q, i, subst (λ (p : Place). p.id ≡ Some q) here id, there, subst (λ (p : Place). HaveOneValueType p (get_or ps k d)) there_is (subst (λ (p : Place). HaveOneValueType (get_or ps i c) p) here like)));
}

-- one is the first of its id
pub one-first : (ps : List Place) (firsts after : ℤ → Option ℕ) (k : ℕ) (q : ℤ) (c : Place) → AreFirst ps firsts k → k < length ps → (get_or ps k c).id ≡ Some q
    → firsts q ≡ None → ((r : ℤ) → after r ≡ cond (int_eq q r) (Some k) (firsts r)) → AreFirst ps after (k + 1)
one-first ps firsts after k q c first inside id none put = record {
  stand = λ r a d h. stands r a d (int_eq q r) refl (sym (put r) ∙ h);
  met = λ j d h. met-next ps after k j d h
      (λ b. let (r, a, r_is, a_is, like) = first.met j d b in (r, a, r_is, kept r a a_is, like))
      (q, k, subst (λ (p : Place). p.id ≡ Some q) (get-any ps k c d inside) id, put q ∙ ap (λ b. cond b (Some k) (firsts q)) ((Decides-int_eq q q).1 refl), (refl, refl));
}
  where
    stands : (r : ℤ) (a : ℕ) (d : Place) (b : Bool) → int_eq q r ≡ b → cond b (Some k) (firsts r) ≡ Some a → (a < k + 1) × ((get_or ps a d).id ≡ Some r)
    stands r a d true e h =
        let a_is : k ≡ a = some-same ℕ k a h in
        let r_is : q ≡ r = (Decides-int_eq q r).0 e in
        (omega (arith, a_is), subst (λ n. (get_or ps n d).id ≡ Some r) a_is (subst (λ (p : Place). p.id ≡ Some r) (get-any ps k c d inside) (id ∙ ap Some r_is)))
    stands r a d false e h = let (before, same) = first.stand r a d h in (omega (arith, before), same)

    apart : (r : ℤ) (a : ℕ) (b : Bool) → int_eq q r ≡ b → firsts r ≡ Some a → cond b (Some k) (firsts r) ≡ Some a
    apart r a true e h = absurd (let r_is : q ≡ r = (Decides-int_eq q r).0 e in let no : firsts r ≡ None = ap firsts (sym r_is) ∙ none in cc)
    apart r a false e h = h

    kept : (r : ℤ) (a : ℕ) → firsts r ≡ Some a → after r ≡ Some a
    kept r a h = put r ∙ apart r a (int_eq q r) refl h

get-map : {A B : Type 0} (f : A → B) (xs : List A) (k : ℕ) (d : A) → get_or (map f xs) k (f d) ≡ f (get_or xs k d)
get-map f [] k d = refl
get-map f (x ∷ xs) zero d = refl
get-map f (x ∷ xs) (suc k) d = get-map f xs k d

pub length-map : {A B : Type 0} (f : A → B) (xs : List A) → length (map f xs) ≡ length xs
length-map f [] = refl
length-map f (x ∷ xs) = omega (arith, length-map f xs)

-- ---- of the dictionary fields of a writer

pub seen-all : (ps : List DictionaryPlace) (firsts : ℤ → Option ℕ) (k : ℕ) → length ps ≤ k → AreFirst (places_view ps) firsts k → AllPairs SameUnderId (places_view ps)
seen-all ps firsts k past first = all-agree (places_view ps) firsts k (omega (arith, past, length-map place_view ps)) first

module _ (ps : List DictionaryPlace) (firsts : ℤ → Option ℕ) (k : ℕ) (p : DictionaryPlace) (inside : k < length ps) (p_is : p ≡ get_or ps k p) (first : AreFirst (places_view ps) firsts k) where
  in-view : k < length (places_view ps)
  in-view = omega (arith, inside, length-map place_view ps)

  here : get_or (places_view ps) k (place_view p) ≡ place_view p
  here = get-map place_view ps k p ∙ ap place_view (sym p_is)

  its-id : (get_or (places_view ps) k (place_view p)).id ≡ Some p.id
  its-id = ap (λ (q : Place). q.id) here

  -- it is the first of its id
  pub first-seen : (after : ℤ → Option ℕ) → firsts p.id ≡ None → ((r : ℤ) → after r ≡ cond (int_eq p.id r) (Some k) (firsts r)) → AreFirst (places_view ps) after (k + 1)
  first-seen after none put = one-first (places_view ps) firsts after k p.id (place_view p) first in-view its-id none put

  module _ (i : ℕ) (there : firsts p.id ≡ Some i) where
    pub first-inside : i < length ps
    first-inside = let (before, same) = first.stand p.id i (place_view p) there in omega (arith, before, inside)

    module _ (f : DictionaryPlace) (f_is : f ≡ get_or ps i f) where
      first-is : get_or (places_view ps) i (place_view p) ≡ place_view f
      first-is = get-any (places_view ps) i (place_view p) (place_view f) (omega (arith, first-inside, length-map place_view ps)) ∙ get-map place_view ps i f ∙ ap place_view (sym f_is)

      -- It isn't like the first of its id.
      pub differs-seen : (HaveOneValueType (place_view f) (place_view p) → ⊥) → AllPairs SameUnderId (places_view ps) → ⊥
      differs-seen differ = one-differs (places_view ps) firsts k i p.id (place_view p) first in-view its-id there (λ (like : HaveOneValueType (get_or (places_view ps) i (place_view p)) (get_or (places_view ps) k (place_view p))). differ (subst (λ (q : Place). HaveOneValueType (place_view f) q) here (subst (λ (q : Place). HaveOneValueType q (get_or (places_view ps) k (place_view p))) first-is like)))

      -- It is like the first of its id.
      pub like-seen : HaveOneValueType (place_view f) (place_view p) → AreFirst (places_view ps) firsts (k + 1)
      like-seen like = one-like (places_view ps) firsts k i p.id (place_view p) first in-view its-id there (subst (λ (q : Place). HaveOneValueType q (get_or (places_view ps) k (place_view p))) (sym first-is) (subst (λ (q : Place). HaveOneValueType (place_view f) q) (sym here) like))
