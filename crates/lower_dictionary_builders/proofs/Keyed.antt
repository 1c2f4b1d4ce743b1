-- One more slot, with a key of a value.
use Rattle.std.proofs.Common.{arith, refl, inl, inr, ◌≡◌, ◌⊎◌, ℕ, zero, suc, ℤ, pos, negsuc, ◌+◌, ◌<◌, ◌≤◌, List, [], ◌∷◌, ◌++◌, Bool, true, false, length, map, get_or, sym, ap, ap₂, subst, ◌∙◌}
use Rattle.std.specs.Prelude.{Option, Some, None, slice_get, option_map, if◌then◌else◌}
use Rattle.std.specs.Bool.{Decides}
use Rattle.std.specs.List.{list_any}
use Rattle.std.proofs.lemmas.Bool.{cases_lt}
use Rattle.std.proofs.lemmas.List.{length-map, length_push, map_push, get_or_push, get_or_append_left}
use Rattle.std.proofs.lemmas.List.Sums.{fold_push}
use Rattle.std.proofs.lemmas.List.Folds.{list_any_at}
use Rattle.std.proofs.lemmas.Option.{slice_get_within, get_or_from_slice_get, slice_get-get_or}
use Rattle.lower_dictionary_builders.specs.Keyed.{with_value, values_among, value_of, Selects, AreKeyed}

-- the same keys and one more, which selects a value too
each_push : (n m : ℕ) (keys : List (Option ℤ)) (key : Option ℤ) → ((i : ℕ) → i < length keys → Selects n (get_or keys i None))
    → ((k : Option ℤ) → Selects n k → Selects m k) → Selects m key → (i : ℕ) → i < length (keys ++ key ∷ []) → Selects m (get_or (keys ++ key ∷ []) i None)
each_push n m keys key each more last i below = by (cases_lt i (length keys))
  where
    by : (i < length keys) ⊎ (length keys ≤ i) → Selects m (get_or (keys ++ key ∷ []) i None)
    by (inl h) = subst (Selects m) (sym (get_or_append_left keys (key ∷ []) None i h)) (more (get_or keys i None) (each i h))
    by (inr h) = let count = length_push keys key in subst (Selects m) (sym (get_or_push keys key None i (omega (arith, h, below, count)))) last

-- the number of slots
pub length-slots : {A : Type 0} (all : List A) (keys : List (Option ℤ)) → length (map (value_of all) keys) ≡ length keys
length-slots all keys = length-map keys (value_of all)

module _ {A : Type 0} (same : A → A → Bool) where
  pub AreKeyed-none : AreKeyed same [] []
  AreKeyed-none = record {
    each = λ i below. let no : ⊥ = omega (arith, below) in absurd no;
    values = refl;
  }

  pub values_among-push : (slots : List (Option A)) (slot : Option A) → values_among same (slots ++ slot ∷ []) ≡ with_value same (values_among same slots) slot
  values_among-push slots slot = fold_push (with_value same) [] slots slot

  -- a value that some value equals, and one that none equals
  seen_one : (seen : List A) (t : A) → list_any (same t) seen ≡ true → with_value same seen (Some t) ≡ seen
  seen_one seen t h = ap (λ b. if b then seen else seen ++ t ∷ []) h

  seen_new : (seen : List A) (t : A) → list_any (same t) seen ≡ false → with_value same seen (Some t) ≡ seen ++ t ∷ []
  seen_new seen t h = ap (λ b. if b then seen else seen ++ t ∷ []) h

  -- a null
  pub keyed_null : (all : List A) (keys : List (Option ℤ)) → AreKeyed same all keys
      → AreKeyed same all (keys ++ None ∷ []) × (map (value_of all) (keys ++ None ∷ []) ≡ map (value_of all) keys ++ None ∷ [])
  keyed_null all keys are =
      let e = map_push (value_of all) keys None in (
        record {
          each = each_push (length all) (length all) keys None are.each (λ k s. s) tt;
          values = ap (values_among same) e ∙ values_among-push (map (value_of all) keys) None ∙ are.values;
        },
        e,
      )

  -- what a key selects, it selects of more values too
  grown : (all : List A) (t : A) (k : Option ℤ) → Selects (length all) k → value_of (all ++ t ∷ []) k ≡ value_of all k
  grown all t None s = refl
  grown all t (Some (pos i)) s =
      let count = length_push all t in
      slice_get-get_or (all ++ t ∷ []) i t (omega (arith, s, count))
      ∙ ap Some (get_or_append_left all (t ∷ []) t i s)
      ∙ sym (slice_get-get_or all i t s)
  grown all t (Some (negsuc i)) s = absurd s

  same_values : (all : List A) (t : A) (ks : List (Option ℤ)) → ((i : ℕ) → i < length ks → Selects (length all) (get_or ks i None)) → map (value_of (all ++ t ∷ [])) ks ≡ map (value_of all) ks
  same_values all t [] h = refl
  same_values all t (k ∷ ks) h =
      ap₂ (λ y ys. y ∷ ys) (grown all t k (h zero (omega arith))) (same_values all t ks (λ i below. h (suc i) (omega (arith, below))))

  more_fit : (all : List A) (t : A) (k : Option ℤ) → Selects (length all) k → Selects (length (all ++ t ∷ [])) k
  more_fit all t None s = tt
  more_fit all t (Some (pos i)) s = let count = length_push all t in omega (arith, s, count)
  more_fit all t (Some (negsuc i)) s = s

  -- a value that the dictionary hasn't
  pub keyed_new : (all : List A) (keys : List (Option ℤ)) → AreKeyed same all keys → (t : A) → list_any (same t) all ≡ false
      → AreKeyed same (all ++ t ∷ []) (keys ++ Some (pos (length all)) ∷ [])
      × (map (value_of (all ++ t ∷ [])) (keys ++ Some (pos (length all)) ∷ []) ≡ map (value_of all) keys ++ Some t ∷ [])
  keyed_new all keys are t absent =
      let n = length all in
      let count : length (all ++ t ∷ []) ≡ n + 1 = length_push all t in
      let inside : n < length (all ++ t ∷ []) = omega (arith, count) in
      let last : slice_get (all ++ t ∷ []) n ≡ Some t = slice_get-get_or (all ++ t ∷ []) n t inside ∙ ap Some (get_or_push all t t n refl) in
      let e : map (value_of (all ++ t ∷ [])) (keys ++ Some (pos n) ∷ []) ≡ map (value_of all) keys ++ Some t ∷ [] =
      map_push (value_of (all ++ t ∷ [])) keys (Some (pos n)) ∙ ap₂ (λ ys y. ys ++ y ∷ []) (same_values all t keys are.each) last in (
        record {
          each = each_push n (length (all ++ t ∷ [])) keys (Some (pos n)) are.each (more_fit all t) inside;
          values = ap (values_among same) e
              ∙ values_among-push (map (value_of all) keys) (Some t)
              ∙ ap (λ seen. with_value same seen (Some t)) are.values
              ∙ seen_new all t absent;
        },
        e,
      )

  -- a null has no value
  pub miss_none : (slots : List (Option A)) → values_among same (slots ++ None ∷ []) ≡ values_among same slots
  miss_none slots = values_among-push slots None

  module _ (decides : (x y : A) → Decides (same x y) (x ≡ y)) where
    -- the value at an index is one of the values
    among_at : (all : List A) (i : ℕ) (t : A) → slice_get all i ≡ Some t → list_any (same t) all ≡ true
    among_at all i t at =
        let below = slice_get_within all i t at in
        list_any_at (same t) all i t below ((decides t (get_or all i t)).1 (sym (get_or_from_slice_get all i t t at)))

    -- a value that the dictionary has
    pub keyed_index : (all : List A) (keys : List (Option ℤ)) → AreKeyed same all keys → (i : ℕ) (t : A) → slice_get all i ≡ Some t
        → AreKeyed same all (keys ++ Some (pos i) ∷ []) × (map (value_of all) (keys ++ Some (pos i) ∷ []) ≡ map (value_of all) keys ++ Some t ∷ [])
    keyed_index all keys are i t at =
        let e : map (value_of all) (keys ++ Some (pos i) ∷ []) ≡ map (value_of all) keys ++ Some t ∷ [] =
        map_push (value_of all) keys (Some (pos i)) ∙ ap (λ o. map (value_of all) keys ++ o ∷ []) at in (
          record {
            each = each_push (length all) (length all) keys (Some (pos i)) are.each (λ k s. s) (slice_get_within all i t at);
            values = ap (values_among same) e
                ∙ values_among-push (map (value_of all) keys) (Some t)
                ∙ ap (λ seen. with_value same seen (Some t)) are.values
                ∙ seen_one all t (among_at all i t at);
          },
          e,
        )

    -- where a value that the dictionary has gets no key, the values are too many
    pub miss_index : (slots : List (Option A)) (i : ℕ) (t : A) (count : ℕ) → slice_get (values_among same slots) i ≡ Some t → count ≤ i
        → count < length (values_among same (slots ++ Some t ∷ []))
    miss_index slots i t count at le =
        let seen = values_among same slots in
        let below : i < length seen = slice_get_within seen i t at in
        let is : values_among same (slots ++ Some t ∷ []) ≡ seen = values_among-push slots (Some t) ∙ seen_one seen t (among_at seen i t at) in
        let n : length (values_among same (slots ++ Some t ∷ [])) ≡ length seen = ap length is in
        omega (arith, below, le, n)

  pub miss_new : (slots : List (Option A)) (t : A) (count n : ℕ) → list_any (same t) (values_among same slots) ≡ false → n ≡ length (values_among same slots) → count ≤ n
      → count < length (values_among same (slots ++ Some t ∷ []))
  miss_new slots t count n absent is le =
      let seen = values_among same slots in
      let e : values_among same (slots ++ Some t ∷ []) ≡ seen ++ t ∷ [] = values_among-push slots (Some t) ∙ seen_new seen t absent in
      let m : length (values_among same (slots ++ Some t ∷ [])) ≡ length seen + 1 = ap length e ∙ length_push seen t in
      omega (arith, is, le, m)

-- as a builder stores keys
module _ {A K : Type 0} (same : A → A → Bool) (integer : K → ℤ) (all : List A) (keys keys' : List (Option K)) (are : AreKeyed same all (map (option_map integer) keys)) where
  pub grow_null : keys' ≡ keys ++ None ∷ []
      → AreKeyed same all (map (option_map integer) keys') × (map (value_of all) (map (option_map integer) keys') ≡ map (value_of all) (map (option_map integer) keys) ++ None ∷ [])
  grow_null is =
      let e : map (option_map integer) keys' ≡ map (option_map integer) keys ++ None ∷ [] = ap (map (option_map integer)) is ∙ map_push (option_map integer) keys None in
      rw e (keyed_null same all (map (option_map integer) keys) are)

  pub grow_index : ((x y : A) → Decides (same x y) (x ≡ y)) → (key : K) (i : ℕ) (t : A) → keys' ≡ keys ++ Some key ∷ [] → integer key ≡ pos i → slice_get all i ≡ Some t
      → AreKeyed same all (map (option_map integer) keys') × (map (value_of all) (map (option_map integer) keys') ≡ map (value_of all) (map (option_map integer) keys) ++ Some t ∷ [])
  grow_index decides key i t is at has =
      let e : map (option_map integer) keys' ≡ map (option_map integer) keys ++ Some (pos i) ∷ [] =
      ap (map (option_map integer)) is ∙ map_push (option_map integer) keys (Some key) ∙ ap (λ z. map (option_map integer) keys ++ Some z ∷ []) at in
      rw e (keyed_index same decides all (map (option_map integer) keys) are i t has)

  pub grow_new : (key : K) (n : ℕ) (t : A) (all' : List A) → keys' ≡ keys ++ Some key ∷ [] → integer key ≡ pos n → n ≡ length all → all' ≡ all ++ t ∷ [] → list_any (same t) all ≡ false
      → AreKeyed same all' (map (option_map integer) keys') × (map (value_of all') (map (option_map integer) keys') ≡ map (value_of all) (map (option_map integer) keys) ++ Some t ∷ [])
  grow_new key n t all' is at count more absent =
      let e : map (option_map integer) keys' ≡ map (option_map integer) keys ++ Some (pos (length all)) ∷ [] =
      ap (map (option_map integer)) is ∙ map_push (option_map integer) keys (Some key) ∙ ap (λ z. map (option_map integer) keys ++ Some z ∷ []) (at ∙ ap pos count) in
      rw (more, e) (keyed_new same all (map (option_map integer) keys) are t absent)

pub ruleset keyed_slots = (AreKeyed-none, length-slots)
