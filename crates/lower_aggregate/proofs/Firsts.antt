-- The first of the values of slots, found slot by slot.
use Rattle.std.proofs.Common.{arith, refl, inl, inr, true≢false, ◌≡◌, ◌⊎◌, ℕ, ◌<◌, ◌≤◌, List, [], ◌∷◌, ◌++◌, Bool, true, false, length, get_or, fold, sym, ap, subst, append_assoc, ◌∙◌}
use Rattle.std.specs.Prelude.{Option, Some, None, MatchOption, if◌then◌else◌}
use Rattle.std.specs.Option.{option_copied}
use Rattle.std.specs.Borrow.{Bor}
use Rattle.std.specs.declared.cmp.Ordering.{Ordering}
use Rattle.std.specs.Ordering.{is_lt}
use Rattle.std.specs.declared.cmp.Ordering.TheVariants.{Less, Equal, Greater}
use Rattle.std.specs.Cmp.{IsTotalOrder, alike_right, tied_back, tied_itself}
use Rattle.std.proofs.lemmas.Bool.{cases_lt}
use Rattle.std.proofs.lemmas.List.{append-nil, length_push, get_or_push, get_or_append_left}
use Rattle.lower_aggregate.specs.Firsts.{turned, AreAllNull, IsFirst, first_of}

lt_is : (o : Ordering) → is_lt o ≡ true → o ≡ Less
lt_is Less e = refl
lt_is Equal e = let none : ⊥ = true≢false (sym e) in absurd none
lt_is Greater e = let none : ⊥ = true≢false (sym e) in absurd none

pub turned_total : {A : Type 0} (cmp : A → A → Ordering) → IsTotalOrder cmp → IsTotalOrder (turned cmp)
turned_total cmp o = record {
  antisymm = λ x y. o.antisymm y x;
  trans = λ x y z p q. o.trans z y x q p;
  congr = λ x y z e. alike_right o x y z (tied_back o y x e);
}

module _ {A : Type 0} (cmp : A → A → Ordering) (o : IsTotalOrder cmp) where
  abbrev SoFar : List (Option A) → Option A → Type 0
  SoFar done best = MatchOption best (AreAllNull done) (IsFirst cmp done)

  own : (x : A) → is_lt (cmp x x) ≡ false
  own x = ap is_lt (tied_itself o x)

  some_is : (x y : A) → Some x ≡ Some y → x ≡ y
  some_is x y e = ap (λ (s : Option A). value s x) e
    where
      value : Option A → A → A
      value None d = d
      value (Some z) d = z

  none_some : (x : A) → None ≡ Some x → ⊥
  none_some x e = cc

  -- slot i of the slots so far and one more
  module _ (done : List (Option A)) (slot : Option A) where
    at : (i : ℕ) (r : Option A) → i < length (done ++ slot ∷ []) → get_or (done ++ slot ∷ []) i None ≡ r → ((i < length done) × (get_or done i None ≡ r)) ⊎ (slot ≡ r)
    at i r below e = by (cases_lt i (length done))
      where
        by : (i < length done) ⊎ (length done ≤ i) → ((i < length done) × (get_or done i None ≡ r)) ⊎ (slot ≡ r)
        by (inl h) = inl (h, sym (get_or_append_left done (slot ∷ []) None i h) ∙ e)
        by (inr h) = let n = length_push done slot in inr (sym (get_or_push done slot None i (omega (arith, h, below, n))) ∙ e)

    kept : (b : A) → IsFirst cmp done b → ((y : A) → slot ≡ Some y → is_lt (cmp y b) ≡ false) → IsFirst cmp (done ++ slot ∷ []) b
    kept b is new = record {
      index = is.index;
      inside = let n = length_push done slot in let inside = is.inside in omega (arith, n, inside);
      there = get_or_append_left done (slot ∷ []) None is.index is.inside ∙ is.there;
      first = λ i y below e. by i y (at i (Some y) below e);
    }
      where
        by : (i : ℕ) (y : A) → ((i < length done) × (get_or done i None ≡ Some y)) ⊎ (slot ≡ Some y) → is_lt (cmp y b) ≡ false
        by i y (inl h) = is.first i y h.0 h.1
        by i y (inr h) = new y h

  taken : (done : List (Option A)) (x : A) → ((i : ℕ) (y : A) → i < length done → get_or done i None ≡ Some y → is_lt (cmp y x) ≡ false) → IsFirst cmp (done ++ Some x ∷ []) x
  taken done x old = record {
    index = length done;
    inside = let n = length_push done (Some x) in omega (arith, n);
    there = get_or_push done (Some x) None (length done) refl;
    first = λ i y below e. by i y (at done (Some x) i (Some y) below e);
  }
    where
      by : (i : ℕ) (y : A) → ((i < length done) × (get_or done i None ≡ Some y)) ⊎ (Some x ≡ Some y) → is_lt (cmp y x) ≡ false
      by i y (inl h) = old i y h.0 h.1
      by i y (inr h) = ap (λ (z : A). is_lt (cmp z x)) (sym (some_is x y h)) ∙ own x

  -- a value before the first is before all
  before : (b x y : A) → is_lt (cmp x b) ≡ true → is_lt (cmp y b) ≡ false → is_lt (cmp y x) ≡ false
  before b x y less not_less = by (is_lt (cmp y x)) refl
    where
      by : (t : Bool) → is_lt (cmp y x) ≡ t → is_lt (cmp y x) ≡ false
      by false e = e
      by true e =
          let less_b : is_lt (cmp y b) ≡ true = ap is_lt (o.trans y x b (lt_is (cmp y x) e) (lt_is (cmp x b) less)) in
          absurd (true≢false (sym less_b ∙ not_less))

  step : (done : List (Option A)) (best slot : Option A) → SoFar done best → SoFar (done ++ slot ∷ []) (first_of cmp best slot)
  step done None None all = λ i below. by i below (cases_lt i (length done))
    where
      by : (i : ℕ) → i < length (done ++ None ∷ []) → (i < length done) ⊎ (length done ≤ i) → get_or (done ++ None ∷ []) i None ≡ None
      by i below (inl h) = get_or_append_left done (None ∷ []) None i h ∙ all i h
      by i below (inr h) = let n = length_push done None in get_or_push done None None i (omega (arith, h, below, n))
  step done (Some b) None is = kept done None b is (λ y e. absurd (none_some y e))
  step done None (Some x) all = taken done x (λ i y below e. absurd (none_some y (sym (all i below) ∙ e)))
  step done (Some b) (Some x) is = by (is_lt (cmp x b)) refl
    where
      by : (t : Bool) → is_lt (cmp x b) ≡ t → SoFar (done ++ Some x ∷ []) (if is_lt (cmp x b) then Some x else Some b)
      by true e = rw e (taken done x (λ i y below h. before b x y e (is.first i y below h)))
      by false e = rw e (kept done (Some x) b is (λ y h. ap (λ (z : A). is_lt (cmp z b)) (sym (some_is x y h)) ∙ e))

  along : (done rest : List (Option A)) (best : Option A) → SoFar done best → SoFar (done ++ rest) (fold (first_of cmp) best rest)
  along done [] best so = subst (λ (slots : List (Option A)). SoFar slots best) (sym (append-nil done)) so
  along done (s ∷ rest) best so =
      subst (λ (slots : List (Option A)). SoFar slots (fold (first_of cmp) (first_of cmp best s) rest)) (append_assoc done (s ∷ []) rest)
      (along (done ++ s ∷ []) rest (first_of cmp best s) (step done best s so))

  pub fold_first : (slots : List (Option A)) (best : Option A) → best ≡ fold (first_of cmp) None slots → MatchOption best (AreAllNull slots) (IsFirst cmp slots)
  fold_first slots best is =
      subst (λ (r : Option A). SoFar slots r) (sym is) (along [] slots None (λ i below. let none : ⊥ = omega (arith, below) in absurd none))

-- the same behind references
module _ {A : Type 0} (cmp : A → A → Ordering) where
  pub copied_least : (best slot r : Option (Bor A)) → r ≡ first_of (λ (x y : Bor A). cmp x.now y.now) best slot → option_copied r ≡ first_of cmp (option_copied best) (option_copied slot)
  copied_least best slot r is = ap option_copied is ∙ by best slot
    where
      chosen : (t : Bool) (x b : Bor A) → option_copied (if t then Some x else Some b) ≡ (if t then Some x.now else Some b.now)
      chosen true x b = refl
      chosen false x b = refl

      by : (b s : Option (Bor A)) → option_copied (first_of (λ (x y : Bor A). cmp x.now y.now) b s) ≡ first_of cmp (option_copied b) (option_copied s)
      by None None = refl
      by (Some b) None = refl
      by None (Some x) = refl
      by (Some b) (Some x) = chosen (is_lt (cmp x.now b.now)) x b

pub copied_greatest : {A : Type 0} (cmp : A → A → Ordering) (best slot r : Option (Bor A)) → r ≡ first_of (turned (λ (x y : Bor A). cmp x.now y.now)) best slot
    → option_copied r ≡ first_of (turned cmp) (option_copied best) (option_copied slot)
copied_greatest cmp best slot r is = copied_least (turned cmp) best slot r is

pub copied_told : {A : Type 0} (slots : List (Option A)) (cmp : A → A → Ordering) (r : Option (Bor A))
    → MatchOption (option_copied r) (AreAllNull slots) (IsFirst cmp slots) → MatchOption r (AreAllNull slots) (λ m. IsFirst cmp slots m.now)
copied_told slots cmp None told = told
copied_told slots cmp (Some m) told = told
