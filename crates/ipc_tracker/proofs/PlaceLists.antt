-- The dictionaries of a chunk, one field after another.
use Rattle.std.proofs.Common.{◌≡◌, ◌⊎◌, ◌≤◌, ℤ, cond, Bool, true, false, List, [], ◌∷◌, ◌++◌, length, Option, Some, None, IsTrue, Ok, refl, sym, ap, ◌∙◌, subst, append_assoc, append-nil, inl, inr, arith}
use Rattle.std.specs.List.{AllByRecursion}
use Rattle.std.specs.Option.{option_or}
use Rattle.std.specs.Ordering.{int_eq}
use Rattle.std.proofs.lemmas.Bool.{cases_Bool}
use Rattle.std.proofs.lemmas.Bool.Decides.{Decides-int_eq}
use Rattle.std.proofs.lemmas.Option.{none-some}
use Rattle.ipc_model.specs.Entries.{Dictionary}
use Rattle.ipc_model.specs.Offers.{FilledPlace}
use Rattle.ipc_tracker.specs.Trackers.{Remembered, remembering, dictionary_of, IsSameMemory, Asks}
use Rattle.ipc_tracker.specs.Places.{Finds}
use Rattle.ipc_tracker.specs.Listings.{Seen, ListsUnwritten, remembering_all, ahead, Fits, IsFree, Added, Goes, Meets}

-- ---- lists

pub all_both : {X : Type 0} (P : X → Type 0) (xs ys : List X) → AllByRecursion P xs → AllByRecursion P ys → AllByRecursion P (xs ++ ys)
all_both P [] ys f g = g
all_both P (x ∷ xs) ys f g = (f.0, all_both P xs ys f.1 g)

pub all_front : {X : Type 0} (P : X → Type 0) (xs ys : List X) → AllByRecursion P (xs ++ ys) → AllByRecursion P xs
all_front P [] ys f = tt
all_front P (x ∷ xs) ys f = (f.0, all_front P xs ys f.1)

pub all_behind : {X : Type 0} (P : X → Type 0) (xs ys : List X) → AllByRecursion P (xs ++ ys) → AllByRecursion P ys
all_behind P [] ys f = f
all_behind P (x ∷ xs) ys f = all_behind P xs ys f.1

-- ---- what is remembered

abbrev value_or : Dictionary → Option Dictionary → Dictionary
value_or d None = d
value_or d (Some e) = e

pub one_value : (d e : Dictionary) → Some d ≡ Some e → d ≡ e
one_value d e h = ap (value_or d) h

pub memory_is : (m n : Remembered) → IsSameMemory m n → n ≡ m
memory_is m n same = λ j id. same id j

remembered_here : (id : ℤ) (d : Dictionary) (m : Remembered) → remembering id d m id ≡ Some d
remembered_here id d m = ap (λ (b : Bool). cond b (Some d) (m id)) ((Decides-int_eq id id).1 refl)

remembered_there : (id i : ℤ) (d : Dictionary) (m : Remembered) → int_eq id i ≡ false → remembering id d m i ≡ m i
remembered_there id i d m e = ap (λ (b : Bool). cond b (Some d) (m i)) e

remembered_as : (id i : ℤ) (d : Dictionary) (m : Remembered) → int_eq id i ≡ true → remembering id d m i ≡ Some d
remembered_as id i d m e = ap (λ (b : Bool). cond b (Some d) (m i)) e

-- what is remembered once more stays
remembered_still : (id : ℤ) (d : Dictionary) (m : Remembered) → m id ≡ Some d → IsSameMemory m (remembering id d m)
remembered_still id d m e i =
    elim (cases_Bool (int_eq id i)) [
      | inl same ↦ remembered_as id i d m same ∙ sym e ∙ ap m ((Decides-int_eq id i).0 same)
      | inr other ↦ remembered_there id i d m other
    ]

-- the chunk's own values come first
ahead_of : (b : Bool) (d : Dictionary) (x y : Option Dictionary) → cond b (Some d) (option_or x y) ≡ option_or (cond b (Some d) x) y
ahead_of true d x y = refl
ahead_of false d x y = refl

pub ahead_met : (m : Remembered) (a : Seen) (id : ℤ) (d : Dictionary) → a.met id ≡ Some d → ahead m a id ≡ Some d
ahead_met m a id d e = ap (λ (o : Option Dictionary). option_or o (m id)) e

pub ahead_unmet : (m : Remembered) (a : Seen) (id : ℤ) → a.met id ≡ None → ahead m a id ≡ m id
ahead_unmet m a id e = ap (λ (o : Option Dictionary). option_or o (m id)) e

-- ---- the values to write

pub remembering_both : (ws vs : List FilledPlace) (m : Remembered) → remembering_all (ws ++ vs) m ≡ remembering_all vs (remembering_all ws m)
remembering_both [] vs m = refl
remembering_both (w ∷ ws) vs m = remembering_both ws vs (remembering w.id (dictionary_of w.values) m)

lists_then : (m : Remembered) (ps qs ws vs : List FilledPlace) → ListsUnwritten m ps ws → ListsUnwritten (remembering_all ws m) qs vs → ListsUnwritten m (ps ++ qs) (ws ++ vs)
lists_then m [] qs ws vs s t =
    subst (λ (xs : List FilledPlace). ListsUnwritten m qs (xs ++ vs)) (sym s) (subst (λ (xs : List FilledPlace). ListsUnwritten (remembering_all xs m) qs vs) s t)
lists_then m (p ∷ ps) qs ws vs (inl s) t = inl (s.0, lists_then m ps qs ws vs s.1 t)
lists_then m (p ∷ ps) qs ws vs (inr s) t =
    inr (
      s.0,
      s.1 ++ vs,
      ap (λ (xs : List FilledPlace). xs ++ vs) s.2,
      lists_then (remembering p.id (dictionary_of p.values) m) ps qs s.1 vs s.3 (subst (λ (xs : List FilledPlace). ListsUnwritten (remembering_all xs m) qs vs) s.2 t),
    )

-- No more values are listed than there are dictionary fields.
pub lists_short : (m : Remembered) (ps ws : List FilledPlace) → ListsUnwritten m ps ws → length ws ≤ length ps
lists_short m [] ws s = let e = ap (λ (xs : List FilledPlace). length xs) s in omega (arith, e)
lists_short m (p ∷ ps) ws (inl s) = let n = lists_short m ps ws s.1 in omega (arith, n)
lists_short m (p ∷ ps) ws (inr s) =
    let e = ap (λ (xs : List FilledPlace). length xs) s.2 in
    let n = lists_short (remembering p.id (dictionary_of p.values) m) ps s.1 s.3 in
    omega (arith, e, n)

-- ---- dictionary fields that were visited

found_still : (a b : Seen) (ps : List FilledPlace) → ((id : ℤ) (d : Dictionary) → a.met id ≡ Some d → b.met id ≡ Some d) → Finds a.met ps → Finds b.met ps
found_still a b [] stays f = tt
found_still a b (p ∷ ps) stays f = (stays p.id (dictionary_of p.values) f.0, found_still a b ps stays f.1)

pub goes_none : (m : Remembered) (fixed : Bool) (a : Seen) → Goes m fixed a a []
goes_none m fixed a = record {
  stays = λ id d e. e;
  fresh = λ id d e. inl e;
  agree = λ id d all f. f;
  found = tt;
  added = record { list = []; list_is = sym (append-nil a.list); lists = refl; end = λ id. refl };
}

added_then : (m : Remembered) (a b c : Seen) (ps qs : List FilledPlace) → Added m a b ps → Added m b c qs → Added m a c (ps ++ qs)
added_then m a b c ps qs x y = record {
  list = x.list ++ y.list;
  list_is = y.list_is ∙ ap (λ (ws : List FilledPlace). ws ++ y.list) x.list_is ∙ append_assoc a.list x.list y.list;
  lists = lists_then (ahead m a) ps qs x.list y.list x.lists (subst (λ (n : Remembered). ListsUnwritten n qs y.list) reached y.lists);
  end = λ id. y.end id ∙ ap (λ (n : Remembered). remembering_all y.list n id) reached ∙ ap (λ (n : Remembered). n id) (sym (remembering_both x.list y.list (ahead m a)));
}
  where
    reached : ahead m b ≡ remembering_all x.list (ahead m a)
    reached = memory_is (remembering_all x.list (ahead m a)) (ahead m b) x.end

pub goes_then : (m : Remembered) (fixed : Bool) (a b c : Seen) (ps qs : List FilledPlace) → Goes m fixed a b ps → Goes m fixed b c qs → Goes m fixed a c (ps ++ qs)
goes_then m fixed a b c ps qs x y = record {
  stays = λ id d e. y.stays id d (x.stays id d e);
  fresh = λ id d e. older id d (y.fresh id d e);
  agree = λ id d all f. y.agree id d (all_behind (λ p. p.id ≡ id → dictionary_of p.values ≡ d) ps qs all) (x.agree id d (all_front (λ p. p.id ≡ id → dictionary_of p.values ≡ d) ps qs all) f);
  found = all_both (λ p. c.met p.id ≡ Some (dictionary_of p.values)) ps qs (found_still b c ps y.stays x.found) y.found;
  added = added_then m a b c ps qs x.added y.added;
}
  where
    older : (id : ℤ) (d : Dictionary) → (b.met id ≡ Some d) ⊎ (IsTrue fixed → IsFree m id d) → (a.met id ≡ Some d) ⊎ (IsTrue fixed → IsFree m id d)
    older id d (inl e) = x.fresh id d e
    older id d (inr h) = inr h

-- ---- one dictionary field

-- An id that had values, with the same values.
pub goes_met : (m : Remembered) (fixed : Bool) (a : Seen) (p : FilledPlace) → a.met p.id ≡ Some (dictionary_of p.values) → Goes m fixed a a (p ∷ [])
goes_met m fixed a p e = record {
  stays = λ id d f. f;
  fresh = λ id d f. inl f;
  agree = λ id d all f. f;
  found = (e, tt);
  added = record { list = []; list_is = sym (append-nil a.list); lists = inl (ahead_met m a p.id (dictionary_of p.values) e, refl); end = λ id. refl };
}

-- what may be written under an id
open_where : (m : Remembered) (fixed changed : Bool) (id : ℤ) (d : Dictionary) → Asks m fixed id d (Ok changed) → IsTrue fixed → IsFree m id d
open_where m fixed true id d h f = inl (h.1 f)
open_where m fixed false id d h f = inr h

added_new : (m : Remembered) (fixed changed : Bool) (a b : Seen) (p : FilledPlace) → a.met p.id ≡ None → Asks m fixed p.id (dictionary_of p.values) (Ok changed) → Meets a b p changed → Added m a b (p ∷ [])
added_new m fixed true a b p none h x = record {
  list = p ∷ [];
  list_is = x.list;
  lists = inr (λ e. h.0 (sym (ahead_unmet m a p.id none) ∙ e), [], refl, refl);
  end = λ id. ap (λ (o : Option Dictionary). option_or o (m id)) (x.met id) ∙ sym (ahead_of (int_eq p.id id) (dictionary_of p.values) (a.met id) (m id));
}
added_new m fixed false a b p none h x = record {
  list = [];
  list_is = x.list;
  lists = inl (ahead_unmet m a p.id none ∙ h, refl);
  end = λ id.
      ap (λ (o : Option Dictionary). option_or o (m id)) (x.met id)
      ∙ sym (ahead_of (int_eq p.id id) (dictionary_of p.values) (a.met id) (m id))
      ∙ remembered_still p.id (dictionary_of p.values) (ahead m a) (ahead_unmet m a p.id none ∙ h) id;
}

-- An id that had no values.
pub goes_new : (m : Remembered) (fixed changed : Bool) (a b : Seen) (p : FilledPlace) → a.met p.id ≡ None → Asks m fixed p.id (dictionary_of p.values) (Ok changed) → Meets a b p changed → Goes m fixed a b (p ∷ [])
goes_new m fixed changed a b p none h x = record {
  stays = λ id d e. elim (cases_Bool (int_eq p.id id)) [
    | inl same ↦ absurd (none-some d (sym (met_none id same) ∙ e))
    | inr other ↦ x.met id ∙ remembered_there p.id id own a.met other ∙ e
  ];
  fresh = λ id d e. elim (cases_Bool (int_eq p.id id)) [
    | inl same ↦ inr (subst (λ (f : Dictionary). IsTrue fixed → IsFree m id f) (own_is id d same e) (subst (λ (i : ℤ). IsTrue fixed → IsFree m i own) ((Decides-int_eq p.id id).0 same) (open_where m fixed changed p.id own h)))
    | inr other ↦ inl (sym (x.met id ∙ remembered_there p.id id own a.met other) ∙ e)
  ];
  agree = λ id d all f. elim (cases_Bool (int_eq p.id id)) [
    | inl same ↦ inr (x.met id ∙ remembered_as p.id id own a.met same ∙ ap (λ (e : Dictionary). Some e) (all.0 ((Decides-int_eq p.id id).0 same)))
    | inr other ↦ still id d (x.met id ∙ remembered_there p.id id own a.met other) f
  ];
  found = (x.met p.id ∙ remembered_here p.id own a.met, tt);
  added = added_new m fixed changed a b p none h x;
}
  where
    own : Dictionary
    own = dictionary_of p.values

    met_none : (id : ℤ) → int_eq p.id id ≡ true → a.met id ≡ None
    met_none id same = ap a.met (sym ((Decides-int_eq p.id id).0 same)) ∙ none

    own_is : (id : ℤ) (d : Dictionary) → int_eq p.id id ≡ true → b.met id ≡ Some d → own ≡ d
    own_is id d same e = one_value own d (sym (x.met id ∙ remembered_as p.id id own a.met same) ∙ e)

    still : (id : ℤ) (d : Dictionary) → b.met id ≡ a.met id → Fits a id d → Fits b id d
    still id d e (inl f) = inl (e ∙ f)
    still id d e (inr f) = inr (e ∙ f)
