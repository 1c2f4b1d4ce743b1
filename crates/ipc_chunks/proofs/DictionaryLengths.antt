-- The dictionaries of some arrays, one after another, and the dictionary fields of a chunk.
use Rattle.std.proofs.Common.{◌≡◌, ◌⊎◌, ℕ, ℤ, ◌+◌, ◌<◌, ◌≤◌, Bool, true, false, cond, List, [], ◌∷◌, ◌++◌, length, get_or, drop, map, Option, None, Some, IsSome, sym, ap, ◌∙◌, subst, inl, inr, Result, Ok, Err}
use Rattle.std.proofs.lemmas.List.{drop_more, drop_all}
use Rattle.std.specs.List.{AllByRecursion}
use Rattle.lower_arrays.specs.AnyLayouts.{layout_of}
use Rattle.lower_arrays.specs.Layouts.{Layout, layout, Layouts, no_layouts, more_layouts, layouts}
use Rattle.lower_arrays.specs.declared.array.AnyArray.{AnyArray}
use Rattle.ipc_base.specs.IdTrees.{IdTrees}
use Rattle.ipc_devices.specs.declared.fault.ArgFault.TheVariants.{TooLarge, TooLong}
use Rattle.ipc_devices.specs.declared.fault.Fault.{Fault}
use Rattle.ipc_devices.specs.declared.fault.Fault.TheVariants.{Argument, Memory}
use Rattle.ipc_model.specs.Offers.{FilledPlace, inner_ids, is_keyed, own_id, own_values, values_below, values_inside, values_of}
use Rattle.ipc_model.specs.TypeKinds.{first_ids, other_ids}
use Rattle.ipc_tracker.proofs.PlaceLists.{all_behind, all_both, all_front}
use Rattle.ipc_tracker.specs.Listings.{ListsAll}
use Rattle.ipc_tracker.specs.Places.{HaveIds, Keyed, keyed_below, keyed_inside, keyed_of, own_keyed}
use Rattle.ipc_tracker.specs.Trackers.{Remembered}
use Rattle.ipc_chunks.specs.Lengths.{AnswersLengths, HasLengths, HaveLengths, RefusesAnyLengths, RefusesLengths, dictionaries_below, dictionaries_in, dictionaries_inside, own_dictionaries}
use Rattle.ipc_chunks.specs.Messages.{RefusesPlaces, RefusesSome, RefusesValues}

-- ---- one after another

any_front : (ls ks : List Layout) (e : Fault) → RefusesAnyLengths ls e → RefusesAnyLengths (ls ++ ks) e
any_front [] ks e h = absurd h
any_front (l ∷ ls) ks e (inl h) = inl h
any_front (l ∷ ls) ks e (inr h) = inr (any_front ls ks e h)

any_behind : (ls ks : List Layout) (e : Fault) → RefusesAnyLengths ks e → RefusesAnyLengths (ls ++ ks) e
any_behind [] ks e h = h
any_behind (l ∷ ls) ks e h = inr (any_behind ls ks e h)

any_split : (ls ks : List Layout) (e : Fault) → RefusesAnyLengths (ls ++ ks) e → RefusesAnyLengths ls e ⊎ RefusesAnyLengths ks e
any_split [] ks e h = inr h
any_split (l ∷ ls) ks e (inl h) = inl (inl h)
any_split (l ∷ ls) ks e (inr h) = elim (any_split ls ks e h) [ inl here ↦ inl (inr here) | inr there ↦ inr there ]

-- The dictionaries in the columns from an index on, and in one column.
abbrev pub left_from : List AnyArray → ℕ → List Layout
left_from xs i = dictionaries_in (layouts (map layout_of (drop i xs)))

abbrev pub in_column : AnyArray → List Layout
in_column y = dictionaries_below (layout_of y) ++ own_dictionaries (layout_of y)

split_at : (xs : List AnyArray) (i : ℕ) (y : AnyArray) → i < length xs → y ≡ get_or xs i y → in_column y ++ left_from xs (i + 1) ≡ left_from xs i
split_at xs i y inside is =
    sym (ap (λ (ys : List AnyArray). dictionaries_in (layouts (map layout_of ys))) (drop_more xs i y inside)
    ∙ ap (λ (z : AnyArray). in_column z ++ left_from xs (i + 1)) (sym is))

pub lengths_more : (xs : List AnyArray) (i : ℕ) (y : AnyArray) → i < length xs → y ≡ get_or xs i y → AllByRecursion HasLengths (in_column y) → AllByRecursion HasLengths (left_from xs (i + 1))
    → AllByRecursion HasLengths (left_from xs i)
lengths_more xs i y inside is here rest =
    subst (λ (ls : List Layout). AllByRecursion HasLengths ls) (split_at xs i y inside is) (all_both HasLengths (in_column y) (left_from xs (i + 1)) here rest)

pub refused_later : (xs : List AnyArray) (i : ℕ) (y : AnyArray) (e : Fault) → i < length xs → y ≡ get_or xs i y → RefusesAnyLengths (left_from xs (i + 1)) e → RefusesAnyLengths (left_from xs i) e
refused_later xs i y e inside is h = subst (λ (ls : List Layout). RefusesAnyLengths ls e) (split_at xs i y inside is) (any_behind (in_column y) (left_from xs (i + 1)) e h)

pub refused_here : (xs : List AnyArray) (i : ℕ) (y : AnyArray) (e : Fault) → i < length xs → y ≡ get_or xs i y → RefusesAnyLengths (in_column y) e → RefusesAnyLengths (left_from xs i) e
refused_here xs i y e inside is h = subst (λ (ls : List Layout). RefusesAnyLengths ls e) (split_at xs i y inside is) (any_front (in_column y) (left_from xs (i + 1)) e h)

pub none_left : (xs : List AnyArray) (i : ℕ) → length xs ≤ i → AllByRecursion HasLengths (left_from xs i)
none_left xs i h = subst (λ (ys : List AnyArray). AllByRecursion HasLengths (dictionaries_in (layouts (map layout_of ys)))) (sym (drop_all i xs h)) tt

-- A column without dictionaries.
pub none_here : (ls ks : List Layout) → ls ≡ [] → ks ≡ [] → AllByRecursion HasLengths (ls ++ ks)
none_here ls ks e f =
    subst (λ (xs : List Layout). AllByRecursion HasLengths (xs ++ ks)) (sym e) (subst (λ (ys : List Layout). AllByRecursion HasLengths ys) (sym f) tt)

-- The dictionaries below a column, and then its own.
pub lengths_then : (ls ks js : List Layout) (r : Result (Unit {0}) Fault) → ls ≡ ks → AllByRecursion HasLengths ls → AnswersLengths r js → AnswersLengths r (ks ++ js)
lengths_then ls ks js (Ok x) e f g = all_both HasLengths ks js (subst (λ (is : List Layout). AllByRecursion HasLengths is) e f) g
lengths_then ls ks js (Err k) e f g = any_behind ks js k g

pub below_refused : (ls ks js : List Layout) (e : Fault) → ls ≡ ks → RefusesAnyLengths ls e → RefusesAnyLengths (ks ++ js) e
below_refused ls ks js e same h = any_front ks js e (subst (λ (is : List Layout). RefusesAnyLengths is e) same h)

-- ---- dictionary fields

own_places : (b : Bool) (c : Layout) (id : ℤ) → AllByRecursion HasLengths (cond b (c ∷ []) []) → HaveLengths (cond b (record { id = id; values = c } ∷ []) [])
own_places true c id h = (h.0, tt)
own_places false c id h = tt

own_have : (l : Layout) (o : Option ℤ) → AllByRecursion HasLengths (own_dictionaries l) → HaveLengths (own_values l o)
own_have (layout k no_layouts) o h = tt
own_have (layout k (more_layouts c cs)) None h = tt
own_have (layout k (more_layouts c cs)) (Some id) h = own_places (is_keyed k.parts) c id h

either_have : (b : Bool) (ls ks : List Layout) (ps qs : List FilledPlace) → (AllByRecursion HasLengths ls → HaveLengths ps) → (AllByRecursion HasLengths ks → HaveLengths qs)
    → AllByRecursion HasLengths (cond b ls ks) → HaveLengths (cond b ps qs)
either_have true ls ks ps qs f g h = f h
either_have false ls ks ps qs f g h = g h

mutual
  below_have : (l : Layout) (is : IdTrees) → AllByRecursion HasLengths (dictionaries_below l) → HaveLengths (values_below l is)
  below_have (layout k cs) is h =
      either_have (is_keyed k.parts) (dictionaries_inside cs) (dictionaries_in cs) (values_inside cs is) (values_of cs is) (inside_have cs is) (all_have cs is) h

  inside_have : (cs : Layouts) (is : IdTrees) → AllByRecursion HasLengths (dictionaries_inside cs) → HaveLengths (values_inside cs is)
  inside_have no_layouts is h = tt
  inside_have (more_layouts c cs) is h = below_have c is h

  pub all_have : (cs : Layouts) (is : IdTrees) → AllByRecursion HasLengths (dictionaries_in cs) → HaveLengths (values_of cs is)
  all_have no_layouts is h = tt
  all_have (more_layouts c cs) is h =
      let js = inner_ids (first_ids is) in
      let id = own_id (first_ids is) in
      let here = all_front HasLengths (dictionaries_below c ++ own_dictionaries c) (dictionaries_in cs) h in
      let rest = all_behind HasLengths (dictionaries_below c ++ own_dictionaries c) (dictionaries_in cs) h in
      all_both (λ (p : FilledPlace). HasLengths p.values) (values_below c js ++ own_values c id) (values_of cs (other_ids is))
      (all_both (λ (p : FilledPlace). HasLengths p.values) (values_below c js) (own_values c id)
      (below_have c js (all_front HasLengths (dictionaries_below c) (own_dictionaries c) here))
      (own_have c id (all_behind HasLengths (dictionaries_below c) (own_dictionaries c) here)))
      (all_have cs (other_ids is) rest)

-- ---- refusals

-- A message of some values whose lengths don't fit isn't encoded.
values_refused : (p : FilledPlace) (e : Fault) → RefusesLengths p.values e → RefusesValues p e
values_refused p Memory h = tt
values_refused p (Argument TooLong) h = λ few short. h short
values_refused p (Argument TooLarge) h = inl h
values_refused p _ h = absurd h

some_front : (ps qs : List FilledPlace) (e : Fault) → RefusesSome ps e → RefusesSome (ps ++ qs) e
some_front [] qs e h = absurd h
some_front (p ∷ ps) qs e (inl h) = inl h
some_front (p ∷ ps) qs e (inr h) = inr (some_front ps qs e h)

some_behind : (ps qs : List FilledPlace) (e : Fault) → RefusesSome qs e → RefusesSome (ps ++ qs) e
some_behind [] qs e h = h
some_behind (p ∷ ps) qs e h = inr (some_behind ps qs e h)

own_some : (b : Bool) (c : Layout) (id : ℤ) (e : Fault) → RefusesAnyLengths (cond b (c ∷ []) []) e → RefusesSome (cond b (record { id = id; values = c } ∷ []) []) e
own_some true c id e (inl h) = inl (values_refused (record { id = id; values = c }) e h)
own_some true c id e (inr h) = absurd h
own_some false c id e h = absurd h

own_none : (b : Bool) (c : Layout) (e : Fault) → HaveIds (cond b (record { id = None; values = c } ∷ []) []) → RefusesAnyLengths (cond b (c ∷ []) []) e → ⊥
own_none true c e ids h = let none = ids.0 in absurd cc
own_none false c e ids h = h

own_refused : (l : Layout) (o : Option ℤ) (e : Fault) → HaveIds (own_keyed l o) → RefusesAnyLengths (own_dictionaries l) e → RefusesSome (own_values l o) e
own_refused (layout k no_layouts) o e ids h = absurd h
own_refused (layout k (more_layouts c cs)) None e ids h = absurd (own_none (is_keyed k.parts) c e ids h)
own_refused (layout k (more_layouts c cs)) (Some id) e ids h = own_some (is_keyed k.parts) c id e h

either_refused : (b : Bool) (ls ks : List Layout) (is js : List Keyed) (ps qs : List FilledPlace) (e : Fault) → (HaveIds is → RefusesAnyLengths ls e → RefusesSome ps e)
    → (HaveIds js → RefusesAnyLengths ks e → RefusesSome qs e) → HaveIds (cond b is js) → RefusesAnyLengths (cond b ls ks) e → RefusesSome (cond b ps qs) e
either_refused true ls ks is js ps qs e f g ids h = f ids h
either_refused false ls ks is js ps qs e f g ids h = g ids h

abbrev HasId : Keyed → Type 0
HasId k = IsSome k.id

mutual
  below_some : (l : Layout) (is : IdTrees) (e : Fault) → HaveIds (keyed_below l is) → RefusesAnyLengths (dictionaries_below l) e → RefusesSome (values_below l is) e
  below_some (layout k cs) is e ids h =
      either_refused (is_keyed k.parts) (dictionaries_inside cs) (dictionaries_in cs) (keyed_inside cs is) (keyed_of cs is) (values_inside cs is) (values_of cs is) e
      (inside_some cs is e) (all_some cs is e) ids h

  inside_some : (cs : Layouts) (is : IdTrees) (e : Fault) → HaveIds (keyed_inside cs is) → RefusesAnyLengths (dictionaries_inside cs) e → RefusesSome (values_inside cs is) e
  inside_some no_layouts is e ids h = absurd h
  inside_some (more_layouts c cs) is e ids h = below_some c is e ids h

  all_some : (cs : Layouts) (is : IdTrees) (e : Fault) → HaveIds (keyed_of cs is) → RefusesAnyLengths (dictionaries_in cs) e → RefusesSome (values_of cs is) e
  all_some no_layouts is e ids h = absurd h
  all_some (more_layouts c cs) is e ids h =
      let js = inner_ids (first_ids is) in
      let id = own_id (first_ids is) in
      let here = all_front HasId (keyed_below c js ++ own_keyed c id) (keyed_of cs (other_ids is)) ids in
      let rest = all_behind HasId (keyed_below c js ++ own_keyed c id) (keyed_of cs (other_ids is)) ids in
      elim (any_split (dictionaries_below c ++ own_dictionaries c) (dictionaries_in cs) e h) [
        | inl first ↦ some_front (values_below c js ++ own_values c id) (values_of cs (other_ids is)) e
            (elim (any_split (dictionaries_below c) (own_dictionaries c) e first) [
              | inl below ↦ some_front (values_below c js) (own_values c id) e (below_some c js e (all_front HasId (keyed_below c js) (own_keyed c id) here) below)
              | inr own ↦ some_behind (values_below c js) (own_values c id) e (own_refused c id e (all_behind HasId (keyed_below c js) (own_keyed c id) here) own)
            ])
        | inr later ↦ some_behind (values_below c js ++ own_values c id) (values_of cs (other_ids is)) e (all_some cs (other_ids is) e rest later)
      ]

-- Why a chunk is refused whose dictionaries are known.
pub lengths_refused : (m : Remembered) (fixed : Bool) (columns : List Layout) (is : IdTrees) (list : List FilledPlace) (e : Fault) → ListsAll m fixed columns is list
    → RefusesAnyLengths (dictionaries_in (layouts columns)) e → RefusesPlaces m fixed columns is e
lengths_refused m fixed columns is list e lists h = inr (all_some (layouts columns) is e lists.have_ids h)
