-- A chunk as a whole: its values to write, and why it is refused.
use Rattle.std.proofs.Common.{◌≡◌, ◌⊎◌, ℤ, Bool, true, false, cond, List, [], ◌∷◌, ◌++◌, map, Option, Some, None, IsTrue, refl, sym, ap, ap₂, ◌∙◌, subst, inl, inr}
use Rattle.std.specs.List.{AllByRecursion}
use Rattle.std.proofs.lemmas.Option.{none-some}
use Rattle.ipc_devices.specs.declared.fault.Fault.{Fault}
use Rattle.ipc_devices.specs.declared.fault.Fault.TheVariants.{Argument, Memory}
use Rattle.ipc_devices.specs.declared.fault.ArgFault.TheVariants.{SharedDictionary, DictionaryReplaced, FieldsShape}
use Rattle.lower_arrays.specs.Layouts.{Layout, layout, Layouts, no_layouts, more_layouts, layouts, type_of}
use Rattle.lower_arrays.specs.Slots.{slots}
use Rattle.ipc_base.specs.IdTrees.{IdTrees}
use Rattle.ipc_model.specs.Accepted.{Brought, AreKept, AreShared, HaveSameValues}
use Rattle.ipc_model.specs.Entries.{Dictionary}
use Rattle.ipc_model.specs.Offers.{FilledPlace, is_keyed, own_id, inner_ids, own_values, values_below, values_inside, values_of}
use Rattle.ipc_model.specs.TypeKinds.{first_ids, other_ids}
use Rattle.ipc_tracker.specs.Trackers.{Remembered, dictionary_of}
use Rattle.ipc_tracker.specs.Places.{Keyed, own_keyed, keyed_below, keyed_inside, keyed_of, places_of, Finds, AllHave}
use Rattle.ipc_tracker.specs.Listings.{Seen, ahead, IsFree, remembering_all, ListsUnwritten, ListsAll, RefusesAll, Goes, Listed, Refuses}
use Rattle.ipc_tracker.proofs.PlaceLists.{one_value, memory_is, ahead_met, ahead_unmet, lists_short}
use Rattle.ipc_tracker.proofs.KeyedLists.{places_both}

-- ---- the arrays of keys that have ids are those of a writer's offer

own_none : (b : Bool) (c : Layout) → places_of (cond b (record { id = None; values = c } ∷ []) []) ≡ []
own_none true c = refl
own_none false c = refl

own_some : (b : Bool) (id : ℤ) (c : Layout) → places_of (cond b (record { id = Some id; values = c } ∷ []) []) ≡ cond b (record { id = id; values = c } ∷ []) []
own_some true id c = refl
own_some false id c = refl

own_is : (l : Layout) (o : Option ℤ) → places_of (own_keyed l o) ≡ own_values l o
own_is (layout h no_layouts) None = refl
own_is (layout h no_layouts) (Some id) = refl
own_is (layout h (more_layouts c cs)) None = own_none (is_keyed h.parts) c
own_is (layout h (more_layouts c cs)) (Some id) = own_some (is_keyed h.parts) id c

either_is : (b : Bool) (ks js : List Keyed) (ps qs : List FilledPlace) → places_of ks ≡ ps → places_of js ≡ qs → places_of (cond b ks js) ≡ cond b ps qs
either_is true ks js ps qs e f = e
either_is false ks js ps qs e f = f

three_are : (ks js ls : List Keyed) (ps qs rs : List FilledPlace) → places_of ks ≡ ps → places_of js ≡ qs → places_of ls ≡ rs → places_of ((ks ++ js) ++ ls) ≡ (ps ++ qs) ++ rs
three_are ks js ls ps qs rs e f g =
    places_both (ks ++ js) ls ∙ ap₂ (λ (xs ys : List FilledPlace). xs ++ ys) (places_both ks js ∙ ap₂ (λ (xs ys : List FilledPlace). xs ++ ys) e f) g

mutual
  below_are : (l : Layout) (is : IdTrees) → places_of (keyed_below l is) ≡ values_below l is
  below_are (layout h cs) is = either_is (is_keyed h.parts) (keyed_inside cs is) (keyed_of cs is) (values_inside cs is) (values_of cs is) (inside_are cs is) (all_are cs is)

  inside_are : (cs : Layouts) (is : IdTrees) → places_of (keyed_inside cs is) ≡ values_inside cs is
  inside_are no_layouts is = refl
  inside_are (more_layouts c cs) is = below_are c is

  all_are : (cs : Layouts) (is : IdTrees) → places_of (keyed_of cs is) ≡ values_of cs is
  all_are no_layouts is = refl
  all_are (more_layouts c cs) is =
      three_are (keyed_below c (inner_ids (first_ids is))) (own_keyed c (own_id (first_ids is))) (keyed_of cs (other_ids is))
      (values_below c (inner_ids (first_ids is))) (own_values c (own_id (first_ids is))) (values_of cs (other_ids is))
      (below_are c (inner_ids (first_ids is))) (own_is c (own_id (first_ids is))) (all_are cs (other_ids is))

-- ---- what a chunk brings

abbrev brought : FilledPlace → Brought
brought p = record { id = p.id; values = record { type = type_of p.values; slots = slots p.values } }

shared_with : (m : Remembered) (p : FilledPlace) (ps : List FilledPlace) → m p.id ≡ Some (dictionary_of p.values) → Finds m ps → AllByRecursion (HaveSameValues (brought p)) (map brought ps)
shared_with m p [] e f = tt
shared_with m p (q ∷ qs) e f =
    (λ same. ap (λ (d : Dictionary). d.slots) (one_value (dictionary_of p.values) (dictionary_of q.values) (sym e ∙ ap m same ∙ f.0)), shared_with m p qs e f.1)

shared_are : (m : Remembered) (ps : List FilledPlace) → Finds m ps → AreShared (map brought ps)
shared_are m [] f = tt
shared_are m (p ∷ ps) f = (shared_with m p ps f.0 f.1, shared_are m ps f.1)

kept_one : (o : Option Dictionary) (l : Layout) → (o ≡ None) ⊎ (o ≡ Some (dictionary_of l)) → AreKept o (record { type = type_of l; slots = slots l })
kept_one None l h = tt
kept_one (Some d) l (inl e) = absurd (none-some d (sym e))
kept_one (Some d) l (inr e) =
    let same = one_value d (dictionary_of l) e in
    (ap (λ (x : Dictionary). x.slots) same, ap (λ (x : Dictionary). x.type) same)

kept_are : (m met : Remembered) (ps : List FilledPlace) → ((id : ℤ) (d : Dictionary) → met id ≡ Some d → IsFree m id d) → Finds met ps
    → AllByRecursion (λ (p : Brought). AreKept (m p.id) p.values) (map brought ps)
kept_are m met [] may f = tt
kept_are m met (p ∷ ps) may f = (kept_one (m p.id) p.values (may p.id (dictionary_of p.values) f.0), kept_are m met ps may f.1)

found_ahead : (m : Remembered) (b : Seen) (ps : List FilledPlace) → Finds b.met ps → Finds (ahead m b) ps
found_ahead m b [] f = tt
found_ahead m b (p ∷ ps) f = (ahead_met m b p.id (dictionary_of p.values) f.0, found_ahead m b ps f.1)

-- ---- a chunk of which nothing was visited

pub lists_all : (m : Remembered) (fixed : Bool) (a b : Seen) (columns : List Layout) (is : IdTrees) (ws : List FilledPlace) → ((id : ℤ) → a.met id ≡ None) → a.list ≡ [] → ws ≡ b.list
    → Listed m fixed a b (keyed_of (layouts columns) is) → ListsAll m fixed columns is ws
lists_all m fixed a b columns is ws none empty same x = record {
  have_ids = x.have_ids;
  shared = shared_are b.met ps goes.found;
  kept = λ f. kept_are m b.met ps (λ id d e. may f id d (goes.fresh id d e)) goes.found;
  lists = lists;
  found = subst (λ (n : Remembered). Finds n ps) reached (found_ahead m b ps goes.found);
  short = lists_short m ps ws lists;
}
  where
    ps : List FilledPlace
    ps = values_of (layouts columns) is

    goes : Goes m fixed a b (values_of (layouts columns) is)
    goes = subst (λ (qs : List FilledPlace). Goes m fixed a b qs) (all_are (layouts columns) is) x.goes

    added : goes.added.list ≡ ws
    added = sym (same ∙ goes.added.list_is ∙ ap (λ (qs : List FilledPlace). qs ++ goes.added.list) empty)

    begun : ahead m a ≡ m
    begun = memory_is m (ahead m a) (λ id. ahead_unmet m a id (none id))

    lists : ListsUnwritten m (values_of (layouts columns) is) ws
    lists = subst (λ (n : Remembered). ListsUnwritten n ps ws) begun (subst (λ (qs : List FilledPlace). ListsUnwritten (ahead m a) ps qs) added goes.added.lists)

    reached : ahead m b ≡ remembering_all ws m
    reached = memory_is (remembering_all goes.added.list (ahead m a)) (ahead m b) goes.added.end ∙ ap₂ (λ (qs : List FilledPlace) (n : Remembered). remembering_all qs n) added begun

    may : IsTrue fixed → (id : ℤ) (d : Dictionary) → (a.met id ≡ Some d) ⊎ (IsTrue fixed → IsFree m id d) → IsFree m id d
    may f id d (inl e) = absurd (none-some d (sym (none id) ∙ e))
    may f id d (inr h) = h f

pub refuses_all : (m : Remembered) (fixed : Bool) (a : Seen) (columns : List Layout) (is : IdTrees) (e : Fault) → ((id : ℤ) → a.met id ≡ None)
    → Refuses m fixed a (keyed_of (layouts columns) is) e → RefusesAll m fixed columns is e
refuses_all m fixed a columns is Memory none h = tt
refuses_all m fixed a columns is (Argument (SharedDictionary j)) none h =
    λ d all. h d (subst (λ (ps : List FilledPlace). AllHave j d ps) (sym (all_are (layouts columns) is)) all) (inl (none j))
refuses_all m fixed a columns is (Argument (DictionaryReplaced j)) none h =
    (h.0, h.1, h.2, λ all. h.3 (subst (λ (ps : List FilledPlace). AllHave j h.1 ps) (sym (all_are (layouts columns) is)) all))
refuses_all m fixed a columns is (Argument FieldsShape) none h = h
refuses_all m fixed a columns is _ none h = absurd h
