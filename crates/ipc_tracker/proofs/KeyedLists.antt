-- Arrays of keys, one after another: those that have ids are the dictionary fields of a chunk.
use Rattle.std.proofs.Common.{◌≡◌, ℤ, Bool, List, [], ◌∷◌, ◌++◌, Option, Some, None, IsSome, Ok, Err, Result, refl, sym, ap, ◌∙◌, subst, inl, inr}
use Rattle.std.proofs.lemmas.Grind.{flat_map-append}
use Rattle.std.proofs.lemmas.Option.{none-some}
use Rattle.ipc_devices.specs.declared.fault.Fault.{Fault}
use Rattle.ipc_devices.specs.declared.fault.Fault.TheVariants.{Argument, Memory}
use Rattle.ipc_devices.specs.declared.fault.ArgFault.TheVariants.{SharedDictionary, DictionaryReplaced, FieldsShape}
use Rattle.lower_arrays.specs.Layouts.{Layout}
use Rattle.ipc_model.specs.Entries.{Dictionary}
use Rattle.ipc_model.specs.Offers.{FilledPlace}
use Rattle.ipc_tracker.specs.Trackers.{Remembered, dictionary_of, Asks}
use Rattle.ipc_tracker.specs.Places.{Keyed, place_with, places_of, AllHave}
use Rattle.ipc_tracker.specs.Listings.{Seen, Goes, Meets, Listed, Refuses}
use Rattle.ipc_tracker.proofs.PlaceLists.{all_both, all_front, all_behind, one_value, goes_none, goes_then, goes_met, goes_new}

-- ---- those that have ids

pub places_both : (ks js : List Keyed) → places_of (ks ++ js) ≡ places_of ks ++ places_of js
places_both ks js = flat_map-append (λ k. place_with k.id k.values) ks js

have_front : (id : ℤ) (d : Dictionary) (ks js : List Keyed) → AllHave id d (places_of (ks ++ js)) → AllHave id d (places_of ks)
have_front id d ks js all =
    all_front (λ p. p.id ≡ id → dictionary_of p.values ≡ d) (places_of ks) (places_of js) (subst (λ (ps : List FilledPlace). AllHave id d ps) (places_both ks js) all)

have_behind : (id : ℤ) (d : Dictionary) (ks js : List Keyed) → AllHave id d (places_of (ks ++ js)) → AllHave id d (places_of js)
have_behind id d ks js all =
    all_behind (λ p. p.id ≡ id → dictionary_of p.values ≡ d) (places_of ks) (places_of js) (subst (λ (ps : List FilledPlace). AllHave id d ps) (places_both ks js) all)

-- ---- arrays that were visited

pub listed_none : (m : Remembered) (fixed : Bool) (a : Seen) → Listed m fixed a a []
listed_none m fixed a = record { have_ids = tt; goes = goes_none m fixed a }

pub listed_then : (m : Remembered) (fixed : Bool) (a b c : Seen) (ks js : List Keyed) → Listed m fixed a b ks → Listed m fixed b c js → Listed m fixed a c (ks ++ js)
listed_then m fixed a b c ks js x y = record {
  have_ids = all_both (λ k. IsSome k.id) ks js x.have_ids y.have_ids;
  goes = subst (λ (ps : List FilledPlace). Goes m fixed a c ps) (sym (places_both ks js)) (goes_then m fixed a b c (places_of ks) (places_of js) x.goes y.goes);
}

-- ---- refusals

pub refuses_front : (m : Remembered) (fixed : Bool) (a : Seen) (ks js : List Keyed) (e : Fault) → Refuses m fixed a ks e → Refuses m fixed a (ks ++ js) e
refuses_front m fixed a ks js Memory h = tt
refuses_front m fixed a ks js (Argument (SharedDictionary j)) h = λ d all f. h d (have_front j d ks js all) f
refuses_front m fixed a ks js (Argument (DictionaryReplaced j)) h = (h.0, h.1, h.2, λ all. h.3 (have_front j h.1 ks js all))
refuses_front m fixed a ks js (Argument FieldsShape) h = λ ids. h (all_front (λ k. IsSome k.id) ks js ids)
refuses_front m fixed a ks js _ h = absurd h

pub refuses_behind : (m : Remembered) (fixed : Bool) (a b : Seen) (ks js : List Keyed) (e : Fault) → Listed m fixed a b ks → Refuses m fixed b js e → Refuses m fixed a (ks ++ js) e
refuses_behind m fixed a b ks js Memory x h = tt
refuses_behind m fixed a b ks js (Argument (SharedDictionary j)) x h = λ d all f. h d (have_behind j d ks js all) (x.goes.agree j d (have_front j d ks js all) f)
refuses_behind m fixed a b ks js (Argument (DictionaryReplaced j)) x h = (h.0, h.1, h.2, λ all. h.3 (have_behind j h.1 ks js all))
refuses_behind m fixed a b ks js (Argument FieldsShape) x h = λ ids. h (all_behind (λ k. IsSome k.id) ks js ids)
refuses_behind m fixed a b ks js _ x h = absurd h

-- ---- one array

abbrev pub one_keyed : ℤ → Layout → List Keyed
one_keyed id l = record { id = Some id; values = l } ∷ []

pub listed_met : (m : Remembered) (fixed : Bool) (a : Seen) (id : ℤ) (l : Layout) → a.met id ≡ Some (dictionary_of l) → Listed m fixed a a (one_keyed id l)
listed_met m fixed a id l e = record { have_ids = (refl, tt); goes = goes_met m fixed a (record { id = id; values = l }) e }

pub listed_new : (m : Remembered) (fixed changed : Bool) (a b : Seen) (id : ℤ) (l : Layout) → a.met id ≡ None → Asks m fixed id (dictionary_of l) (Ok changed) → Meets a b (record { id = id; values = l }) changed
    → Listed m fixed a b (one_keyed id l)
listed_new m fixed changed a b id l none h x = record { have_ids = (refl, tt); goes = goes_new m fixed changed a b (record { id = id; values = l }) none h x }

pub refuses_shared : (m : Remembered) (fixed : Bool) (a : Seen) (id : ℤ) (l : Layout) (d : Dictionary) → a.met id ≡ Some d → (d ≡ dictionary_of l → ⊥) → Refuses m fixed a (one_keyed id l) (Argument (SharedDictionary id))
refuses_shared m fixed a id l d met others e all (inl f) = absurd (none-some d (sym f ∙ met))
refuses_shared m fixed a id l d met others e all (inr f) = others (one_value d e (sym met ∙ f) ∙ sym (all.0 refl))

value_where : (m : Remembered) (id : ℤ) (d : Dictionary) (o : Option Dictionary) → m id ≡ o → (m id ≡ Some d → ⊥) → (m id ≡ None → ⊥) → (e : Dictionary) × (m id ≡ Some e) × (e ≡ d → ⊥)
value_where m id d None is other some = absurd (some is)
value_where m id d (Some e) is other some = (e, is, λ same. other (is ∙ ap (λ (f : Dictionary). Some f) same))

pub refuses_asked : (m : Remembered) (fixed : Bool) (a : Seen) (id : ℤ) (l : Layout) (e : Fault) → Asks m fixed id (dictionary_of l) (Err e) → Refuses m fixed a (one_keyed id l) e
refuses_asked m fixed a id l Memory h = tt
refuses_asked m fixed a id l (Argument (DictionaryReplaced j)) h =
    let v = value_where m id (dictionary_of l) (m id) refl h.2 h.3 in
    (h.1, v.0, ap m h.0 ∙ v.1, λ all. v.2 (sym (all.0 (sym h.0))))
refuses_asked m fixed a id l _ h = absurd h

-- The id and the values are those that were passed.
pub refuses_changed : (m : Remembered) (fixed : Bool) (a : Seen) (id j : ℤ) (l k : Layout) (r : Result Bool Fault) (e : Fault) → j ≡ id → k ≡ l → r ≡ Err e → Asks m fixed j (dictionary_of k) r → Refuses m fixed a (one_keyed id l) e
refuses_changed m fixed a id j l k r e same values was asks =
    refuses_asked m fixed a id l e
    (subst (λ (z : ℤ). Asks m fixed z (dictionary_of l) (Err e)) same
    (subst (λ (x : Layout). Asks m fixed j (dictionary_of x) (Err e)) values
    (subst (λ (x : Result Bool Fault). Asks m fixed j (dictionary_of k) x) was asks)))
