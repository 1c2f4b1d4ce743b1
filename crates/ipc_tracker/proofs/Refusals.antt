-- Chunks that are refused aren't accepted.
use Rattle.std.proofs.Common.{◌≡◌, ℤ, List, [], ◌∷◌, map, Option, Some, refl, sym, ap, ap₂, ◌∙◌, subst, inl, inr}
use Rattle.std.specs.List.{AllByRecursion}
use Rattle.std.specs.Ordering.{int_eq}
use Rattle.std.proofs.lemmas.Bool.{cases_Bool, true≢false}
use Rattle.std.proofs.lemmas.Bool.Decides.{Decides-int_eq}
use Rattle.ipc_devices.specs.declared.fault.Fault.TheVariants.{Argument, Memory}
use Rattle.ipc_devices.specs.declared.fault.ArgFault.TheVariants.{SharedDictionary, DictionaryReplaced, FieldsShape}
use Rattle.lower.specs.Normal.{norm}
use Rattle.lower.specs.TypeTrees.{TypeTree, null, plain}
use Rattle.lower_arrays.specs.Layouts.{Layout, layouts, type_of}
use Rattle.lower_arrays.specs.Slots.{Slot, slots}
use Rattle.ipc_model.specs.Accepted.{Brought, AreKept, AreShared, HaveSameValues}
use Rattle.ipc_model.specs.Entries.{Dictionary}
use Rattle.ipc_model.specs.Offers.{FilledPlace, values_of}
use Rattle.ipc_tracker.specs.Laws.{HaveOneType, RefusalLaw}
use Rattle.ipc_tracker.specs.Places.{AllHave}
use Rattle.ipc_tracker.specs.Trackers.{Remembered, dictionary_of}

abbrev dictionary_with : TypeTree → List Slot → Dictionary
dictionary_with t xs = record { type = t; slots = xs }

abbrev brought : FilledPlace → Brought
brought p = record { id = p.id; values = record { type = type_of p.values; slots = slots p.values } }

one_with : (j : ℤ) (p : FilledPlace) (qs : List FilledPlace) → p.id ≡ j → AllByRecursion (HaveSameValues (brought p)) (map brought qs)
    → AllByRecursion (λ (q : FilledPlace). p.id ≡ q.id → norm (type_of p.values) ≡ norm (type_of q.values)) qs → AllHave j (dictionary_of p.values) qs
one_with j p [] e s t = tt
one_with j p (q ∷ qs) e s t =
    (λ f. ap₂ dictionary_with (sym (t.0 (e ∙ sym f))) (sym (s.0 (e ∙ sym f))), one_with j p qs e s.1 t.1)

-- Dictionary fields that share their values have the same values under each id.
shared_of : (j : ℤ) (ps : List FilledPlace) → HaveOneType ps → AreShared (map brought ps) → (d : Dictionary) × AllHave j d ps
shared_of j [] t s = (dictionary_with (plain null) [], tt)
shared_of j (p ∷ ps) t s =
    elim (cases_Bool (int_eq p.id j)) [
      | inl same ↦ (dictionary_of p.values, (λ f. refl, one_with j p ps ((Decides-int_eq p.id j).0 same) s.0 t.0))
      | inr other ↦ (let r = shared_of j ps t.1 s.1 in (r.0, (λ f. absurd (true≢false (sym ((Decides-int_eq p.id j).1 f) ∙ other)), r.1)))
    ]

kept_as : (d : Dictionary) (l : Layout) → AreKept (Some d) (record { type = type_of l; slots = slots l }) → dictionary_of l ≡ d
kept_as d l k = ap₂ dictionary_with (sym k.1) (sym k.0)

-- values that are kept are those that are remembered
kept_of : (m : Remembered) (j : ℤ) (d : Dictionary) (ps : List FilledPlace) → m j ≡ Some d → AllByRecursion (λ (p : Brought). AreKept (m p.id) p.values) (map brought ps) → AllHave j d ps
kept_of m j d [] e k = tt
kept_of m j d (p ∷ ps) e k =
    (λ f. kept_as d p.values (subst (λ (o : Option Dictionary). AreKept o (record { type = type_of p.values; slots = slots p.values })) (ap m f ∙ e) k.0), kept_of m j d ps e k.1)

pub refusal_law : RefusalLaw
refusal_law m fixed columns is Memory one h = tt
refusal_law m fixed columns is (Argument (SharedDictionary j)) one h =
    λ s. let r = shared_of j (values_of (layouts columns) is) one s in h r.0 r.1
refusal_law m fixed columns is (Argument (DictionaryReplaced j)) one h = (h.0, λ k. h.3 (kept_of m j h.1 (values_of (layouts columns) is) h.2 k))
refusal_law m fixed columns is (Argument FieldsShape) one h = h
refusal_law m fixed columns is _ one h = absurd h
