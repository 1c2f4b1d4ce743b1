-- The values that are known under an id, as an array and as the definitions have them.
use Rattle.ipc_devices.specs.Device.{Device}
use Rattle.std.specs.Prelude.{◌≡◌, ℕ, zero, suc, ◌+◌, ℤ, Bool, true, false, cond, List, [], ◌∷◌, map, length, Option, None, Some, IsSome}
use Rattle.std.proofs.Common.{refl, sym, ap, subst, ◌∙◌}
use Rattle.std.proofs.lemmas.Cmp.{int_eq_equiv}
use Rattle.std.specs.HashMap.{HashMap, get}
use Rattle.std.specs.Map.{lookup}
use Rattle.std.specs.Option.{option_map, unwrap_or}
use Rattle.std.specs.Ordering.{int_eq}
use Rattle.std.specs.declared.alloc.Global.{Global}
use Rattle.std.specs.declared.sync.Arc.{Arc}
use Rattle.lower.specs.Normal.{norm}
use Rattle.lower.specs.TypeTrees.{TypeTree}
use Rattle.lower_arrays.specs.AnyLayouts.{layout_of}
use Rattle.lower_arrays.specs.Layouts.{type_of, len_of}
use Rattle.lower_arrays.specs.Slots.{Slot, slot_at, slots, slots_from}
use Rattle.lower_arrays.specs.declared.array.AnyArray.{AnyArray}
use Rattle.ipc_model.specs.Columns.{values_type, slots_in, values_slots}
use Rattle.ipc_model.specs.Entries.{Dictionary, dictionary_at}
use Rattle.ipc_model.specs.ReadArrays.{AreValues}
use Rattle.ipc_read_flat.specs.Bodies.{dictionary_of, known_entry, known_dictionaries, array_found, entries, known}
use Rattle.ipc_read_flat.specs.declared.read.body.Body.{Body}

-- ---- a map and its list

-- what was found under an id, as the definitions have it
abbrev pub dictionary_found : {Z : Type 0} → Option (Arc AnyArray Z) → Option Dictionary
dictionary_found None = None
dictionary_found (Some x) = Some (dictionary_of (layout_of x.value))

module _ {Z : Type 0} where
  pub found_first : (b : Bool) (x : Arc AnyArray Z) (o : Option (Arc AnyArray Z)) → cond b (Some (dictionary_of (layout_of x.value))) (dictionary_found o) ≡ dictionary_found (cond b (Some x) o)
  found_first true x o = refl
  found_first false x o = refl

  found_in : (es : List (ℤ × Arc AnyArray Z)) (id : ℤ) → dictionary_at (map known_entry es) id ≡ dictionary_found (lookup (int_eq id) es)
  found_in [] id = refl
  found_in (e ∷ es) id =
      (λ i. cond (int_eq_equiv.symm e.0 id i) (Some (dictionary_of (layout_of e.1.value))) (found_in es id i))
      ∙ found_first (int_eq id e.0) e.1 (lookup (int_eq id) es)

  pub found_under : {S : Type 0} (m : HashMap ℤ (Arc AnyArray Z) S) (id : ℤ) → dictionary_at (known_dictionaries m) id ≡ dictionary_found (get int_eq m id)
  found_under m id = found_in m.entries id

-- ---- what a column of keys needs of it

length-slots_from : (f : ℕ → Slot) (a n : ℕ) → length (slots_from f a n) ≡ n
length-slots_from f a zero = refl
length-slots_from f a (suc n) = ap suc (length-slots_from f (a + 1) n)

module _ {R : Type 0} (d : Device R) (b : Body R) where
  known_is : (id : ℤ) → dictionary_at (entries d b).dictionaries id ≡ dictionary_found (get int_eq b.dictionaries.now id)
  unfolding entries
  known_is id = found_under b.dictionaries.now id

  found_slots : {Z : Type 0} (o : Option (Arc AnyArray Z)) → slots (array_found o) ≡ slots_in (dictionary_found o)
  found_slots None = refl
  found_slots (Some x) = refl

  slots_known : (id : Option ℤ) → slots (known b id) ≡ values_slots (entries d b) id
  slots_known None = refl
  slots_known (Some id) = found_slots (get int_eq b.dictionaries.now id) ∙ ap slots_in (sym (known_is id))

  pub values_are : AreValues (entries d b) (known b)
  values_are = record { each = slots_known }

  -- no array was found
  pub none_typed : (id : ℤ) → get int_eq b.dictionaries.now id ≡ None → values_type (entries d b) (Some id) ≡ None
  none_typed id none = ap (option_map (λ (x : Dictionary). x.type)) (known_is id ∙ ap dictionary_found none)

  pub none_known : (id : ℤ) (t : TypeTree) → get int_eq b.dictionaries.now id ≡ None → values_type (entries d b) (Some id) ≡ Some t → ⊥
  none_known id t none h =
      let no : None ≡ Some t = sym (none_typed id none) ∙ h in
      absurd cc

  -- the array that was found has the type of the definitions, and is the one that is known
  pub type_known : (id : ℤ) (x : Arc AnyArray Global) → get int_eq b.dictionaries.now id ≡ Some x → values_type (entries d b) (Some id) ≡ Some (norm (type_of (layout_of x.value)))
  type_known id x there = ap (option_map (λ (y : Dictionary). y.type)) (known_is id ∙ ap dictionary_found there)

  -- The array that is known is no other.
  pub other_typed :
      (id : ℤ) (x : Arc AnyArray Global) (t : TypeTree) → get int_eq b.dictionaries.now id ≡ Some x → (norm (type_of (layout_of x.value)) ≡ t → ⊥)
      → IsSome (values_type (entries d b) (Some id)) × (values_type (entries d b) (Some id) ≡ Some t → ⊥)
  other_typed id x t there other = (subst IsSome (sym (type_known id x there)) refl, λ e. other (ap (λ (o : Option TypeTree). unwrap_or o t) (sym (type_known id x there) ∙ e)))

  pub array_known : (id : ℤ) (x : Arc AnyArray Global) → get int_eq b.dictionaries.now id ≡ Some x → layout_of x.value ≡ known b (Some id)
  array_known id x there = sym (ap array_found there)

  -- The array has as many slots.
  pub values_count : (id : Option ℤ) → len_of (known b id) ≡ length (values_slots (entries d b) id)
  values_count id = sym (length-slots_from (slot_at (known b id)) 0 (len_of (known b id))) ∙ ap length (slots_known id)

pub ruleset known_values = (none_typed, other_typed, none_known, type_known, array_known)
