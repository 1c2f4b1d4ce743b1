-- Which dictionaries of a chunk must be written.
-- (Arrow columnar format, "Dictionary messages".)
use Rattle.std.specs.Prelude.{◌≡◌, ◌≢◌, ◌⊎◌, ◌≤◌, ℤ, Bool, true, false, IsTrue, List, [], ◌∷◌, ◌++◌, length, map, Option, Some, None, option_map}
use Rattle.std.specs.HashMap as hash
use Rattle.std.specs.List.{AllByRecursion}
use Rattle.std.specs.Option.{option_or}
use Rattle.std.specs.Ordering.{int_eq}
use Rattle.ipc_devices.specs.declared.fault.Fault.{Fault}
use Rattle.ipc_devices.specs.declared.fault.Fault.TheVariants.{Argument, Memory}
use Rattle.ipc_devices.specs.declared.fault.ArgFault.TheVariants.{SharedDictionary, DictionaryReplaced, FieldsShape}
use Rattle.lower_arrays.specs.AnyLayouts.{layout_of}
use Rattle.lower_arrays.specs.Layouts.{Layout, layouts}
use Rattle.ipc_base.specs.IdTrees.{IdTrees}
use Rattle.ipc_model.specs.Accepted.{AreKept, AreShared}
use Rattle.ipc_model.specs.Entries.{Dictionary}
use Rattle.ipc_model.specs.Offers.{FilledPlace, values_of, offer_of}
use Rattle.ipc_tracker.specs.Places.{Keyed, keyed_of, HaveIds, places_of, Finds, AllHave}
use Rattle.ipc_tracker.specs.Trackers.{Remembered, remembering, dictionary_of, IsSameMemory}
use Rattle.ipc_tracker.specs.declared.listing.Listing.{Listing}
use Rattle.ipc_tracker.specs.declared.tracker.NewDictionary.{NewDictionary}

-- ---- lists

-- Values that must be written under an id.
abbrev pub listed : NewDictionary → FilledPlace
listed d = record { id = d.id; values = layout_of d.values.value }

-- What is remembered once these values are written.
abbrev pub remembering_all : List FilledPlace → Remembered → ℤ → Option Dictionary
remembering_all [] m = m
remembering_all (p ∷ ps) m = remembering_all ps (remembering p.id (dictionary_of p.values) m)

-- At each dictionary field the values are remembered, or else they must be written, and are
-- remembered then; `ws` are those to write, in order.
abbrev pub ListsUnwritten : Remembered → List FilledPlace → List FilledPlace → Type 0
ListsUnwritten m [] ws = ws ≡ []
ListsUnwritten m (p ∷ ps) ws =
    ((m p.id ≡ Some (dictionary_of p.values)) × ListsUnwritten m ps ws)
    ⊎ ((m p.id ≢ Some (dictionary_of p.values)) × (rest : List FilledPlace) × (ws ≡ p ∷ rest)
    × ListsUnwritten (remembering p.id (dictionary_of p.values) m) ps rest)

-- ---- a chunk

-- The dictionaries to write for a chunk. Each array of keys has an id, and one id has one list of
-- values. If nothing may be replaced, what is remembered stays. New or changed values are written,
-- and then the values at each field are remembered.
pub record ListsAll (m : Remembered) (fixed : Bool) (columns : List Layout) (is : IdTrees) (ws : List FilledPlace) : Type 0 where
  pub have_ids : HaveIds (keyed_of (layouts columns) is)
  pub shared : AreShared (offer_of columns is).dictionaries
  pub kept : IsTrue fixed → AllByRecursion (λ p. AreKept (m p.id) p.values) (offer_of columns is).dictionaries
  pub lists : ListsUnwritten m (values_of (layouts columns) is) ws
  pub found : Finds (remembering_all ws m) (values_of (layouts columns) is)
  pub short : length ws ≤ length (values_of (layouts columns) is)

-- Why the dictionaries of a chunk are refused: fields of one id have different values, or an
-- array of keys has no id. Or the values remembered of an id must stay, and some field has
-- others; or an allocation failed.
abbrev pub RefusesAll : Remembered → Bool → List Layout → IdTrees → Fault → Type 0
RefusesAll m fixed columns is Memory = Unit {0}
RefusesAll m fixed columns is (Argument (SharedDictionary j)) = (d : Dictionary) → AllHave j d (values_of (layouts columns) is) → ⊥
RefusesAll m fixed columns is (Argument (DictionaryReplaced j)) =
    IsTrue fixed × (d : Dictionary) × (m j ≡ Some d) × (AllHave j d (values_of (layouts columns) is) → ⊥)
RefusesAll m fixed columns is (Argument FieldsShape) = HaveIds (keyed_of (layouts columns) is) → ⊥
RefusesAll m fixed columns is _ = ⊥

-- ---- while the arrays of a chunk are visited

-- The values under each id that the chunk had so far, and those to write.
pub record Seen : Type 0 where
  pub met : Remembered
  pub list : List FilledPlace

-- What a listing has so far.
abbrev pub seen : Listing → Seen
seen l = record {
  met = λ id. option_map (λ values. dictionary_of (layout_of values.value)) (hash.get int_eq l.met id);
  list = map listed l.list.items;
}

-- What will be remembered: the chunk's own values, or else those from before.
abbrev pub ahead : Remembered → Seen → ℤ → Option Dictionary
ahead m a id = option_or (a.met id) (m id)

-- The id had no values so far in the chunk, or these.
abbrev pub Fits : Seen → ℤ → Dictionary → Type 0
Fits a id d = (a.met id ≡ None) ⊎ (a.met id ≡ Some d)

-- Nothing is remembered under the id, or these values.
abbrev pub IsFree : Remembered → ℤ → Dictionary → Type 0
IsFree m id d = (m id ≡ None) ⊎ (m id ≡ Some d)

-- The values added to a list, and what will be remembered with it.
pub record Added (m : Remembered) (a b : Seen) (ps : List FilledPlace) : Type 0 where
  pub list : List FilledPlace
  pub list_is : b.list ≡ a.list ++ list
  pub lists : ListsUnwritten (ahead m a) ps list
  pub end : IsSameMemory (remembering_all list (ahead m a)) (ahead m b)

-- Some dictionary fields were visited. The values of earlier fields stay, and new ones may be
-- written. Values that all fields of an id have are still those of the id.
pub record Goes (m : Remembered) (fixed : Bool) (a b : Seen) (ps : List FilledPlace) : Type 0 where
  pub stays : (id : ℤ) (d : Dictionary) → a.met id ≡ Some d → b.met id ≡ Some d
  pub fresh : (id : ℤ) (d : Dictionary) → b.met id ≡ Some d → (a.met id ≡ Some d) ⊎ (IsTrue fixed → IsFree m id d)
  pub agree : (id : ℤ) (d : Dictionary) → AllHave id d ps → Fits a id d → Fits b id d
  pub found : Finds b.met ps
  pub added : Added m a b ps

-- Some arrays of keys were visited, each of which has an id.
pub record Listed (m : Remembered) (fixed : Bool) (a b : Seen) (ks : List Keyed) : Type 0 where
  pub have_ids : HaveIds ks
  pub goes : Goes m fixed a b (places_of ks)

-- Why some arrays of keys are refused, after others were visited.
abbrev pub Refuses : Remembered → Bool → Seen → List Keyed → Fault → Type 0
Refuses m fixed a ks Memory = Unit {0}
Refuses m fixed a ks (Argument (SharedDictionary j)) = (d : Dictionary) → AllHave j d (places_of ks) → Fits a j d → ⊥
Refuses m fixed a ks (Argument (DictionaryReplaced j)) = IsTrue fixed × (d : Dictionary) × (m j ≡ Some d) × (AllHave j d (places_of ks) → ⊥)
Refuses m fixed a ks (Argument FieldsShape) = HaveIds ks → ⊥
Refuses m fixed a ks _ = ⊥

-- A dictionary field, if its values must be written.
abbrev pub list_where : Bool → FilledPlace → List FilledPlace
list_where true p = p ∷ []
list_where false p = []

-- The values of an id that had none are recorded, and listed if they are new or changed.
pub record Meets (a b : Seen) (p : FilledPlace) (changed : Bool) : Type 0 where
  pub met : IsSameMemory (remembering p.id (dictionary_of p.values) a.met) b.met
  pub list : b.list ≡ a.list ++ list_where changed p
