-- The dictionaries in some columns, inner before outer.
-- (Arrow columnar format, "Dictionary messages".)
use Rattle.std.specs.Prelude.{◌≡◌, ℤ, List, [], ◌∷◌, ◌++◌, map, Option, Some, None, IsSome, if◌then◌else◌}
use Rattle.std.specs.List.{AllByRecursion, flat_map}
use Rattle.lower_arrays.specs.AnyLayouts.{layout_of}
use Rattle.lower_arrays.specs.Layouts.{Layout, layout, Layouts, layouts, no_layouts, more_layouts}
use Rattle.lower_arrays.specs.declared.array.AnyArray.{AnyArray}
use Rattle.ipc_base.specs.IdTrees.{IdTrees}
use Rattle.ipc_model.specs.Entries.{Dictionary}
use Rattle.ipc_model.specs.Offers.{FilledPlace, is_keyed, own_id, inner_ids}
use Rattle.ipc_model.specs.TypeKinds.{first_ids, other_ids}
use Rattle.ipc_tracker.specs.Trackers.{Remembered, dictionary_of}

-- An array of keys: its id, if it has one, and its values.
pub record Keyed : Type 0 where
  pub id : Option ℤ
  pub values : Layout

-- The array itself, if it is keys.
abbrev pub own_keyed : Layout → Option ℤ → List Keyed
own_keyed (layout h (more_layouts c cs)) id = if is_keyed h.parts then record { id = id; values = c } ∷ [] else []
own_keyed _ _ = []

abbrev mutual
  -- The arrays of keys below an array, inner before outer.
  pub keyed_below : Layout → IdTrees → List Keyed
  keyed_below (layout h cs) is = if is_keyed h.parts then keyed_inside cs is else keyed_of cs is

  -- The arrays of keys inside a dictionary's values.
  pub keyed_inside : Layouts → IdTrees → List Keyed
  keyed_inside no_layouts is = []
  keyed_inside (more_layouts c cs) is = keyed_below c is

  -- The arrays of keys in some arrays.
  pub keyed_of : Layouts → IdTrees → List Keyed
  keyed_of no_layouts is = []
  keyed_of (more_layouts c cs) is =
      (keyed_below c (inner_ids (first_ids is)) ++ own_keyed c (own_id (first_ids is))) ++ keyed_of cs (other_ids is)

-- None of these arrays is one of keys, nor any below them.
abbrev pub HaveNoKeys : List AnyArray → Type 0
HaveNoKeys xs = (is : IdTrees) → keyed_of (layouts (map layout_of xs)) is ≡ []

-- Each array of keys has an id.
abbrev pub HaveIds : List Keyed → Type 0
HaveIds ks = AllByRecursion (λ k. IsSome k.id) ks

-- The dictionary field of an id and its values; none without an id.
abbrev pub place_with : Option ℤ → Layout → List FilledPlace
place_with None l = []
place_with (Some id) l = record { id = id; values = l } ∷ []

-- The dictionary fields of the arrays of keys that have an id.
abbrev pub places_of : List Keyed → List FilledPlace
places_of ks = flat_map (λ k. place_with k.id k.values) ks

-- The values at each of these fields are those that are remembered.
abbrev pub Finds : Remembered → List FilledPlace → Type 0
Finds m ps = AllByRecursion (λ p. m p.id ≡ Some (dictionary_of p.values)) ps

-- Each field of an id has these values.
abbrev pub AllHave : ℤ → Dictionary → List FilledPlace → Type 0
AllHave id d ps = AllByRecursion (λ p. p.id ≡ id → dictionary_of p.values ≡ d) ps
