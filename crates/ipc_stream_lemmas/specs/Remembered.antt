-- The dictionaries that a writer remembers, and the dictionary fields of a chunk. A
-- reader's list (latest first) and a writer's map are both seen as a function from ids to
-- values, and never compared as lists.
-- (Arrow columnar format, "Dictionary messages".)
use Rattle.std.specs.Prelude.{◌≡◌, ℤ, List, [], ◌∷◌, ◌++◌, Option, Some, None, if◌then◌else◌}
use Rattle.std.specs.Ordering.{int_eq}
use Rattle.lower.specs.Normal.{norm}
use Rattle.lower_arrays.specs.Layouts.{Layout, layout, Layouts, no_layouts, more_layouts, type_of}
use Rattle.lower_arrays.specs.Slots.{slots}
use Rattle.ipc_base.specs.IdTrees.{IdTrees}
use Rattle.ipc_model.specs.Entries.{Dictionary, Dictionaries, dictionary_at}
use Rattle.ipc_model.specs.Offers.{FilledPlace, is_keyed, own_id, inner_ids}
use Rattle.ipc_model.specs.TypeKinds.{first_ids, other_ids}

-- ---- what is remembered

-- The values under each id that has some.
abbrev pub Remembered : Type 0
Remembered = ℤ → Option Dictionary

-- No values are remembered.
abbrev pub nothing_remembered : ℤ → Option Dictionary
nothing_remembered id = None

-- What is remembered, with these values under one id.
abbrev pub remembering : ℤ → Dictionary → Remembered → ℤ → Option Dictionary
remembering id d m i = if int_eq id i then Some d else m i

-- An array of values as a dictionary: its type in the normal form, and its slots.
abbrev pub dictionary_of : Layout → Dictionary
dictionary_of l = record { type = norm (type_of l); slots = slots l }

-- A reader has exactly the values that are remembered.
pub record KnowsRemembered (m : Remembered) (known : Dictionaries) : Type 0 where
  pub each : (id : ℤ) → dictionary_at known id ≡ m id

-- ---- the dictionary fields of a chunk

-- A dictionary field, the ids inside its values, and the array of values that a chunk has there.
pub record Filled : Type 0 where
  pub id : ℤ
  pub ids : IdTrees
  pub values : Layout

-- A dictionary field with its values, without the inner ids.
abbrev pub filled_place : Filled → FilledPlace
filled_place p = record { id = p.id; values = p.values }

-- The dictionary field of an array's own keys, if it has an id.
abbrev pub own_filled : Layout → Option ℤ → IdTrees → List Filled
own_filled (layout h (more_layouts c cs)) (Some id) is = if is_keyed h.parts then record { id = id; ids = is; values = c } ∷ [] else []
own_filled _ _ _ = []

abbrev mutual
  -- The dictionary fields below an array; those inside the values of others come before them.
  pub filled_below : Layout → IdTrees → List Filled
  filled_below (layout h cs) is = if is_keyed h.parts then filled_inside cs is else filled_of cs is

  -- The dictionary fields inside a dictionary's values.
  pub filled_inside : Layouts → IdTrees → List Filled
  filled_inside no_layouts is = []
  filled_inside (more_layouts c cs) is = filled_below c is

  -- The dictionary fields of some arrays.
  pub filled_of : Layouts → IdTrees → List Filled
  filled_of no_layouts is = []
  filled_of (more_layouts c cs) is =
      filled_below c (inner_ids (first_ids is)) ++ own_filled c (own_id (first_ids is)) (inner_ids (first_ids is)) ++ filled_of cs (other_ids is)

-- The values at each of these fields are those that are remembered.
abbrev pub Finds : Remembered → List Filled → Type 0
Finds m [] = Unit {0}
Finds m (p ∷ ps) = (m p.id ≡ Some (dictionary_of p.values)) × Finds m ps
