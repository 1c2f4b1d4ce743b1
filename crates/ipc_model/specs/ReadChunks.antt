-- The arrays that a batch is read to: each has its column's type, slots and variant of `AnyArray`.
-- At the dictionary fields the arrays have the values that are known.
-- (Arrow columnar format, "RecordBatch message" and "Dictionary messages".)
use Rattle.std.specs.Prelude.{◌≡◌, ℕ, zero, suc, ℤ, List, [], ◌∷◌, ◌++◌, if◌then◌else◌, Option, Some, None}
use Rattle.std.specs.List.{AllByRecursion}
use Rattle.std.specs.Option.{option_map}
use Rattle.lower.specs.TypeTrees.{TypeTree}
use Rattle.lower_arrays.specs.Cases.{HasListCases}
use Rattle.lower_arrays.specs.Layouts.{Layout, layout, Layouts, no_layouts, more_layouts, type_of}
use Rattle.lower_arrays.specs.Slots.{slots}
use Rattle.ipc_base.specs.IdTrees.{IdTree, ids, IdTrees, no_ids, more_ids}
use Rattle.ipc_model.specs.Batches.{Column, Chunk}
use Rattle.ipc_model.specs.Columns.{IsWell}
use Rattle.ipc_model.specs.Entries.{Entries, Dictionaries, dictionary_at, Limit}
use Rattle.ipc_model.specs.Offers.{FilledPlace, is_keyed, own_values, own_id, inner_ids}
use Rattle.ipc_model.specs.ReadArrays.{array_at, AreValues}
use Rattle.ipc_model.specs.TypeKinds.{kind_of, first_ids, other_ids}

abbrev mutual
  -- The values at the dictionary fields of some arrays, without those inside
  -- the values of other dictionaries.
  pub outer_values : Layouts → IdTrees → List FilledPlace
  outer_values no_layouts is = []
  outer_values (more_layouts c cs) is =
      own_values c (own_id (first_ids is)) ++ outer_below c (inner_ids (first_ids is)) ++ outer_values cs (other_ids is)

  -- The values at the dictionary fields below an array, without those inside
  -- the values of other dictionaries.
  pub outer_below : Layout → IdTrees → List FilledPlace
  outer_below (layout h cs) is = if is_keyed h.parts then [] else outer_values cs is

-- The values at the dictionary fields of one column.
abbrev pub values_at : Layout → IdTree → List FilledPlace
values_at l i = outer_values (more_layouts l no_layouts) (more_ids i no_ids)

-- The values at a dictionary field have the slots that are known under its id.
abbrev pub IsKnown : Dictionaries → FilledPlace → Type 0
IsKnown known p = option_map (λ d. d.slots) (dictionary_at known p.id) ≡ Some (slots p.values)

-- An array has a column's type and slots. It is List where offsets have 32 bits, and
-- LargeList where they have 64. At each dictionary field that isn't inside other values it
-- has the values that are known.
pub record IsArrayOf (known : Dictionaries) (i : IdTree) (c : Column) (l : Layout) : Type 0 where
  pub type : type_of l ≡ c.type
  pub slots_are : slots l ≡ c.slots
  pub cases : HasListCases l
  pub values : AllByRecursion (IsKnown known) (values_at l i)

-- The ids of column j.
abbrev pub ids_at : IdTrees → ℕ → IdTree
ids_at no_ids j = ids None no_ids
ids_at (more_ids i is) zero = i
ids_at (more_ids i is) (suc j) = ids_at is j

-- There is an array of each chosen column of a batch, with the
-- column's type, slots and known values.
abbrev pub HaveMeaning : Dictionaries → IdTrees → List ℕ → Chunk → List Layout → Type 0
HaveMeaning known is [] [] [] = Unit {0}
HaveMeaning known is (j ∷ js) (c ∷ cs) (l ∷ ls) = IsArrayOf known (ids_at is j) c l × HaveMeaning known is js cs ls
HaveMeaning known is _ _ _ = ⊥

-- At its dictionary fields, the array that a well formed column is read to
-- has the values that are known.
abbrev pub ReadValuesLaw : Type 0
ReadValuesLaw = (s : Entries) (vs : Option ℤ → Layout) (t u : TypeTree) (id : Option ℤ) (is : IdTrees) (a b : ℕ) (limit : Limit) → AreValues s vs
    → IsWell s (kind_of t id is) a b limit
    → AllByRecursion (IsKnown s.dictionaries) (values_at (array_at s vs (kind_of t id is) u a b limit) (ids id is))
