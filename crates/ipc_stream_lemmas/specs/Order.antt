-- The order in which the dictionaries of a chunk are written.
-- (Arrow columnar format, "Dictionary messages".)
use Rattle.std.specs.Prelude.{◌≡◌, ◌⊎◌, ℤ, List, [], ◌∷◌, Some}
use Rattle.lower_arrays.specs.Layouts.{Layout, layouts}
use Rattle.ipc_base.specs.IdTrees.{IdTrees}
use Rattle.ipc_stream_lemmas.specs.Remembered.{Remembered, remembering, dictionary_of, Filled, filled_below, filled_of, Finds}

-- At each dictionary field the values are written, or they are remembered; `ws` are the fields
-- whose values are written, in order.
abbrev pub Chooses : Remembered → List Filled → List Filled → Remembered → Type 0
Chooses m [] ws after = (ws ≡ []) × ((i : ℤ) → after i ≡ m i)
Chooses m (p ∷ ps) ws after =
    ((m p.id ≡ Some (dictionary_of p.values)) × Chooses m ps ws after)
    ⊎ ((rest : List Filled) × (ws ≡ p ∷ rest) × Chooses (remembering p.id (dictionary_of p.values) m) ps rest after)

-- When the values of a field are written, the values inside them are remembered.
abbrev pub InOrder : Remembered → List Filled → Remembered → Type 0
InOrder m [] after = (i : ℤ) → after i ≡ m i
InOrder m (p ∷ ps) after = Finds m (filled_below p.values p.ids) × InOrder (remembering p.id (dictionary_of p.values) m) ps after

-- Fields of one id have the same values: those of some map.
abbrev pub AreConsistent : List Filled → Type 0
AreConsistent ps = (v : Remembered) × Finds v ps

-- The values are written in order, and afterwards those of all fields are remembered.
pub record IsOrdered (before : Remembered) (ps ws : List Filled) (after : Remembered) : Type 0 where
  pub ordered : InOrder before ws after
  pub found : Finds after ps

-- Theorem: the dictionary fields of a chunk are in order, inner before outer, whichever are left
-- out because their values are remembered.
abbrev pub InnerFirstLaw : Type 0
InnerFirstLaw = (columns : List Layout) (is : IdTrees) (before after : Remembered) (ws : List Filled) → AreConsistent (filled_of (layouts columns) is)
    → Chooses before (filled_of (layouts columns) is) ws after → IsOrdered before (filled_of (layouts columns) is) ws after
