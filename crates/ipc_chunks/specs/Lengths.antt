-- Dictionaries whose lengths fit in their messages.
-- (Arrow columnar format, "Dictionary messages"; the limits are those of signed 64-bit integers.)
use Rattle.std.specs.Prelude.{◌⊎◌, List, [], ◌∷◌, ◌++◌, Result, MatchResult, if◌then◌else◌}
use Rattle.std.specs.List.{AllByRecursion}
use Rattle.lower_arrays.specs.Layouts.{Layout, layout, Layouts, no_layouts, more_layouts}
use Rattle.ipc_devices.specs.declared.fault.Fault.{Fault}
use Rattle.ipc_encode.specs.Encoding.{levels_of}
use Rattle.ipc_model.specs.Accepted.{IsSayable, body_length}
use Rattle.ipc_model.specs.Offers.{FilledPlace, body_lengths, is_keyed}
use Rattle.ipc_plan.specs.Taking.{AreShort, RefusesLength}

-- ---- lengths

-- The lengths of some values fit in a message: the number of slots of each
-- level, and the length of the body.
pub record HasLengths (l : Layout) : Type 0 where
  pub short : AreShort (levels_of (l ∷ []))
  pub body : IsSayable (body_length (body_lengths (levels_of (l ∷ []))))

-- Why the lengths of some values don't fit in a message.
abbrev pub RefusesLengths : Layout → Fault → Type 0
RefusesLengths l e = RefusesLength (AreShort (levels_of (l ∷ []))) (body_length (body_lengths (levels_of (l ∷ [])))) e

-- The lengths of the values at each of these dictionary fields fit in a message.
abbrev pub HaveLengths : List FilledPlace → Type 0
HaveLengths ps = AllByRecursion (λ p. HasLengths p.values) ps

-- ---- the dictionaries of some arrays

-- The dictionary of an array itself, if the array is keys.
abbrev pub own_dictionaries : Layout → List Layout
own_dictionaries (layout h (more_layouts c cs)) = if is_keyed h.parts then c ∷ [] else []
own_dictionaries _ = []

abbrev mutual
  -- The dictionaries below an array, inner before outer.
  pub dictionaries_below : Layout → List Layout
  dictionaries_below (layout h cs) = if is_keyed h.parts then dictionaries_inside cs else dictionaries_in cs

  -- The dictionaries inside the values of a dictionary.
  pub dictionaries_inside : Layouts → List Layout
  dictionaries_inside no_layouts = []
  dictionaries_inside (more_layouts c cs) = dictionaries_below c

  -- The dictionaries in some arrays, inner before outer.
  pub dictionaries_in : Layouts → List Layout
  dictionaries_in no_layouts = []
  dictionaries_in (more_layouts c cs) = (dictionaries_below c ++ own_dictionaries c) ++ dictionaries_in cs

-- The lengths of one of these dictionaries don't fit in a message.
abbrev pub RefusesAnyLengths : List Layout → Fault → Type 0
RefusesAnyLengths [] e = ⊥
RefusesAnyLengths (l ∷ ls) e = RefusesLengths l e ⊎ RefusesAnyLengths ls e

-- The result is Ok exactly if the lengths of all dictionaries fit, unless an allocation fails.
abbrev pub AnswersLengths : Result Unit Fault → List Layout → Type 0
AnswersLengths r ls = MatchResult r (λ _. AllByRecursion HasLengths ls) (RefusesAnyLengths ls)
