-- The keys of dictionaries whose values are parts of one array.
-- (Arrow columnar format, "Dictionary-encoded Layout".)
use Rattle.std.specs.Prelude.{◌≡◌, ℕ, pos, ◌+◌, ◌<◌, ◌≤◌, List, [], ◌∷◌, cond, get_or, length, map}
use Rattle.std.specs.List.{range_with_len}
use Rattle.lower_flat_arrays.specs.Validities.{is_valid}
use Rattle.lower_validation.specs.Keys.{place_of}
use Rattle.lower_arrays.specs.Layouts.{Layout, len_of}
use Rattle.lower_arrays.specs.Slots.{slot_at}
use Rattle.lower_arrays.specs.Dictionaries.{DictionarySeen}

-- The index of the value of slot i, if the values begin at index `start`; 0 if the key is null.
abbrev pub value_place : ℕ → DictionarySeen → ℕ → ℕ
value_place start a i = cond (is_valid a.keys.validity i) (start + place_of (get_or a.keys.integers i (pos 0))) 0

-- The indices of the values of all slots.
abbrev pub value_places : ℕ → DictionarySeen → List ℕ
value_places start a = map (value_place start a) (range_with_len 0 (length a.keys.integers))

-- The values of the dictionary are those of `all` from index `start` on.
abbrev pub BeginsAt : Layout → ℕ → DictionarySeen → Type 0
BeginsAt all start a = (start + len_of a.values ≤ len_of all) × ((i : ℕ) → i < len_of a.values → slot_at all (start + i) ≡ slot_at a.values i)

-- The dictionaries, each with the index at which its values begin if they follow one another.
abbrev pub one_after_other : ℕ → List DictionarySeen → List (ℕ × DictionarySeen)
one_after_other start [] = []
one_after_other start (a ∷ ds) = (start, a) ∷ one_after_other (start + len_of a.values) ds
