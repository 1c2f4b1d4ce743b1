-- What filter, take and concatenate return.
use Rattle.std.specs.Prelude.{◌≡◌, ◌≢◌, ℕ, ◌<◌, ◌≤◌, List, [], ◌∷◌, map, length, get_or, slice_index}
use Rattle.std.specs.List.{flat_map}
use Rattle.lower_flat_arrays.specs.Booleans.{BooleanSeen}
use Rattle.lower_flat_arrays.specs.Columns.{Column}
use Rattle.lower_arrays.specs.Layouts.{Layout, len_of, type_of}
use Rattle.lower_arrays.specs.Slots.{slot_at, slots}
use Rattle.lower_compute.specs.declared.error.ComputeError.{ComputeError}
use Rattle.lower_compute.specs.declared.error.ComputeError.TheVariants.{Length, Index, «Type» as Types, NothingGiven}
use Rattle.lower_compute.specs.Selections.{true_indices}
use Rattle.lower_compute.specs.Copies.{NoCopy}

-- A column of the slots at these indices, in this order.
abbrev pub taken_column : List ℕ → Layout → Column
taken_column indices l = record { type = type_of l; slots = map (slot_at l) indices }

-- A column of the slots at which the mask is true; a null is false.
abbrev pub filtered_column : BooleanSeen → Layout → Column
filtered_column mask l = taken_column (true_indices mask) l

-- The column has the type of the first array, and the slots of each, in order.
abbrev pub IsJoined : List Layout → Column → Type 0
IsJoined [] c = ⊥
IsJoined (l ∷ ls) c = c ≡ record { type = type_of l; slots = flat_map slots (l ∷ ls) }

-- Why nothing is filtered.
abbrev pub CauseFilter : BooleanSeen → Layout → ComputeError → Type 0
CauseFilter mask l Length = length mask.values ≢ len_of l
CauseFilter mask l e = NoCopy e

-- Why nothing is taken.
abbrev pub CauseTake : List ℕ → Layout → ComputeError → Type 0
CauseTake indices l (Index k) = (k < length indices) × (len_of l ≤ slice_index indices k)
CauseTake indices l e = NoCopy e

-- The arrays have one type.
abbrev pub ShareType : List Layout → Type 0
ShareType ls = (i j : ℕ) (d : Layout) → i < length ls → j < length ls → type_of (get_or ls i d) ≡ type_of (get_or ls j d)

-- Why nothing is concatenated.
abbrev pub CauseConcatenate : List Layout → ComputeError → Type 0
CauseConcatenate ls NothingGiven = ls ≡ []
CauseConcatenate ls Types = ¬ (ShareType ls)
CauseConcatenate ls e = NoCopy e
