-- Copies of the slots of arrays, run by run.
use Rattle.std.specs.Prelude.{◌≡◌, ℕ, ◌<◌, List, map, length, get_or}
use Rattle.std.specs.List.{All}
use Rattle.lower.specs.Normal.{norm}
use Rattle.lower_arrays.specs.Layouts.{Layout, children, len_of, type_of}
use Rattle.lower_arrays.specs.Slots.{IsArray, column_of}
use Rattle.lower_arrays.specs.Children.{child_count}
use Rattle.lower_arrays.specs.Choices.{child, no_child}
use Rattle.lower_compute.specs.declared.runs.Run.{Run}
use Rattle.lower_compute.specs.declared.error.ComputeError.{ComputeError}
use Rattle.lower_compute.specs.declared.error.ComputeError.TheVariants.{Memory, Overflow}
use Rattle.lower_compute.specs.Runs.{RunFits, column_of_runs}

-- The array l has the type of m, both in their normal form.
abbrev pub HasTypeOf : Layout → Layout → Type 0
HasTypeOf m l = norm (type_of l) ≡ norm (type_of m)

-- The arrays ls have the type of m.
abbrev pub AllHaveTypeOf : Layout → List Layout → Type 0
AllHaveTypeOf m ls = IsArray m × All IsArray ls × All (HasTypeOf m) ls

-- Each run is within its array.
abbrev pub AreWithin : List Layout → List Run → Type 0
AreWithin ls runs = All (RunFits (map len_of ls)) runs

-- The array l has the type of m, and the slots of each run, in order.
abbrev pub IsCopy : Layout → List Layout → List Run → Layout → Type 0
IsCopy m ls runs l = column_of l ≡ column_of_runs (type_of m) (map column_of ls) runs

-- Why there is no copy: an allocation fails, or a length, an offset or a key would be above the
-- maximum of its type.
abbrev pub NoCopy : ComputeError → Type 0
NoCopy Memory = Unit {0}
NoCopy Overflow = Unit {0}
NoCopy _ = ⊥

-- Child k of each array.
abbrev pub each_child : ℕ → List Layout → List Layout
each_child k ls = map (λ l. child (children l) k) ls

-- Each array has a child k.
abbrev pub HaveChild : ℕ → List Layout → Type 0
HaveChild k ls = All (λ l. k < child_count (children l)) ls

-- Each array has a child like each of ms, within which its runs are.
pub record HaveChildren (ms ls : List Layout) (runs : ℕ → List Run) : Type 0 where
  pub like : (k : ℕ) → k < length ms → AllHaveTypeOf (get_or ms k no_child) (each_child k ls)
  pub have : (k : ℕ) → k < length ms → HaveChild k ls
  pub within : (k : ℕ) → k < length ms → AreWithin (each_child k ls) (runs k)

-- Array k of cs is a copy of its runs of the children k.
pub record AreCopies (ms ls : List Layout) (runs : ℕ → List Run) (cs : List Layout) : Type 0 where
  pub count : length cs ≡ length ms
  pub each : (k : ℕ) → k < length ms → IsCopy (get_or ms k no_child) (each_child k ls) (runs k) (get_or cs k no_child)
