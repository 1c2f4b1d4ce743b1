-- The items of runs: some items of one list, then some of another, and so on.
use Rattle.std.specs.Prelude.{◌≡◌, ℕ, ◌+◌, ◌-◌, ◌*◌, ◌<◌, ◌≤◌, List, [], ◌∷◌, Bool, true, Some, None, get_or, length, map, replicate, slice_index}
use Rattle.std.specs.List.{flat_map, range_with_len}
use Rattle.lower.specs.TypeTrees.{TypeTree}
use Rattle.lower_flat_arrays.specs.Validities.{Validity, is_valid, part, ValidityFits, ValidityHolds}
use Rattle.lower_flat_arrays.specs.Columns.{Column}
use Rattle.lower_flat_arrays.specs.Spans.{span_count}
use Rattle.lower_builders.specs.Growing.{offsets_by_lengths}
use Rattle.lower_compute.specs.declared.runs.Run.{Run}

-- A run is within its list; `lens` are the lengths of the lists.
abbrev pub RunFits : List ℕ → Run → Type 0
RunFits lens run = (run.array < length lens) × (run.offset + run.len ≤ slice_index lens run.array)

-- The items of a run: `len` items from index `offset` on, of the list with the index `array`.
abbrev pub items_of_run : {A : Type 0} → List (List A) → Run → List A
items_of_run lists run = part run.offset run.len (get_or lists run.array [])

-- The items of each run, in order.
abbrev pub items_of_runs : {A : Type 0} → List (List A) → List Run → List A
items_of_runs lists runs = flat_map (items_of_run lists) runs

-- A column of this type that has the slots of each run, in order.
abbrev pub column_of_runs : TypeTree → List Column → List Run → Column
column_of_runs t columns runs = record { type = t; slots = items_of_runs (map (λ c. c.slots) columns) runs }

-- Where the slots of a run are from: for each the index of the array, and the index in the array.
abbrev pub origins_of_run : Run → List (ℕ × ℕ)
origins_of_run run = map (λ k. (run.array, k)) (range_with_len run.offset run.len)

-- Where the slots of each run are from, in order.
abbrev pub origins : List Run → List (ℕ × ℕ)
origins runs = flat_map origins_of_run runs

-- Where slot i of the result is from.
abbrev pub origin_at : List Run → ℕ → ℕ × ℕ
origin_at runs i = get_or (origins runs) i (0, 0)

-- The run of one slot of the first array.
abbrev pub single : ℕ → Run
single i = record { array = 0; offset = i; len = 1 }

-- The n bits from index o on; all are set if there is no validity.
abbrev pub valid_bits : Validity → ℕ → ℕ → List Bool
valid_bits None o n = replicate n true
valid_bits (Some bits) o n = part o n bits

-- A run is within its bits.
abbrev pub BitsFit : List Validity → Run → Type 0
BitsFit vs run = (run.array < length vs) × ValidityHolds (get_or vs run.array None) (run.offset + run.len)

-- The bits of a run.
abbrev pub bits_of_run : List Validity → Run → List Bool
bits_of_run vs run = valid_bits (get_or vs run.array None) run.offset run.len

-- The bits of each run, in order.
abbrev pub bits_of_runs : List Validity → List Run → List Bool
bits_of_runs vs runs = flat_map (bits_of_run vs) runs

-- A validity of the slots of the runs: each is valid if it is where it is from.
pub record IsValidityOf (vs : List Validity) (runs : List Run) (v : Validity) : Type 0 where
  pub fits : ValidityFits v (length (origins runs))
  pub each : (i : ℕ) → i < length (origins runs) → is_valid v i ≡ is_valid (get_or vs (origin_at runs i).0 None) (origin_at runs i).1

-- The run over the items of a run's slots, each of which has `size` items.
abbrev pub scaled : ℕ → Run → Run
scaled size run = record { array = run.array; offset = run.offset * size; len = run.len * size }

-- How many items each slot has between neighbouring offsets.
abbrev pub widths : List ℕ → List ℕ
widths os = map (λ i. slice_index os (i + 1) - slice_index os i) (range_with_len 0 (span_count os))

-- The run over the items of a run's slots, which are between offsets.
abbrev pub run_between : List ℕ → Run → Run
run_between os run = record {
  array = run.array;
  offset = slice_index os run.offset;
  len = slice_index os (run.offset + run.len) - slice_index os run.offset;
}

-- The run over the items of a run's slots; `oss` are the offsets of the arrays.
abbrev pub run_of_items : List (List ℕ) → Run → Run
run_of_items oss run = run_between (get_or oss run.array []) run

-- The offsets of the slots of runs, from 0.
abbrev pub offsets_of_runs : List (List ℕ) → List Run → List ℕ
offsets_of_runs oss runs = offsets_by_lengths (items_of_runs (map widths oss) runs)

-- A run over each list as a whole; the first list has the index k.
abbrev pub whole_runs : ℕ → List ℕ → List Run
whole_runs k [] = []
whole_runs k (n ∷ ns) = record { array = k; offset = 0; len = n } ∷ whole_runs (k + 1) ns
