-- The children that the slots of unions are in.
-- (Arrow columnar format, "Union Layout".)
use Rattle.std.specs.Prelude.{◌≡◌, ◌≢◌, ℕ, ℤ, pos, ◌+◌, ◌<◌, List, [], ◌∷◌, ◌++◌, get_or, set, length}
use Rattle.std.specs.List.{All}
use Rattle.lower_validation.specs.Ids.{child_number}
use Rattle.lower_arrays.specs.Layouts.{Layout, Parts, choices, level, children, len_of}
use Rattle.lower_arrays.specs.Choices.{child, no_child, place_in}
use Rattle.lower_compute.specs.declared.runs.Run.{Run}
use Rattle.lower_compute.specs.Runs.{origins}
use Rattle.lower_compute.specs.Copies.{AreWithin, each_child}

-- The number of the child that slot i is in.
abbrev pub number_of : Parts → ℕ → ℕ
number_of (choices ids ts os) i = child_number ids (get_or ts i (pos 0))
number_of _ i = 0

-- The index of slot i in its child.
abbrev pub index_in : Parts → ℕ → ℕ
index_in (choices ids ts os) i = place_in os i
index_in _ i = i

-- Offset i is that of the slot at place i, among the runs of the child that it is in.
abbrev pub IsOffsetOf : List Layout → List (List Run) → ℕ × ℕ → ℤ → Type 0
IsOffsetOf ls parts p z =
    (o : ℕ) × (z ≡ pos o) × (o < length (origins (get_or parts (number_of (level (get_or ls p.0 no_child)).parts p.1) [])))
    × (get_or (origins (get_or parts (number_of (level (get_or ls p.0 no_child)).parts p.1) [])) o (0, 0)
    ≡ (p.0, index_in (level (get_or ls p.0 no_child)).parts p.1))

-- Runs over each child, and the offsets among them of the slots at some places.
pub record AreDense (ls : List Layout) (ps : List (ℕ × ℕ)) (parts : List (List Run)) (os : List ℤ) : Type 0 where
  pub count : length os ≡ length ps
  pub each : (i : ℕ) → i < length ps → IsOffsetOf ls parts (get_or ps i (0, 0)) (get_or os i (pos 0))
  pub some : (k : ℕ) → All (λ run. 0 < run.len) (get_or parts k [])
  pub within : (k : ℕ) → AreWithin (each_child k ls) (get_or parts k [])

-- One place more among the runs over child k, whose number of places so far is its offset; `lens`
-- are the numbers of places of the children.
pub record IsPushed (k array index : ℕ) (os : List ℤ) (parts : List (List Run)) (lens : List ℕ)
    (os' : List ℤ) (parts' : List (List Run)) (lens' : List ℕ) : Type 0 where
  pub offset : os' ≡ os ++ pos (get_or lens k 0) ∷ []
  pub count : length parts' ≡ length parts
  pub others : (i : ℕ) → i ≢ k → get_or parts' i [] ≡ get_or parts i []
  pub here : origins (get_or parts' k []) ≡ origins (get_or parts k []) ++ (array, index) ∷ []
  pub some : All (λ run. 0 < run.len) (get_or parts k []) → All (λ run. 0 < run.len) (get_or parts' k [])
  pub more : lens' ≡ set lens k (get_or lens k 0 + 1)

-- What is recorded of the slots at some places of unions: their offsets, the runs over each of the
-- n children, and how many places these have.
pub record AreRecorded (ls : List Layout) (n : ℕ) (ps : List (ℕ × ℕ)) (os : List ℤ) (parts : List (List Run)) (lens : List ℕ) : Type 0 where
  pub count : length os ≡ length ps
  pub each : (i : ℕ) → i < length ps → IsOffsetOf ls parts (get_or ps i (0, 0)) (get_or os i (pos 0))
  pub some : (k : ℕ) → All (λ run. 0 < run.len) (get_or parts k [])
  pub low : (k : ℕ) → All (λ (p : ℕ × ℕ). (p.0 < length ls) × (p.1 < len_of (child (children (get_or ls p.0 no_child)) k))) (origins (get_or parts k []))
  pub lens_are : (k : ℕ) → k < n → get_or lens k 0 ≡ length (origins (get_or parts k []))
  pub parts_count : length parts ≡ n
  pub lens_count : length lens ≡ n
