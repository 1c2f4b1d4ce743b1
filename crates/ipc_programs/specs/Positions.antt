-- Positions of columns.
use Rattle.std.specs.Prelude.{◌≡◌, ℕ, ◌<◌, ◌^◌, List, Option, None, Some, Vec}
use Rattle.std.specs.List.{AllByRecursion}
use Rattle.std.specs.declared.alloc.Global.{Global}
use Rattle.ipc_model.specs.Batches.{IsProjection}
use Rattle.ipc_projection.specs.ChosenColumns.{items_of}
use Rattle.ipc_programs.specs.CatWords.{positions_named}
use Rattle.ipc_programs.specs.declared.cat.chosen.Chosen.{Chosen}
use Rattle.ipc_programs.specs.declared.cat.chosen.Chosen.TheVariants.{Columns, Others}

-- The positions that an argument names; none if one of them is no number of 64 bits.
abbrev pub ArePositions : List ℕ → Option (Vec ℕ Global) → Type 0
ArePositions word None = ¬ AllByRecursion (λ j. j < 2 ^ 64) (positions_named word)
ArePositions word (Some positions) = positions.items ≡ positions_named word

-- Which of n columns are requested: all, or some, each once; else the request is wrong.
abbrev pub IsChoice : Option (List ℕ) → ℕ → Chosen → Type 0
IsChoice asked n (Columns projection) = (items_of projection ≡ asked) × IsProjection asked n
IsChoice asked n Others = ¬ IsProjection asked n
