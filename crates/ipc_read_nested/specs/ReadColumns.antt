-- The array that a column is read to.
-- (Arrow columnar format, "Physical Memory Layout".)
use Rattle.std.specs.Prelude.{◌≡◌, ℕ, ℤ, Option}
use Rattle.lower.specs.TypeTrees.{TypeTree}
use Rattle.lower_arrays.specs.Layouts.{Layout, type_of}
use Rattle.lower_arrays.specs.Slots.{slots}
use Rattle.ipc_model.specs.Kinds.{Kind}
use Rattle.ipc_model.specs.Entries.{Entries, Limit}
use Rattle.ipc_model.specs.Columns.{column}
use Rattle.ipc_model.specs.ReadArrays.{array_at}

-- x is the array that the column of kind t at node a and buffer b is read to; `vs` gives the arrays
-- of the dictionaries' values. It has the type u, and the slots of the column up to the limit.
pub record IsColumn (s : Entries) (vs : Option ℤ → Layout) (t : Kind) (u : TypeTree) (a b : ℕ) (limit : Limit) (x : Layout) : Type 0 where
  pub array : x ≡ array_at s vs t u a b limit
  pub type : type_of x ≡ u
  pub slots : slots x ≡ column s t a b limit
