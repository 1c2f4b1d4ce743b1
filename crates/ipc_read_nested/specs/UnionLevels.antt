-- The children of a dense union, each a column that is read as a whole.
-- (Arrow columnar format, "Dense Union".)
use Rattle.std.specs.Prelude.{◌≡◌, ℤ, List, Option, None}
use Rattle.lower.specs.TypeTrees.{FieldTrees}
use Rattle.lower_arrays.specs.Layouts.{Layout}
use Rattle.ipc_model.specs.Kinds.{Kinds}
use Rattle.ipc_model.specs.Entries.{Entries}
use Rattle.ipc_model.specs.Columns.{AllWell}
use Rattle.ipc_model.specs.ReadArrays.{arrays_at}
use Rattle.ipc_read_nested.specs.StructLevels.{over}
use Rattle.ipc_read_flat.specs.declared.read.body.Place.{Place}

-- The columns of these kinds from position p on are well formed as a whole.
abbrev pub AreWhole : Entries → Kinds → Place → Type 0
AreWhole s ts p = AllWell s ts p.node p.buffer

-- xs are the arrays of the columns before the rest, which are well formed.
pub record WholeSoFar (s : Entries) (vs : Option ℤ → Layout) (all rest : Kinds) (fs gs : FieldTrees) (start p : Place) (xs : List Layout) : Type 0 where
  pub on : AreWhole s all start → AreWhole s rest p
  pub back : AreWhole s rest p → AreWhole s all start
  pub same : over xs (arrays_at s vs rest gs p.node p.buffer None) ≡ arrays_at s vs all fs start.node start.buffer None
