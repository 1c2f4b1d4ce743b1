-- Arrays of structs, by their columns.
-- (Arrow columnar format, "Struct Layout".)
use Rattle.std.specs.Prelude.{◌≡◌, ℕ, ℤ, ◌+◌, List, [], ◌∷◌, Option}
use Rattle.lower.specs.TypeTrees.{TypeTree, FieldTrees}
use Rattle.lower_flat_arrays.specs.Validities.{Validity}
use Rattle.lower_arrays.specs.Layouts.{records, Layout, layout, Layouts, more_layouts, layouts}
use Rattle.ipc_model.specs.Kinds.{Kinds, all_nodes, all_buffers}
use Rattle.ipc_model.specs.Entries.{Entries, Limit}
use Rattle.ipc_model.specs.Columns.{AllHaveRows}
use Rattle.ipc_model.specs.ReadArrays.{arrays_at}
use Rattle.ipc_read_flat.specs.declared.read.body.Place.{Place}

-- An array of n structs with the columns cs.
abbrev pub records_layout : TypeTree → ℕ → Validity → List Layout → Layout
records_layout u n v cs = layout (record { type = u; len = n; validity = v; parts = records }) (layouts cs)

-- Some arrays, followed by others.
abbrev pub over : List Layout → Layouts → Layouts
over [] ls = ls
over (x ∷ xs) ls = more_layouts x (over xs ls)

-- The columns of `all` begin at position `start`; the last of them, `rest`, begin at p.
pub record Left (extra : ℕ) (all rest : Kinds) (start p : Place) : Type 0 where
  pub node : p.node + all_nodes rest ≡ start.node + all_nodes all
  pub buffer : p.buffer + all_buffers extra rest ≡ start.buffer + all_buffers extra all

-- The columns of these kinds from position p on are well formed, and k slots of each are read.
abbrev pub HaveRows : Entries → Kinds → Place → Limit → ℕ → Type 0
HaveRows s ts p limit k = AllHaveRows s ts p.node p.buffer limit k

-- xs are the arrays of the columns before the rest, which are well formed.
pub record SoFar (s : Entries) (vs : Option ℤ → Layout) (all rest : Kinds) (fs gs : FieldTrees) (start p : Place) (limit : Limit) (k : ℕ) (xs : List Layout) : Type 0 where
  pub on : HaveRows s all start limit k → HaveRows s rest p limit k
  pub back : HaveRows s rest p limit k → HaveRows s all start limit k
  pub same : over xs (arrays_at s vs rest gs p.node p.buffer limit) ≡ arrays_at s vs all fs start.node start.buffer limit
