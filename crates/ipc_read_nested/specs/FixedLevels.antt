-- Arrays of fixed-size lists, by their child.
-- (Arrow columnar format, "Fixed-Size List Layout".)
use Rattle.std.specs.Prelude.{ℕ}
use Rattle.lower.specs.TypeTrees.{TypeTree}
use Rattle.lower_flat_arrays.specs.Validities.{Validity}
use Rattle.lower_arrays.specs.Layouts.{fixed_lists, Layout, layout, no_layouts, more_layouts}

-- An array of n lists of `size` slots of c each.
abbrev pub sized_layout : TypeTree → ℕ → ℕ → Validity → Layout → Layout
sized_layout u n size v c = layout (record { type = u; len = n; validity = v; parts = fixed_lists size }) (more_layouts c no_layouts)
