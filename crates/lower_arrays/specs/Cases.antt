-- The variant of AnyArray that arrays of lists have.
-- (Arrow columnar format, "Variable-size List Layout": List has 32-bit offsets,
-- LargeList has 64-bit offsets.)
use Rattle.std.specs.Prelude.{◌≡◌}
use Rattle.lower_arrays.specs.Layouts.{Parts, lists, keys, Layout, layout, Layouts, no_layouts, more_layouts}

-- The variant names the type of offsets that the lists have.
abbrev pub FitsOffsets : Parts → Type 0
FitsOffsets (lists named p os) = named ≡ p
FitsOffsets _ = Unit {0}

-- A condition on the children; none on the values of a dictionary.
abbrev pub unless_keyed : Parts → Type 0 → Type 0
unless_keyed (keys k ks) below = Unit {0}
unless_keyed _ below = below

abbrev mutual
  -- List has 32-bit offsets, and LargeList 64-bit offsets, at every level but
  -- in the values of dictionaries.
  pub HasListCases : Layout → Type 0
  HasListCases (layout h cs) = FitsOffsets h.parts × unless_keyed h.parts (HaveListCases cs)

  -- In these arrays List has 32-bit offsets, and LargeList 64-bit offsets, at every level but
  -- in the values of dictionaries.
  pub HaveListCases : Layouts → Type 0
  HaveListCases no_layouts = Unit {0}
  HaveListCases (more_layouts c cs) = HasListCases c × HaveListCases cs
