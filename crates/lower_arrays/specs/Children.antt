-- What the children of an array must be.
-- (Arrow columnar format, "Variable-size List Layout", "Fixed-Size List Layout",
-- "Struct Layout", "Map Layout".)
use Rattle.std.specs.Prelude.{ℕ, ◌+◌, ◌≤◌, List, [], ◌∷◌}
use Rattle.lower.specs.TypeTrees.{TypeTree, FieldTrees}
use Rattle.lower_arrays.specs.Layouts.{Layouts, no_layouts, more_layouts, len_of, type_of}
use Rattle.lower_validation.specs.Places.{AllAre}
pub use Rattle.lower_validation.specs.Fields.{child_fields, field_type, field_count, FieldTypes, IsPair}

-- How many children there are.
abbrev pub child_count : Layouts → ℕ
child_count no_layouts = 0
child_count (more_layouts c cs) = child_count cs + 1

-- The types of the children.
abbrev pub types_of : Layouts → List TypeTree
types_of no_layouts = []
types_of (more_layouts c cs) = type_of c ∷ types_of cs

-- There is a child for each field, of its type.
abbrev pub ChildTypes : FieldTrees → Layouts → Type 0
ChildTypes fs cs = FieldTypes fs (types_of cs)

-- There is a child.
abbrev pub HasChild : Layouts → Type 0
HasChild no_layouts = ⊥
HasChild (more_layouts _ _) = Unit {0}

-- The lengths of the children.
abbrev pub lens_of : Layouts → List ℕ
lens_of no_layouts = []
lens_of (more_layouts c cs) = len_of c ∷ lens_of cs

-- Each child has n slots.
abbrev pub AllHave : ℕ → Layouts → Type 0
AllHave n cs = AllAre n (lens_of cs)

-- Each child has at least n slots.
abbrev pub AllReach : ℕ → Layouts → Type 0
AllReach n no_layouts = Unit {0}
AllReach n (more_layouts c cs) = (n ≤ len_of c) × AllReach n cs

-- The slots of each child are pairs.
abbrev pub ArePairs : Layouts → Type 0
ArePairs no_layouts = Unit {0}
ArePairs (more_layouts c cs) = IsPair (type_of c) × ArePairs cs
