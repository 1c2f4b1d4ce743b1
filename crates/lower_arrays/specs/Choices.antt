-- The slots of a union: the child that each is in, and its index there.
-- (Arrow columnar format, "Union Layout".)
use Rattle.std.specs.Prelude.{◌≡◌, ℕ, ℤ, pos, ◌<◌, ◌≤◌, List, Option, Some, None, get_or, length}
use Rattle.std.proofs.Common.{zero, suc}
use Rattle.lower.specs.TypeTrees.{TypeTree, plain, null}
use Rattle.lower.specs.Physical.{physical}
use Rattle.lower.specs.declared.datatypes.physical_type.PhysicalType.TheVariants.{Union}
use Rattle.lower_arrays.specs.Layouts.{nothing, Layout, layout, Layouts, no_layouts, more_layouts}
use Rattle.lower_arrays.specs.Children.{child_fields, child_count, lens_of, ChildTypes}
use Rattle.lower_validation.specs.Keys.{place_of}
use Rattle.lower_validation.specs.Ids.{TypeIds, union_ids, union_mode, IdsFit, AreNamed, OffsetsGiven}
use Rattle.lower_validation.specs.Places.{PlacesFit}

-- An array without slots, for a child that doesn't exist.
abbrev pub no_child : Layout
no_child = layout (record { type = plain null; len = 0; validity = None; parts = nothing }) no_layouts

-- Child k; an array without slots if there is none.
abbrev pub child : Layouts → ℕ → Layout
child no_layouts k = no_child
child (more_layouts c cs) zero = c
child (more_layouts c cs) (suc k) = child cs k

-- The index of slot i in its child.
abbrev pub place_in : Option (List ℤ) → ℕ → ℕ
place_in None i = i
place_in (Some os) i = place_of (get_or os i (pos 0))

-- The rules of a union of the type t: its type ids, the ids and the offsets
-- of its slots, and its children.
pub record ChoicesFit (t : TypeTree) (zs : TypeIds) (ts : List ℤ) (os : Option (List ℤ)) (cs : Layouts) : Type 0 where
  pub lies : physical t ≡ Union
  pub named : zs ≡ union_ids t
  pub some : 0 < child_count cs
  pub few : child_count cs ≤ 127
  pub types : ChildTypes (child_fields t) cs
  pub ids : IdsFit zs (child_count cs)
  pub names : AreNamed zs ts (child_count cs)
  pub given : OffsetsGiven (union_mode t) os (length ts)
  pub places : PlacesFit zs ts os (lens_of cs)
