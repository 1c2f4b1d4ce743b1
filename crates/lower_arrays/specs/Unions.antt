-- What contracts know of an array whose slots are of several types.
-- (Arrow columnar format, "Union Layout".)
use Rattle.std.specs.Prelude.{◌≡◌, ℕ, ℤ, List, Option, Some, None, option_map, map, length, refl}
use Rattle.std.specs.Coded.{Coded, code_by, coded_list, coded_ℤ, coded_option, coded×}
use Rattle.lower.specs.TypeTrees.{TypeTree}
use Rattle.lower.specs.Physical.{physical}
use Rattle.lower.specs.declared.datatypes.physical_type.PhysicalType.TheVariants.{Union}
use Rattle.lower.specs.declared.error.Error.{Error}
use Rattle.lower.specs.declared.error.Error.TheVariants.{OutOfSpec}
use Rattle.lower.specs.declared.error.Rule.TheVariants.{ChildCount, ChildType, ChildLength, UnionChildren, UnionIds, UnionType, UnionOffsets, UnionOffset, PhysicalType as WrongType}
use Rattle.lower_flat_arrays.specs.TypeCodes.{coded_type}
use Rattle.lower_flat_arrays.specs.Validities.{part}
use Rattle.lower_arrays.specs.Layouts.{choices, Layout, layout, layouts}
use Rattle.lower_arrays.specs.LayoutCodes.{coded_layout}
use Rattle.lower_arrays.specs.Children.{child_fields, field_count, child_count, lens_of, ChildTypes}
use Rattle.lower_validation.specs.Ids.{union_ids, union_mode, IdsFit, AreNamed, OffsetsGiven}
use Rattle.lower_validation.specs.Places.{PlacesFit}
use Rattle.lower_validation.specs.Rules.{IsCount}
use Rattle.lower_arrays.specs.Choices.{ChoicesFit}
use Rattle.lower_arrays.specs.Slots.{AreArrays}
use Rattle.lower_arrays.specs.Cuts.{cut}

-- The type of a union array, the type ids of its slots, their offsets if
-- it is dense, and its children.
pub record UnionSeen : Type 0 where
  pub type : TypeTree
  pub types : List ℤ
  pub offsets : Option (List ℤ)
  pub children : List Layout

-- What contracts know of a union array with these parts.
abbrev pub union_seen : TypeTree → List ℤ → List Layout → Option (List ℤ) → UnionSeen
union_seen t ts cs os = record { type = t; types = ts; offsets = os; children = cs }

-- How a union array is stored as a ghost value.
abbrev pub coded_union : Coded UnionSeen
coded_union =
    code_by (TypeTree × (List ℤ × (Option (List ℤ) × List Layout)))
    (coded× coded_type (coded× (coded_list coded_ℤ) (coded× (coded_option (coded_list coded_ℤ)) (coded_list coded_layout))))
    (λ a. (a.type, (a.types, (a.offsets, a.children))))
    (λ p. record { type = p.0; types = p.1.0; offsets = p.1.1.0; children = p.1.1.1 }) (λ _. refl)

-- The layout of a union. It has no validity: a slot is null if that of its child is.
abbrev pub union_layout : UnionSeen → Layout
union_layout a =
    layout
    (record { type = a.type; len = length a.types; validity = None; parts = choices (union_ids a.type) a.types a.offsets })
    (layouts a.children)

-- A union array keeps its rules, and its children are arrays.
pub record IsUnion (a : UnionSeen) : Type 0 where
  pub fits : ChoicesFit a.type (union_ids a.type) a.types a.offsets (layouts a.children)
  pub arrays : AreArrays (layouts a.children)

-- The array breaks the rule that the error names.
abbrev pub BreaksUnion : UnionSeen → Error → Type 0
BreaksUnion a (OutOfSpec WrongType) = ¬ (physical a.type ≡ Union)
BreaksUnion a (OutOfSpec UnionChildren) = ¬ (IsCount (child_count (layouts a.children)))
BreaksUnion a (OutOfSpec ChildCount) = ¬ (child_count (layouts a.children) ≡ field_count (child_fields a.type))
BreaksUnion a (OutOfSpec ChildType) = ¬ (ChildTypes (child_fields a.type) (layouts a.children))
BreaksUnion a (OutOfSpec UnionIds) = ¬ (IdsFit (union_ids a.type) (child_count (layouts a.children)))
BreaksUnion a (OutOfSpec UnionType) = ¬ (AreNamed (union_ids a.type) a.types (child_count (layouts a.children)))
BreaksUnion a (OutOfSpec UnionOffsets) = ¬ (OffsetsGiven (union_mode a.type) a.offsets (length a.types))
BreaksUnion a (OutOfSpec ChildLength) = ¬ (PlacesFit (union_ids a.type) a.types a.offsets (lens_of (layouts a.children)))
BreaksUnion a (OutOfSpec UnionOffset) = ¬ (PlacesFit (union_ids a.type) a.types a.offsets (lens_of (layouts a.children)))
BreaksUnion a (OutOfSpec _) = ⊥

-- The children of n slots from index o on: for a sparse union their slots, for
-- a dense one the same children.
abbrev pub cut_fields : ℕ → ℕ → Option (List ℤ) → List Layout → List Layout
cut_fields o n None cs = map (cut o n) cs
cut_fields o n (Some os) cs = cs

-- The n slots of a union from index o on.
abbrev pub cut_union : ℕ → ℕ → UnionSeen → UnionSeen
cut_union o n a = record {
  type = a.type;
  types = part o n a.types;
  offsets = option_map (λ xs. part o n xs) a.offsets;
  children = cut_fields o n a.offsets a.children;
}
