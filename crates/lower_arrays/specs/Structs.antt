-- What contracts know of an array of structs.
-- (Arrow columnar format, "Struct Layout".)
use Rattle.std.specs.Prelude.{◌≡◌, ℕ, List, [], ◌∷◌, map, refl}
use Rattle.std.specs.Coded.{Coded, code_by, coded_list, coded_ℕ, coded×}
use Rattle.lower.specs.TypeTrees.{TypeTree}
use Rattle.lower.specs.Physical.{physical}
use Rattle.lower.specs.declared.datatypes.physical_type.PhysicalType.TheVariants.{Struct}
use Rattle.lower.specs.declared.error.Error.{Error}
use Rattle.lower.specs.declared.error.Error.TheVariants.{OutOfSpec}
use Rattle.lower.specs.declared.error.Rule.TheVariants.{ValidityLength, NoChild, ChildCount, ChildType, ChildLength, PhysicalType as WrongType}
use Rattle.lower_flat_arrays.specs.TypeCodes.{coded_type}
use Rattle.lower_flat_arrays.specs.Validities.{Validity, ValidityFits, cut_validity}
use Rattle.lower_arrays.specs.Layouts.{records, Layout, layout, layouts, len_of}
use Rattle.lower_arrays.specs.LayoutCodes.{coded_validity, coded_layout}
use Rattle.lower_arrays.specs.Children.{child_fields, field_count, child_count, ChildTypes, HasChild, AllHave}
use Rattle.lower_arrays.specs.Cuts.{cut}

-- The type, the length, the children and the validity of an array of structs.
pub record StructSeen : Type 0 where
  pub type : TypeTree
  pub len : ℕ
  pub children : List Layout
  pub validity : Validity

-- How many slots the first child has.
abbrev pub first_len : List Layout → ℕ
first_len [] = 0
first_len (c ∷ cs) = len_of c

-- An array of structs with these children: as many slots as the first child has.
abbrev pub struct_seen : TypeTree → List Layout → Validity → StructSeen
struct_seen t cs v = record { type = t; len = first_len cs; children = cs; validity = v }

-- How an array of structs is stored as a ghost value.
abbrev pub coded_struct_seen : Coded StructSeen
coded_struct_seen =
    code_by (TypeTree × (ℕ × (List Layout × Validity)))
    (coded× coded_type (coded× coded_ℕ (coded× (coded_list coded_layout) coded_validity)))
    (λ a. (a.type, (a.len, (a.children, a.validity))))
    (λ p. record { type = p.0; len = p.1.0; children = p.1.1.0; validity = p.1.1.1 }) (λ _. refl)

-- The layout of structs: slot i has slot i of each child.
abbrev pub struct_layout : StructSeen → Layout
struct_layout a = layout (record { type = a.type; len = a.len; validity = a.validity; parts = records }) (layouts a.children)

-- The array breaks the rule that the error names.
abbrev pub BreaksStruct : StructSeen → Error → Type 0
BreaksStruct a (OutOfSpec WrongType) = ¬ (physical a.type ≡ Struct)
BreaksStruct a (OutOfSpec NoChild) = ¬ (HasChild (layouts a.children))
BreaksStruct a (OutOfSpec ChildCount) = ¬ (child_count (layouts a.children) ≡ field_count (child_fields a.type))
BreaksStruct a (OutOfSpec ChildType) = ¬ (ChildTypes (child_fields a.type) (layouts a.children))
BreaksStruct a (OutOfSpec ChildLength) = ¬ (AllHave a.len (layouts a.children))
BreaksStruct a (OutOfSpec ValidityLength) = ¬ (ValidityFits a.validity a.len)
BreaksStruct a (OutOfSpec _) = ⊥

-- The n slots from index o on, of each child.
abbrev pub cut_struct : ℕ → ℕ → StructSeen → StructSeen
cut_struct o n a = record { type = a.type; len = n; children = map (cut o n) a.children; validity = cut_validity o n a.validity }
