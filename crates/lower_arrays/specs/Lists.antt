-- What contracts know of an array of lists.
-- (Arrow columnar format, "Variable-size List Layout".)
use Rattle.std.specs.Prelude.{ℕ, ◌+◌, List, refl}
use Rattle.std.specs.Coded.{Coded, code_by, coded_list, coded_ℕ, coded×}
use Rattle.lower.specs.TypeTrees.{TypeTree}
use Rattle.lower_types.specs.declared.PrimitiveType.{PrimitiveType}
use Rattle.lower.specs.declared.error.Error.{Error}
use Rattle.lower_flat_arrays.specs.TypeCodes.{coded_type}
use Rattle.lower_flat_arrays.specs.Validities.{Validity, part, cut_validity}
use Rattle.lower_flat_arrays.specs.Spans.{span_count}
use Rattle.lower_validation.specs.Rules.{BreaksListRules}
use Rattle.lower_arrays.specs.Layouts.{lists, Layout, layout, no_layouts, more_layouts, len_of, type_of}
use Rattle.lower_arrays.specs.LayoutCodes.{coded_primitive, coded_validity, coded_layout}
pub use Rattle.lower_validation.specs.AnyOffsets.{list_places, list_width}

-- The type, the type of offsets, the offsets, the child and the validity of an array of lists.
pub record ListSeen : Type 0 where
  pub type : TypeTree
  pub width : PrimitiveType
  pub offsets : List ℕ
  pub child : Layout
  pub validity : Validity

-- What contracts know of an array of lists with these parts.
abbrev pub list_seen : TypeTree → PrimitiveType → List ℕ → Layout → Validity → ListSeen
list_seen t p os c v = record { type = t; width = p; offsets = os; child = c; validity = v }

-- How an array of lists is stored as a ghost value.
abbrev pub coded_list_seen : Coded ListSeen
coded_list_seen =
    code_by (TypeTree × (PrimitiveType × (List ℕ × (Layout × Validity))))
    (coded× coded_type (coded× coded_primitive (coded× (coded_list coded_ℕ) (coded× coded_layout coded_validity))))
    (λ a. (a.type, (a.width, (a.offsets, (a.child, a.validity)))))
    (λ p. record { type = p.0; width = p.1.0; offsets = p.1.1.0; child = p.1.1.1.0; validity = p.1.1.1.1 }) (λ _. refl)

-- The layout of lists: slot i has the child's slots from offset i to offset i + 1. The variant of
-- AnyArray names offsets of this type.
abbrev pub list_layout_as : PrimitiveType → ListSeen → Layout
list_layout_as named a =
    layout (record { type = a.type; len = span_count a.offsets; validity = a.validity; parts = lists named a.width a.offsets })
    (more_layouts a.child no_layouts)

-- The layout of lists in the variant of its own offsets: List of 32-bit
-- offsets, LargeList of 64-bit offsets.
abbrev pub list_layout : ListSeen → Layout
list_layout a = list_layout_as a.width a

-- The array breaks the rule that the error names.
abbrev pub BreaksList : ListSeen → Error → Type 0
BreaksList a = BreaksListRules a.type a.width a.offsets (type_of a.child) (len_of a.child) a.validity

-- The n slots from index o on: their offsets, with the same child.
abbrev pub cut_list : ℕ → ℕ → ListSeen → ListSeen
cut_list o n a = record {
  type = a.type;
  width = a.width;
  offsets = part o (n + 1) a.offsets;
  child = a.child;
  validity = cut_validity o n a.validity;
}
