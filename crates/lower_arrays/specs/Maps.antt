-- What contracts know of an array of maps: lists of pairs.
-- (Arrow columnar format, "Map Layout".)
use Rattle.std.specs.Prelude.{ℕ, ◌+◌, List, refl}
use Rattle.std.specs.Coded.{Coded, code_by, coded_list, coded_ℕ, coded×}
use Rattle.lower.specs.TypeTrees.{TypeTree}
use Rattle.lower.specs.declared.error.Error.{Error}
use Rattle.lower_flat_arrays.specs.TypeCodes.{coded_type}
use Rattle.lower_flat_arrays.specs.Validities.{Validity, part, cut_validity}
use Rattle.lower_flat_arrays.specs.Spans.{span_count}
use Rattle.lower_validation.specs.Rules.{BreaksMapRules}
use Rattle.lower_arrays.specs.Layouts.{maps, Layout, layout, no_layouts, more_layouts, len_of, type_of}
use Rattle.lower_arrays.specs.LayoutCodes.{coded_validity, coded_layout}

-- The type, the offsets, the child and the validity of an array of maps.
pub record MapSeen : Type 0 where
  pub type : TypeTree
  pub offsets : List ℕ
  pub child : Layout
  pub validity : Validity

-- What contracts know of an array of maps with these parts.
abbrev pub map_seen : TypeTree → List ℕ → Layout → Validity → MapSeen
map_seen t os c v = record { type = t; offsets = os; child = c; validity = v }

-- How an array of maps is stored as a ghost value.
abbrev pub coded_map_seen : Coded MapSeen
coded_map_seen =
    code_by (TypeTree × (List ℕ × (Layout × Validity)))
    (coded× coded_type (coded× (coded_list coded_ℕ) (coded× coded_layout coded_validity)))
    (λ a. (a.type, (a.offsets, (a.child, a.validity))))
    (λ p. record { type = p.0; offsets = p.1.0; child = p.1.1.0; validity = p.1.1.1 }) (λ _. refl)

-- The layout of maps: slot i has the child's pairs from offset i to offset i + 1.
abbrev pub map_layout : MapSeen → Layout
map_layout a =
    layout (record { type = a.type; len = span_count a.offsets; validity = a.validity; parts = maps a.offsets })
    (more_layouts a.child no_layouts)

-- The array breaks the rule that the error names.
abbrev pub BreaksMap : MapSeen → Error → Type 0
BreaksMap a = BreaksMapRules a.type a.offsets (type_of a.child) (len_of a.child) a.validity

-- The n slots from index o on: their offsets, with the same child.
abbrev pub cut_map : ℕ → ℕ → MapSeen → MapSeen
cut_map o n a = record { type = a.type; offsets = part o (n + 1) a.offsets; child = a.child; validity = cut_validity o n a.validity }
