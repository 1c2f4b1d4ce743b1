-- What contracts know of an array of lists of one size.
-- (Arrow columnar format, "Fixed-Size List Layout".)
use Rattle.std.specs.Prelude.{ℕ, ◌*◌, ◌/◌, refl}
use Rattle.std.specs.Coded.{Coded, code_by, coded_ℕ, coded×}
use Rattle.lower.specs.TypeTrees.{TypeTree}
use Rattle.lower.specs.declared.error.Error.{Error}
use Rattle.lower_flat_arrays.specs.TypeCodes.{coded_type}
use Rattle.lower_flat_arrays.specs.Validities.{Validity, cut_validity}
use Rattle.lower_validation.specs.Rules.{BreaksFixedListRules}
use Rattle.lower_arrays.specs.Layouts.{fixed_lists, Layout, layout, no_layouts, more_layouts, len_of, type_of}
use Rattle.lower_arrays.specs.LayoutCodes.{coded_validity, coded_layout}
use Rattle.lower_validation.specs.ListTypes.{list_size}
use Rattle.lower_arrays.specs.Cuts.{cut}

-- The type, the size, the length, the child and the validity of an array of fixed-size lists.
pub record FixedListSeen : Type 0 where
  pub type : TypeTree
  pub size : ℕ
  pub len : ℕ
  pub child : Layout
  pub validity : Validity

-- An array of fixed-size lists with this child: as many slots as the child has lists.
abbrev pub fixed_list_seen : TypeTree → Layout → Validity → FixedListSeen
fixed_list_seen t c v = record { type = t; size = list_size t; len = len_of c / list_size t; child = c; validity = v }

-- How an array of fixed-size lists is stored as a ghost value.
abbrev pub coded_fixed_list_seen : Coded FixedListSeen
coded_fixed_list_seen =
    code_by (TypeTree × (ℕ × (ℕ × (Layout × Validity))))
    (coded× coded_type (coded× coded_ℕ (coded× coded_ℕ (coded× coded_layout coded_validity))))
    (λ a. (a.type, (a.size, (a.len, (a.child, a.validity)))))
    (λ p. record { type = p.0; size = p.1.0; len = p.1.1.0; child = p.1.1.1.0; validity = p.1.1.1.1 }) (λ _. refl)

-- The layout of fixed-size lists: slot i has the child's slots from i times the size on.
abbrev pub fixed_list_layout : FixedListSeen → Layout
fixed_list_layout a =
    layout (record { type = a.type; len = a.len; validity = a.validity; parts = fixed_lists a.size }) (more_layouts a.child no_layouts)

-- The array breaks the rule that the error names.
abbrev pub BreaksFixedList : FixedListSeen → Error → Type 0
BreaksFixedList a = BreaksFixedListRules a.type (type_of a.child) (len_of a.child) a.validity

-- The n slots from index o on, with their slots of the child.
abbrev pub cut_fixed_list : ℕ → ℕ → FixedListSeen → FixedListSeen
cut_fixed_list o n a = record {
  type = a.type;
  size = a.size;
  len = n;
  child = cut (o * a.size) (n * a.size) a.child;
  validity = cut_validity o n a.validity;
}
