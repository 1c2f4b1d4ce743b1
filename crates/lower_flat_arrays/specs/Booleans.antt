-- What contracts know of an array of booleans.
-- (Arrow columnar format, "Fixed-size Primitive Layout": a bit for each slot.)
use Rattle.std.specs.Prelude.{◌≡◌, ℕ, List, Bool, length, refl}
use Rattle.std.specs.Coded.{Coded, code_by, coded_list, coded_bool, coded_option, coded×}
use Rattle.lower.specs.TypeTrees.{TypeTree}
use Rattle.lower.specs.Physical.{physical}
use Rattle.lower.specs.declared.datatypes.physical_type.PhysicalType.TheVariants.{Boolean}
use Rattle.lower.specs.declared.error.Error.{Error}
use Rattle.lower.specs.declared.error.Error.TheVariants.{OutOfSpec}
use Rattle.lower.specs.declared.error.Rule.TheVariants.{ValidityLength, PhysicalType as WrongType}
use Rattle.lower_flat_arrays.specs.TypeCodes.{coded_type}
use Rattle.lower_flat_arrays.specs.Validities.{Validity, ValidityFits, part, cut_validity}

-- The type, the values and the validity of an array of booleans.
pub record BooleanSeen : Type 0 where
  pub type : TypeTree
  pub values : List Bool
  pub validity : Validity

-- What contracts know of an array of booleans with these parts.
abbrev pub boolean_seen : TypeTree → List Bool → Validity → BooleanSeen
boolean_seen t xs v = record { type = t; values = xs; validity = v }

-- How an array of booleans is stored as a ghost value.
abbrev pub coded_boolean : Coded BooleanSeen
coded_boolean =
    code_by (TypeTree × (List Bool × Validity))
    (coded× coded_type (coded× (coded_list coded_bool) (coded_option (coded_list coded_bool))))
    (λ a. (a.type, (a.values, a.validity)))
    (λ p. record { type = p.0; values = p.1.0; validity = p.1.1 }) (λ _. refl)

-- A valid array of booleans: its type has a bit for each slot, and so has a validity.
pub record IsBoolean (a : BooleanSeen) : Type 0 where
  pub lies : physical a.type ≡ Boolean
  pub fits : ValidityFits a.validity (length a.values)

-- The array breaks the rule that the error names.
abbrev pub BreaksBoolean : BooleanSeen → Error → Type 0
BreaksBoolean a (OutOfSpec WrongType) = ¬ (physical a.type ≡ Boolean)
BreaksBoolean a (OutOfSpec ValidityLength) = ¬ (ValidityFits a.validity (length a.values))
BreaksBoolean a (OutOfSpec _) = ⊥

-- The n slots from index o on.
abbrev pub cut_boolean : ℕ → ℕ → BooleanSeen → BooleanSeen
cut_boolean o n a = record { type = a.type; values = part o n a.values; validity = cut_validity o n a.validity }
