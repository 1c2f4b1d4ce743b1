-- What contracts know of an array of numbers.
-- (Arrow columnar format, "Fixed-size Primitive Layout".)
use Rattle.std.specs.Prelude.{◌≡◌, ℕ, List, length, refl}
use Rattle.std.specs.Coded.{Coded, code_by, coded_list, coded_bool, coded_option, coded×}
use Rattle.lower.specs.TypeTrees.{TypeTree}
use Rattle.lower.specs.Physical.{physical}
use Rattle.lower_types.specs.declared.PrimitiveType.{PrimitiveType}
use Rattle.lower.specs.declared.datatypes.physical_type.PhysicalType.TheVariants.{Primitive}
use Rattle.lower.specs.declared.error.Error.{Error}
use Rattle.lower.specs.declared.error.Error.TheVariants.{OutOfSpec}
use Rattle.lower.specs.declared.error.Rule.TheVariants.{ValidityLength, PhysicalType as WrongType}
use Rattle.lower_flat_arrays.specs.TypeCodes.{coded_type}
use Rattle.lower_flat_arrays.specs.Validities.{Validity, ValidityFits, part, cut_validity}

-- The type, the values and the validity of an array of numbers.
pub record PrimitiveSeen (T : Type 0) : Type 0 where
  pub type : TypeTree
  pub values : List T
  pub validity : Validity

-- What contracts know of an array of numbers with these parts.
abbrev pub primitive_seen : {T : Type 0} → TypeTree → List T → Validity → PrimitiveSeen T
primitive_seen t xs v = record { type = t; values = xs; validity = v }

-- How an array of numbers is stored as a ghost value.
abbrev pub coded_primitive : {T : Type 0} → Coded T → Coded (PrimitiveSeen T)
coded_primitive {T} code =
    code_by (TypeTree × (List T × Validity))
    (coded× coded_type (coded× (coded_list code) (coded_option (coded_list coded_bool))))
    (λ a. (a.type, (a.values, a.validity)))
    (λ p. record { type = p.0; values = p.1.0; validity = p.1.1 }) (λ _. refl)

-- A valid array of the numbers p: its type is one of these numbers, and a
-- validity has a bit for each slot.
pub record IsPrimitive {T : Type 0} (p : PrimitiveType) (a : PrimitiveSeen T) : Type 0 where
  pub lies : physical a.type ≡ Primitive p
  pub fits : ValidityFits a.validity (length a.values)

-- The array breaks the rule that the error names.
abbrev pub BreaksPrimitive : {T : Type 0} → PrimitiveType → PrimitiveSeen T → Error → Type 0
BreaksPrimitive p a (OutOfSpec WrongType) = ¬ (physical a.type ≡ Primitive p)
BreaksPrimitive p a (OutOfSpec ValidityLength) = ¬ (ValidityFits a.validity (length a.values))
BreaksPrimitive p a (OutOfSpec _) = ⊥

-- The n slots from index o on.
abbrev pub cut_primitive : {T : Type 0} → ℕ → ℕ → PrimitiveSeen T → PrimitiveSeen T
cut_primitive o n a = record { type = a.type; values = part o n a.values; validity = cut_validity o n a.validity }
