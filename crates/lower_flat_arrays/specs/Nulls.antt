-- What contracts know of an array of nulls.
-- (Arrow columnar format, "Null Layout".)
use Rattle.std.specs.Prelude.{◌≡◌, ℕ, refl}
use Rattle.std.specs.Coded.{Coded, code_by, coded_ℕ, coded×}
use Rattle.lower.specs.TypeTrees.{TypeTree}
use Rattle.lower.specs.Physical.{physical}
use Rattle.lower.specs.declared.datatypes.physical_type.PhysicalType.TheVariants.{Null}
use Rattle.lower.specs.declared.error.Error.{Error}
use Rattle.lower.specs.declared.error.Error.TheVariants.{OutOfSpec}
use Rattle.lower.specs.declared.error.Rule.TheVariants.{PhysicalType as WrongType}
use Rattle.lower_flat_arrays.specs.TypeCodes.{coded_type}

-- The type and the length of an array of nulls.
pub record NullSeen : Type 0 where
  pub type : TypeTree
  pub len : ℕ

-- What contracts know of an array of nulls with this type and length.
abbrev pub null_seen : TypeTree → ℕ → NullSeen
null_seen t n = record { type = t; len = n }

-- How an array of nulls is stored as a ghost value.
abbrev pub coded_null : Coded NullSeen
coded_null =
    code_by (TypeTree × ℕ) (coded× coded_type coded_ℕ) (λ a. (a.type, a.len)) (λ p. record { type = p.0; len = p.1 })
    (λ _. refl)

-- A valid array of nulls: its type has no buffers.
pub record IsNull (a : NullSeen) : Type 0 where
  pub lies : physical a.type ≡ Null

-- The array breaks the rule that the error names.
abbrev pub BreaksNull : NullSeen → Error → Type 0
BreaksNull a (OutOfSpec WrongType) = ¬ (physical a.type ≡ Null)
BreaksNull a (OutOfSpec _) = ⊥

-- The first n slots of an array of nulls.
abbrev pub cut_null : ℕ → NullSeen → NullSeen
cut_null n a = record { type = a.type; len = n }
