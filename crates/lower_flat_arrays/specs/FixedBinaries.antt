-- What contracts know of an array whose slots have equally many bytes.
-- (Arrow columnar format, "Fixed-size Primitive Layout": each slot has the number
-- of bytes that the type names.)
use Rattle.std.specs.Prelude.{◌≡◌, ℕ, ◌*◌, ◌/◌, ◌<◌, List, length, refl}
use Rattle.std.specs.Coded.{Coded, code_by, coded_list, coded_ℕ, coded_bool, coded_option, coded×}
use Rattle.lower.specs.TypeTrees.{TypeTree, plain, fixed_binary}
use Rattle.lower.specs.Physical.{physical, logical}
use Rattle.lower.specs.declared.datatypes.physical_type.PhysicalType.TheVariants.{FixedSizeBinary}
use Rattle.lower.specs.declared.error.Error.{Error}
use Rattle.lower.specs.declared.error.Error.TheVariants.{OutOfSpec}
use Rattle.lower.specs.declared.error.Rule.TheVariants.{ValidityLength, ValuesLength, ZeroSize, PhysicalType as WrongType}
use Rattle.lower_flat_arrays.specs.TypeCodes.{coded_type}
use Rattle.lower_flat_arrays.specs.Validities.{Validity, ValidityFits, part, cut_validity}

-- How many bytes the type gives each slot; 0 if it isn't one of bytes of a fixed number.
abbrev pub named_size : TypeTree → ℕ
named_size (plain (fixed_binary n)) = n
named_size _ = 0

-- How many bytes a type, without its extensions, gives each slot; 0 if it isn't
-- one of bytes of a fixed number.
abbrev pub byte_size : TypeTree → ℕ
byte_size t = named_size (logical t)

-- The type, the size of a slot, the length, the bytes and the validity of the array.
pub record FixedBinarySeen : Type 0 where
  pub type : TypeTree
  pub size : ℕ
  pub len : ℕ
  pub values : List ℕ
  pub validity : Validity

-- An array with these bytes: slot i has the bytes from i times the size on.
abbrev pub fixed_seen : TypeTree → List ℕ → Validity → FixedBinarySeen
fixed_seen t xs v = record { type = t; size = byte_size t; len = length xs / byte_size t; values = xs; validity = v }

-- How the array is stored as a ghost value.
abbrev pub coded_fixed : Coded FixedBinarySeen
coded_fixed =
    code_by (TypeTree × (ℕ × (ℕ × (List ℕ × Validity))))
    (coded× coded_type (coded× coded_ℕ (coded× coded_ℕ (coded× (coded_list coded_ℕ) (coded_option (coded_list coded_bool))))))
    (λ a. (a.type, (a.size, (a.len, (a.values, a.validity)))))
    (λ p. record { type = p.0; size = p.1.0; len = p.1.1.0; values = p.1.1.1.0; validity = p.1.1.1.1 }) (λ _. refl)

-- A valid array: the type names the size, which is above 0, the bytes are those of all slots, and a
-- validity has a bit for each slot.
pub record IsFixedBinary (a : FixedBinarySeen) : Type 0 where
  pub lies : physical a.type ≡ FixedSizeBinary
  pub named : byte_size a.type ≡ a.size
  pub positive : 0 < a.size
  pub whole : length a.values ≡ a.len * a.size
  pub fits : ValidityFits a.validity a.len

-- The array breaks the rule that the error names.
abbrev pub BreaksFixedBinary : FixedBinarySeen → Error → Type 0
BreaksFixedBinary a (OutOfSpec WrongType) = ¬ (physical a.type ≡ FixedSizeBinary)
BreaksFixedBinary a (OutOfSpec ZeroSize) = byte_size a.type ≡ 0
BreaksFixedBinary a (OutOfSpec ValuesLength) = ¬ (length a.values ≡ a.len * a.size)
BreaksFixedBinary a (OutOfSpec ValidityLength) = ¬ (ValidityFits a.validity a.len)
BreaksFixedBinary a (OutOfSpec _) = ⊥

-- The n slots from index o on.
abbrev pub cut_fixed : ℕ → ℕ → FixedBinarySeen → FixedBinarySeen
cut_fixed o n a = record {
  type = a.type;
  size = a.size;
  len = n;
  values = part (o * a.size) (n * a.size) a.values;
  validity = cut_validity o n a.validity;
}
