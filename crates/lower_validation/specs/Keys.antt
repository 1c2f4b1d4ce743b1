-- The keys of a dictionary: indices of its values.
-- (Arrow columnar format, "Dictionary-encoded Layout".)
use Rattle.std.specs.Prelude.{◌≡◌, ℕ, ℤ, pos, negsuc, ◌<◌, List, Bool, true, false, get_or, length, map}
use Rattle.lower.specs.TypeTrees.{TypeTree, plain, null, dictionary}
use Rattle.lower.specs.Physical.{integer, logical}
use Rattle.lower.specs.declared.datatypes.IntegerType.{IntegerType}
use Rattle.lower_flat_arrays.specs.Validities.{Validity, is_valid, ValidityFits, part, cut_validity}
use Rattle.lower_flat_arrays.specs.Primitives.{PrimitiveSeen}

-- The value type of a dictionary type; null if it is no dictionary type.
abbrev pub named_values : TypeTree → TypeTree
named_values (dictionary key t ordered) = t
named_values _ = plain null

-- The value type of a type without its extensions; null if it is no dictionary type.
abbrev pub values_type : TypeTree → TypeTree
values_type t = named_values (logical t)

-- Whether the order of a dictionary's values is meaningful; false if
-- the type is no dictionary type.
abbrev pub named_order : TypeTree → Bool
named_order (dictionary key t ordered) = ordered
named_order _ = false

-- Whether the order of a dictionary's values is meaningful, for a type without its extensions.
abbrev pub is_ordered : TypeTree → Bool
is_ordered t = named_order (logical t)

-- The index that a key is; 0 if it is negative.
abbrev pub place_of : ℤ → ℕ
place_of (pos n) = n
place_of (negsuc _) = 0

-- A key is an index below n.
abbrev pub KeyFits : ℤ → ℕ → Type 0
KeyFits (pos k) n = k < n
KeyFits (negsuc _) n = ⊥

-- Each key that isn't null is an index below n; a null key may be anything.
pub record KeysFit (v : Validity) (ks : List ℤ) (n : ℕ) : Type 0 where
  pub each : (i : ℕ) → i < length ks → is_valid v i ≡ true → KeyFits (get_or ks i (pos 0)) n

-- The keys of a dictionary: their integer type, the type of their array,
-- the integers, and their validity.
pub record KeysSeen : Type 0 where
  pub key : IntegerType
  pub type : TypeTree
  pub integers : List ℤ
  pub validity : Validity

-- The keys in an array of numbers.
abbrev pub keys_in : {T : Type 0} → IntegerType → (T → ℤ) → PrimitiveSeen T → KeysSeen
keys_in k f a = record { key = k; type = a.type; integers = map f a.values; validity = a.validity }

-- The keys are integers of their type, and a validity has a bit for each of them.
pub record IsKeys (a : KeysSeen) : Type 0 where
  pub type : a.type ≡ plain (integer a.key)
  pub fits : ValidityFits a.validity (length a.integers)

-- The n keys from index o on.
abbrev pub cut_keys : ℕ → ℕ → KeysSeen → KeysSeen
cut_keys o n a = record { key = a.key; type = a.type; integers = part o n a.integers; validity = cut_validity o n a.validity }
