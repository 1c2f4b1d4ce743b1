-- Numbers that are keys.
use Rattle.std.proofs.Common.{refl, ◌≡◌, ℕ, ℤ, ◌∙◌}
use Rattle.std.proofs.lemmas.List.{length-map}
use Rattle.lower.specs.TypeTrees.{TypeTree, plain}
use Rattle.lower.specs.Physical.{integer}
use Rattle.lower.specs.declared.datatypes.IntegerType.{IntegerType}
use Rattle.lower_flat_arrays.specs.Primitives.{PrimitiveSeen}
use Rattle.lower_validation.specs.Keys.{keys_in}
use Rattle.lower_nulls.specs.Storage.{AreNullNumbers, AreNullKeys}

pub keys_null : {T : Type 0} (key : IntegerType) (f : T → ℤ) (t : TypeTree) (n : ℕ) (a : PrimitiveSeen T) → AreNullNumbers t n a → t ≡ plain (integer key) → AreNullKeys key n (keys_in key f a)
keys_null key f t n a are named = record {
  key_is = refl;
  type = are.type ∙ named;
  count = length-map a.values f ∙ are.count;
  bits = are.bits;
}
