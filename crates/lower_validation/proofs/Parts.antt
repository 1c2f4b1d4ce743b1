-- Some numbers of an array, and some keys of a dictionary.
use Rattle.std.proofs.Common.{arith, ◌≡◌, ℕ, ℤ, ◌+◌, ◌≤◌, length, ap, sym, ◌∙◌}
use Rattle.lower_types.specs.NumberTypes.{Number}
use Rattle.lower_types.specs.declared.PrimitiveType.{PrimitiveType}
use Rattle.lower.specs.declared.datatypes.IntegerType.{IntegerType}
use Rattle.lower_flat_arrays.specs.Validities.{cut_validity}
use Rattle.lower_flat_arrays.specs.Primitives.{PrimitiveSeen, cut_primitive}
use Rattle.lower_flat_arrays.proofs.Cuts.{length-part, map-part}
use Rattle.lower_validation.specs.Numbers.{NumbersSeen, numbers_in, cut_numbers}
use Rattle.lower_validation.specs.Keys.{KeysSeen, keys_in, cut_keys}

-- some numbers b of an array a, which has the numbers ns
pub numbers_part :
    {T : Type 0} (p : PrimitiveType) (f : T → Number) (o n : ℕ) (a b : PrimitiveSeen T) (ns : NumbersSeen) → b ≡ cut_primitive o n a
    → ns ≡ numbers_in p f a → o + n ≤ ns.len → numbers_in p f b ≡ cut_numbers o n ns
numbers_part p f o n a b ns e d h =
    let count : ns.len ≡ length a.values = ap (λ s. s.len) d in
    ap (numbers_in p f) e
    ∙ (λ i. record {
      number = p;
      type = a.type;
      len = length-part o n a.values (omega (arith, count, h)) i;
      numbers = map-part f o n a.values i;
      validity = cut_validity o n a.validity;
    })
    ∙ ap (cut_numbers o n) (sym d)

-- some numbers b of an array a, which has the keys ks
pub keys_part :
    {T : Type 0} (k : IntegerType) (f : T → ℤ) (o n : ℕ) (a b : PrimitiveSeen T) (ks : KeysSeen) → b ≡ cut_primitive o n a
    → ks ≡ keys_in k f a → keys_in k f b ≡ cut_keys o n ks
keys_part k f o n a b ks e d =
    ap (keys_in k f) e
    ∙ (λ i. record { key = k; type = a.type; integers = map-part f o n a.values i; validity = cut_validity o n a.validity })
    ∙ ap (cut_keys o n) (sym d)
