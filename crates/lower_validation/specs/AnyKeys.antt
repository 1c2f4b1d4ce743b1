-- What contracts know of the keys of a dictionary.
-- (Arrow columnar format, "Dictionary-encoded Layout".)
use Rattle.std.specs.Prelude.{pos}
use Rattle.lower.specs.declared.datatypes.IntegerType.TheVariants as Integers
use Rattle.lower_validation.specs.Keys.{KeysSeen, keys_in}
use Rattle.lower_validation.specs.declared.keys.DictionaryKeys.{DictionaryKeys}
use Rattle.lower_validation.specs.declared.keys.DictionaryKeys.TheVariants.{Int8, Int16, Int32, Int64, UInt8, UInt16, UInt32, UInt64}

-- What contracts know of the keys of a dictionary, whatever their type.
abbrev pub keys_seen : DictionaryKeys → KeysSeen
keys_seen (Int8 a) = keys_in Integers.Int8 (λ x. x) a
keys_seen (Int16 a) = keys_in Integers.Int16 (λ x. x) a
keys_seen (Int32 a) = keys_in Integers.Int32 (λ x. x) a
keys_seen (Int64 a) = keys_in Integers.Int64 (λ x. x) a
keys_seen (UInt8 a) = keys_in Integers.UInt8 (λ x. pos x) a
keys_seen (UInt16 a) = keys_in Integers.UInt16 (λ x. pos x) a
keys_seen (UInt32 a) = keys_in Integers.UInt32 (λ x. pos x) a
keys_seen (UInt64 a) = keys_in Integers.UInt64 (λ x. pos x) a
