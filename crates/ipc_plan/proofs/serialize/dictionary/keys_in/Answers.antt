use Rattle.std.proofs.Common.{◌∙◌, ℤ, pos, map, sym, ap}
use Rattle.lower_types.specs.NumberTypes.{whole}
use Rattle.lower_flat_arrays.specs.Validities.{part}
use Rattle.lower_validation.specs.AnyKeys.{keys_seen}
use Rattle.lower_validation.specs.declared.keys.DictionaryKeys.{DictionaryKeys}
use Rattle.ipc_plan.proofs.Numbers.{key_numbers}
use Rattle.ipc_plan.proofs.serialize.dictionary.keys_in.Goals as goal

pub returns-in-Int8-clause-numbers : goal.returns-in-Int8-clause-numbers
returns-in-Int8-clause-numbers c =
    ap (map (λ (x : ℤ). whole x)) c.values_in.ensures.values ∙ key_numbers (λ (x : ℤ). x) c.args.offset c.args.len c.in-Int8.array.values
    ∙ sym (ap (λ (k : DictionaryKeys). map (λ z. whole z) (part c.args.offset c.args.len (keys_seen k).integers)) c.in-Int8.is)

pub returns-in-Int16-clause-numbers : goal.returns-in-Int16-clause-numbers
returns-in-Int16-clause-numbers c =
    ap (map (λ (x : ℤ). whole x)) c.values_in-in-Int16.ensures.values ∙ key_numbers (λ (x : ℤ). x) c.args.offset c.args.len c.in-Int16.array.values
    ∙ sym (ap (λ (k : DictionaryKeys). map (λ z. whole z) (part c.args.offset c.args.len (keys_seen k).integers)) c.in-Int16.is)

pub returns-in-Int32-clause-numbers : goal.returns-in-Int32-clause-numbers
returns-in-Int32-clause-numbers c =
    ap (map (λ (x : ℤ). whole x)) c.values_in-in-Int32.ensures.values ∙ key_numbers (λ (x : ℤ). x) c.args.offset c.args.len c.in-Int32.array.values
    ∙ sym (ap (λ (k : DictionaryKeys). map (λ z. whole z) (part c.args.offset c.args.len (keys_seen k).integers)) c.in-Int32.is)

pub returns-in-Int64-clause-numbers : goal.returns-in-Int64-clause-numbers
returns-in-Int64-clause-numbers c =
    ap (map (λ (x : ℤ). whole x)) c.values_in-in-Int64.ensures.values ∙ key_numbers (λ (x : ℤ). x) c.args.offset c.args.len c.in-Int64.array.values
    ∙ sym (ap (λ (k : DictionaryKeys). map (λ z. whole z) (part c.args.offset c.args.len (keys_seen k).integers)) c.in-Int64.is)

pub returns-in-UInt8-clause-numbers : goal.returns-in-UInt8-clause-numbers
returns-in-UInt8-clause-numbers c =
    ap (map (λ x. whole (pos x))) c.values_in-in-UInt8.ensures.values ∙ key_numbers pos c.args.offset c.args.len c.in-UInt8.array.values
    ∙ sym (ap (λ (k : DictionaryKeys). map (λ z. whole z) (part c.args.offset c.args.len (keys_seen k).integers)) c.in-UInt8.is)

pub returns-in-UInt16-clause-numbers : goal.returns-in-UInt16-clause-numbers
returns-in-UInt16-clause-numbers c =
    ap (map (λ x. whole (pos x))) c.values_in-in-UInt16.ensures.values ∙ key_numbers pos c.args.offset c.args.len c.in-UInt16.array.values
    ∙ sym (ap (λ (k : DictionaryKeys). map (λ z. whole z) (part c.args.offset c.args.len (keys_seen k).integers)) c.in-UInt16.is)

pub returns-in-UInt32-clause-numbers : goal.returns-in-UInt32-clause-numbers
returns-in-UInt32-clause-numbers c =
    ap (map (λ x. whole (pos x))) c.values_in-in-UInt32.ensures.values ∙ key_numbers pos c.args.offset c.args.len c.in-UInt32.array.values
    ∙ sym (ap (λ (k : DictionaryKeys). map (λ z. whole z) (part c.args.offset c.args.len (keys_seen k).integers)) c.in-UInt32.is)

pub returns-in-UInt64-clause-numbers : goal.returns-in-UInt64-clause-numbers
returns-in-UInt64-clause-numbers c =
    ap (map (λ x. whole (pos x))) c.values_in-in-UInt64.ensures.values ∙ key_numbers pos c.args.offset c.args.len c.in-UInt64.array.values
    ∙ sym (ap (λ (k : DictionaryKeys). map (λ z. whole z) (part c.args.offset c.args.len (keys_seen k).integers)) c.in-UInt64.is)
