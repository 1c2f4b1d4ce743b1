use Rattle.std.proofs.Common.{pos, ap}
use Rattle.lower.specs.declared.datatypes.IntegerType.TheVariants.{UInt8, UInt16, UInt32, UInt64}
use Rattle.lower_validation.specs.AnyKeys.{keys_seen}
use Rattle.lower_validation.proofs.Parts.{keys_part}
use Rattle.lower_validation.proofs.keys.DictionaryKeys.sliced.Goals as goal

pub returns-in-UInt8 : goal.returns-in-UInt8
returns-in-UInt8 c =
    keys_part UInt8 (λ x. pos x) c.args.offset c.args.len c.in-UInt8.keys c.sliced-in-UInt8.result (keys_seen c.args.self)
    c.sliced-in-UInt8.ensures (ap keys_seen c.in-UInt8.is)

pub returns-in-UInt16 : goal.returns-in-UInt16
returns-in-UInt16 c =
    keys_part UInt16 (λ x. pos x) c.args.offset c.args.len c.in-UInt16.keys c.sliced-in-UInt16.result (keys_seen c.args.self)
    c.sliced-in-UInt16.ensures (ap keys_seen c.in-UInt16.is)

pub returns-in-UInt32 : goal.returns-in-UInt32
returns-in-UInt32 c =
    keys_part UInt32 (λ x. pos x) c.args.offset c.args.len c.in-UInt32.keys c.sliced-in-UInt32.result (keys_seen c.args.self)
    c.sliced-in-UInt32.ensures (ap keys_seen c.in-UInt32.is)

pub returns-in-UInt64 : goal.returns-in-UInt64
returns-in-UInt64 c =
    keys_part UInt64 (λ x. pos x) c.args.offset c.args.len c.in-UInt64.keys c.sliced-in-UInt64.result (keys_seen c.args.self)
    c.sliced-in-UInt64.ensures (ap keys_seen c.in-UInt64.is)
