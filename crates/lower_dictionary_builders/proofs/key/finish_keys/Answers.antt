use Rattle.lower_dictionary_builders.proofs.Keys.{keys_of}
use Rattle.lower_dictionary_builders.proofs.key.finish_keys.Goals as goal

pub returns : goal.returns
returns g c =
    keys_of g.K.DictionaryKey.key g.K.NativeType.primitive g.K.DictionaryKey.integer c.args.keys c.in_ok-array.array c.to_keys.result
    g.met.K.BuildKey.named c.in_ok-array.ensures.data_type c.in_ok-array.ensures.slots c.to_keys.ensures
