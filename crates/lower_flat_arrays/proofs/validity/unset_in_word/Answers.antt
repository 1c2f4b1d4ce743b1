use Rattle.std.proofs.Common.{rules}
use Rattle.lower_flat_arrays.proofs.UnsetWords.{word_bits}
use Rattle.lower_flat_arrays.proofs.validity.unset_in_word.Goals as goal

pub returns-clause-count : goal.returns-clause-count
returns-clause-count c = search (rules, word_bits c.args.word (search rules))
