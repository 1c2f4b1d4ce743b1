use Rattle.std.proofs.Common.{rules}
use Rattle.lower_flat_arrays.proofs.UnsetWords.{words_and_rest}
use Rattle.lower_flat_arrays.proofs.validity.unset_in.Goals as goal

pub returns-clause-count : goal.returns-clause-count
returns-clause-count c = search (rules, words_and_rest c.args.bytes.now)
