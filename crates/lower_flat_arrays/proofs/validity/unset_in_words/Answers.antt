use Rattle.std.proofs.Common.{arith, []}
use Rattle.std.proofs.lemmas.List.Sums.{sum_by_more}
use Rattle.lower.specs.Bits.{has_bit}
use Rattle.lower_flat_arrays.specs.Validities.{unset_along}
use Rattle.lower_flat_arrays.proofs.validity.unset_in_words.Goals as goal

pub loop-word-preserved : goal.loop-word-preserved
loop-word-preserved c =
    let more = sum_by_more (λ word. unset_along (has_bit word) 0 64) c.args.words.now c.loop-word.word-index [] c.loop-word-test.true in
    let before = c.loop-word.invariant.0 in
    let bound = c.loop-word.invariant.1 in
    let here = c.unset_in_word-count.ensures.count in
    let few = c.unset_in_word-count.ensures.bound in
    (omega (arith, more, here, before), omega (arith, bound, few))
