use Rattle.ipc_chunks.proofs.DictionaryLengths.{lengths_more, none_here, none_left}
use Rattle.ipc_chunks.proofs.lengths.are_flat.Goals as goal

pub loop-array-preserved : goal.loop-array-preserved
loop-array-preserved c = λ rest.
    let flat = c.if-not-is_flat.false in
    c.loop-array.invariant (lengths_more c.args.arrays.now c.loop-array.array-index c.array-item.result c.loop-array-test.true c.array-item.is (none_here _ _ (c.is_flat.ensures.below flat) (c.is_flat.ensures.own flat)) rest)

pub returns : goal.returns
returns c = λ _. c.loop-array.invariant (none_left c.args.arrays.now c.loop-array.array-index c.loop-array-test.false)
