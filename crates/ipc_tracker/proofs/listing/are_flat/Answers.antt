use Rattle.ipc_tracker.proofs.Columns.{no_keys_more, no_keys_done}
use Rattle.ipc_tracker.proofs.listing.are_flat.Goals as goal

pub loop-array-preserved : goal.loop-array-preserved
loop-array-preserved c = λ rest. c.loop-array.invariant
    (no_keys_more c.args.arrays.now c.loop-array.array-index c.array-item.result c.loop-array-test.true c.array-item.is (c.is_flat.ensures.below c.if-not-is_flat.false) (c.is_flat.ensures.own c.if-not-is_flat.false) rest)

pub returns : goal.returns
returns c = λ _. c.loop-array.invariant (no_keys_done c.args.arrays.now c.loop-array.array-index c.loop-array-test.false)
