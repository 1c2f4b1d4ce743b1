use Rattle.std.proofs.lemmas.List.Elements.{All-more}
use Rattle.ipc_plan.proofs.serialize.numbers.read_ranges.Goals as goal

pub loop-value-preserved : goal.loop-value-preserved
loop-value-preserved g c =
    All-more g.T.NativeType.fits c.args.values.now c.loop-value.value-index c.value-item.result c.loop-value-test.true c.loop-value.invariant (rw c.value-item.is at c.is_same.ensures.range)
