use Rattle.std.proofs.Common.{◌+◌, arith}
use Rattle.lower_arrays.proofs.Children.{height_at, reach_at}
use Rattle.lower_display.proofs.value.child_with.Goals as goal

pub returns-clause-reach : goal.returns-clause-reach
returns-clause-reach c =
    let reach = reach_at c.args.children.now (c.args.place + c.args.len) c.args.index c.index-children-index.result c.requires.inside c.index-children-index.is c.requires.within in
    omega (arith, reach)

pub returns-clause-height : goal.returns-clause-height
returns-clause-height c =
    let below = height_at c.args.children.now c.args.index c.index-children-index.result c.requires.inside c.index-children-index.is in
    omega (arith, below)
