use Rattle.std.proofs.Common.{◌+◌, arith}
use Rattle.lower_arrays.proofs.Children.{reach_at}
use Rattle.ipc_programs.proofs.cat.slots.child_with.Goals as goal

pub returns-clause-reach : goal.returns-clause-reach
returns-clause-reach c =
    let reach = reach_at c.args.children.now (c.args.place + 1) c.args.index c.index-children-index.result c.requires.inside c.index-children-index.is c.requires.within in
    omega (arith, reach)
