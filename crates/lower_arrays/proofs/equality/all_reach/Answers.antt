use Rattle.std.proofs.Common.{◌+◌}
use Rattle.lower_arrays.proofs.Children.{reach_all, all_reach}
use Rattle.lower_arrays.proofs.equality.all_reach.Goals as goal

pub returns : goal.returns
returns c =
    let n = c.args.index + c.args.len in
    let children = c.args.children.now in
    (λ h. all_reach n children (c.each_reaches.ensures.0 h), λ h. c.each_reaches.ensures.1 (reach_all n children h))
