use Rattle.std.proofs.Common.{◌∙◌, ap}
use Rattle.lower.specs.TypeViews.{pairs_of}
use Rattle.lower.proofs.Maps.{removed}
use Rattle.lower.proofs.datatypes.normal.without_key.Goals as goal

pub returns : goal.returns
returns c = ap pairs_of c.remove.ensures.entries ∙ removed c.args.key.now c.args.pairs.now.entries c.len-size.ensures.ordered
