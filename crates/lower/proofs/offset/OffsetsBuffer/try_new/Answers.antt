use Rattle.std.proofs.Common.{rules}
use Rattle.lower.proofs.OffsetPlaces.{keeps}
use Rattle.lower.proofs.offset.OffsetsBuffer.try_new.Goals as goal

pub invariant_of-result : goal.invariant_of-result
invariant_of-result g c = keeps g.O.Offset.integer c.args.offsets (search rules)

pub returns-clause-exact : goal.returns-clause-exact
returns-clause-exact g c = keeps g.O.Offset.integer c.args.offsets (search rules)
