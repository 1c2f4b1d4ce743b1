-- One slot more.
use Rattle.std.proofs.Common.{rules, sym, ◌∙◌}
use Rattle.lower_flat_arrays.proofs.OptionSteps.{told_step}
use Rattle.lower_flat_arrays.proofs.primitive.PrimitiveIterIterator.next.Goals as goal

pub returns-clause-steps : goal.returns-clause-steps
returns-clause-steps g c =
    let seen = c.self.inside.array.now in
    let below = c.if-index-len.false in
    let len = c.len.ensures.len in
    sym c.self.view_is ∙ told_step seen.validity seen.values c.self.inside.index c.get.result (search (below, len, rules)) c.len.ensures.valid.fits c.get.ensures

pub returns-clause-goes : goal.returns-clause-goes
returns-clause-goes g c = let steps = returns-clause-steps g c in search (steps, rules)
