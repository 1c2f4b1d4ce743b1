-- One slot more.
use Rattle.std.proofs.Common.{rules, sym, false, ◌∙◌}
use Rattle.lower_flat_arrays.proofs.OptionSteps.{option_told}
use Rattle.lower_flat_arrays.proofs.boolean.BooleanIterIterator.next.Goals as goal

pub returns-clause-steps : goal.returns-clause-steps
returns-clause-steps c =
    let seen = c.self.inside.array.now in
    let below = c.if-index-len.false in
    let len = c.len.ensures.len in
    sym c.self.view_is
    ∙ option_told seen.validity seen.values c.self.inside.index false c.get.result (search (below, len, rules)) c.len.ensures.valid.fits c.get.ensures

pub returns-clause-goes : goal.returns-clause-goes
returns-clause-goes c = let steps = returns-clause-steps c in search (steps, rules)
