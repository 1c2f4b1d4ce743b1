-- One slot more.
use Rattle.std.proofs.Common.{rules, sym, ◌∙◌}
use Rattle.lower_flat_arrays.specs.Spans.{span, span_count}
use Rattle.std.specs.Option.{option_copied}
use Rattle.lower_flat_arrays.proofs.OptionSteps.{given_told}
use Rattle.lower_flat_arrays.proofs.binary.BinaryIterIterator.next.Goals as goal

pub returns-clause-steps : goal.returns-clause-steps
returns-clause-steps g c =
    let seen = c.self.inside.array.now in
    let below = c.if-index-len.false in
    let len = c.len.ensures.len in
    sym c.self.view_is
    ∙ given_told seen.validity (span seen.offsets seen.values) (span_count seen.offsets) c.self.inside.index c.len.ensures.valid.fits (option_copied c.get.result) (search (below, len, rules)) c.get.ensures

pub returns-clause-goes : goal.returns-clause-goes
returns-clause-goes g c = let steps = returns-clause-steps g c in search (steps, rules)
