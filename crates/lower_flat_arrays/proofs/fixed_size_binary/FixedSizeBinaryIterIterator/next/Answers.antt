-- One slot more.
use Rattle.std.proofs.Common.{rules, sym, ◌∙◌}
use Rattle.std.specs.Prelude.{◌*◌}
use Rattle.lower_flat_arrays.specs.Validities.{part}
use Rattle.std.specs.Option.{option_copied}
use Rattle.lower_flat_arrays.proofs.OptionSteps.{given_told}
use Rattle.lower_flat_arrays.proofs.fixed_size_binary.FixedSizeBinaryIterIterator.next.Goals as goal

pub returns-clause-steps : goal.returns-clause-steps
returns-clause-steps c =
    let seen = c.self.inside.array.now in
    let below = c.if-index-len.false in
    let len = c.len.ensures.len in
    sym c.self.view_is
    ∙ given_told seen.validity (λ i. part (i * seen.size) seen.size seen.values) seen.len c.self.inside.index c.len.ensures.valid.fits (option_copied c.get.result) (search (below, len, rules)) c.get.ensures

pub returns-clause-goes : goal.returns-clause-goes
returns-clause-goes c = let steps = returns-clause-steps c in search (steps, rules)
