use Rattle.std.proofs.Common.{rules, tests}
use Rattle.lower_flat_arrays.proofs.SameRows.{spans_tell}
use Rattle.lower_flat_arrays.proofs.spans.has_same_spans.Goals as goal

pub returns-then-has_same_steps : goal.returns-then-has_same_steps
returns-then-has_same_steps g c =
    let tell = spans_tell c.args.lhs.now c.args.lhs_values.now c.args.rhs.now c.args.rhs_values.now c.len.ensures.offsets c.len-2.ensures.offsets c.requires.count c.requires.lhs_ends c.requires.rhs_ends in
    let bytes = rw (c.held.ensures, c.held-then-has_same_steps.ensures) at c.has_same_bytes.ensures in
    (λ yes. tell.0 (c.has_same_steps.ensures.0 (search (rules, tests)), bytes.0 yes), λ all. bytes.1 ((tell.1 all).1))

pub returns-else-has_same_steps : goal.returns-else-has_same_steps
returns-else-has_same_steps g c =
    let tell = spans_tell c.args.lhs.now c.args.lhs_values.now c.args.rhs.now c.args.rhs_values.now c.len.ensures.offsets c.len-2.ensures.offsets c.requires.count c.requires.lhs_ends c.requires.rhs_ends in
    (λ yes. search (rules, tests), λ all. c.has_same_steps.ensures.1 ((tell.1 all).0))
