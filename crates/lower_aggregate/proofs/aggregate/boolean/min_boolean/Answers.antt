use Rattle.std.proofs.Common.{arith, ◌+◌, ◌<◌, ◌≤◌, false, length, drop, fold, sym, ap, ◌∙◌}
use Rattle.std.specs.Ordering.{bool_cmp}
use Rattle.std.specs.Cmp.{bool_cmp_total}
use Rattle.lower_flat_arrays.specs.Options.{options}
use Rattle.lower_flat_arrays.proofs.OptionSteps.{option_told, option_end}
use Rattle.lower_aggregate.specs.Firsts.{first_of}
use Rattle.lower_aggregate.proofs.Firsts.{fold_first}
use Rattle.lower_aggregate.proofs.aggregate.boolean.min_boolean.Goals as goal

pub loop-index-preserved : goal.loop-index-preserved
loop-index-preserved c =
    let a = c.args.array.now in
    let slots = (options a.validity a.values) in
    let i = c.loop-index.index in
    let below : i < length a.values = omega (arith, c.loop-index-test.true, c.len-index-end.ensures.len) in
    let fits = c.len-index-end.ensures.valid.fits in
    ap (λ b. fold (first_of bool_cmp) b (drop (i + 1) slots)) (c.lesser-least.ensures)
    ∙ ap (fold (first_of bool_cmp) c.loop-index.least) (sym (option_told a.validity a.values i false c.get.result below fits c.get.ensures))
    ∙ c.loop-index.invariant

pub returns : goal.returns
returns c =
    let a = c.args.array.now in
    let slots = (options a.validity a.values) in
    let i = c.loop-index.index in
    let past : length a.values ≤ i = omega (arith, c.loop-index-test.false, c.len-index-end.ensures.len) in
    let fits = c.len-index-end.ensures.valid.fits in
    fold_first bool_cmp bool_cmp_total slots c.loop-index.least (ap (fold (first_of bool_cmp) c.loop-index.least) (sym (option_end a.validity a.values i past fits)) ∙ c.loop-index.invariant)
