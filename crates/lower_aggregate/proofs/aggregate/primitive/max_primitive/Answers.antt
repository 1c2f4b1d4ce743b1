use Rattle.std.proofs.Common.{arith, ◌+◌, ◌<◌, ◌≤◌, length, drop, fold, sym, ap, ◌∙◌}
use Rattle.lower_flat_arrays.specs.Options.{options}
use Rattle.lower_flat_arrays.proofs.OptionSteps.{told_step, option_end}
use Rattle.lower_aggregate.specs.Firsts.{turned, first_of}
use Rattle.lower_aggregate.proofs.Firsts.{fold_first, turned_total}
use Rattle.lower_aggregate.proofs.aggregate.primitive.max_primitive.Goals as goal

pub loop-index-preserved : goal.loop-index-preserved
loop-index-preserved g c =
    let a = c.args.array.now in
    let slots = (options a.validity a.values) in
    let i = c.loop-index.index in
    let below : i < length a.values = omega (arith, c.loop-index-test.true, c.len-index-end.ensures.len) in
    let fits = c.len-index-end.ensures.valid.fits in
    ap (λ b. fold (first_of (turned g.T.Ord.cmp)) b (drop (i + 1) slots)) (c.greater-greatest.ensures)
    ∙ ap (fold (first_of (turned g.T.Ord.cmp)) c.loop-index.greatest) (sym (told_step a.validity a.values i c.get.result below fits c.get.ensures))
    ∙ c.loop-index.invariant

pub returns : goal.returns
returns g c =
    let a = c.args.array.now in
    let slots = (options a.validity a.values) in
    let i = c.loop-index.index in
    let past : length a.values ≤ i = omega (arith, c.loop-index-test.false, c.len-index-end.ensures.len) in
    let fits = c.len-index-end.ensures.valid.fits in
    fold_first (turned g.T.Ord.cmp) (turned_total g.T.Ord.cmp g.met.T.Ord.total) slots c.loop-index.greatest (ap (fold (first_of (turned g.T.Ord.cmp)) c.loop-index.greatest) (sym (option_end a.validity a.values i past fits)) ∙ c.loop-index.invariant)
