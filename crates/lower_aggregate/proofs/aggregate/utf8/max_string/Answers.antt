use Rattle.std.proofs.Common.{arith, ◌+◌, ◌<◌, ◌≤◌, drop, fold, sym, ap, ◌∙◌}
use Rattle.std.specs.Ordering.{nat_cmp}
use Rattle.std.specs.Cmp.Lexicographic.{slice_cmp, nat_list_cmp_total}
use Rattle.std.specs.Option.{option_copied}
use Rattle.lower_flat_arrays.specs.Spans.{span, span_count}
use Rattle.lower_flat_arrays.specs.Options.{options, spans}
use Rattle.lower_flat_arrays.proofs.OptionSteps.{given_told, given_end}
use Rattle.lower_aggregate.specs.Firsts.{turned, first_of}
use Rattle.lower_aggregate.proofs.Firsts.{fold_first, turned_total, copied_greatest, copied_told}
use Rattle.lower_aggregate.proofs.aggregate.utf8.max_string.Goals as goal

pub loop-index-preserved : goal.loop-index-preserved
loop-index-preserved g c =
    let a = c.args.array.now in
    let slots = (options a.validity (spans a)) in
    let i = c.loop-index.index in
    let below : i < span_count a.offsets = omega (arith, c.loop-index-test.true, c.len-index-end.ensures.len) in
    let fits = c.len-index-end.ensures.valid.fits in
    ap (λ b. fold (first_of (turned (slice_cmp nat_cmp))) b (drop (i + 1) slots)) (copied_greatest (slice_cmp nat_cmp) c.loop-index.greatest c.get.result c.greater-greatest.result c.greater-greatest.ensures)
    ∙ ap (fold (first_of (turned (slice_cmp nat_cmp))) (option_copied c.loop-index.greatest)) (sym (given_told a.validity (span a.offsets a.values) (span_count a.offsets) i fits (option_copied c.get.result) below c.get.ensures))
    ∙ c.loop-index.invariant

pub returns : goal.returns
returns g c =
    let a = c.args.array.now in
    let slots = (options a.validity (spans a)) in
    let i = c.loop-index.index in
    let past : span_count a.offsets ≤ i = omega (arith, c.loop-index-test.false, c.len-index-end.ensures.len) in
    let fits = c.len-index-end.ensures.valid.fits in
    copied_told slots (turned (slice_cmp nat_cmp)) c.loop-index.greatest (fold_first (turned (slice_cmp nat_cmp)) (turned_total (slice_cmp nat_cmp) nat_list_cmp_total) slots (option_copied c.loop-index.greatest) (ap (fold (first_of (turned (slice_cmp nat_cmp))) (option_copied c.loop-index.greatest)) (sym (given_end a.validity (span a.offsets a.values) (span_count a.offsets) i fits past)) ∙ c.loop-index.invariant))
