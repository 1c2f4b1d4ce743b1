use Rattle.std.proofs.Common.{arith, ◌≡◌, ◌+◌, length, sym, ap₂, ◌∙◌}
use Rattle.std.specs.List.{filter, range_with_len}
use Rattle.lower_compute.specs.Selections.{is_true_at}
use Rattle.lower_compute.proofs.Selecting.{count_next, count_low}
use Rattle.lower_compute.proofs.select.count_true.Goals as goal

pub overflow_add-count : goal.overflow_add-count
overflow_add-count c =
    let p = is_true_at c.args.mask.now in
    let i = c.loop-index.index in
    let total : c.loop-index.count + c.from-count.result ≡ length (filter p (range_with_len 0 (i + 1))) =
    ap₂ (λ m n. m + n) c.loop-index.invariant c.from-count.ensures ∙ sym (count_next p i c.is_true.result (sym c.is_true.ensures))
    in
    let low = count_low p (i + 1) in
    omega (arith, total, low, c.loop-index-test.true, c.len-index-end.type_inv)

pub loop-index-preserved : goal.loop-index-preserved
loop-index-preserved c =
    ap₂ (λ m n. m + n) c.loop-index.invariant c.from-count.ensures
    ∙ sym (count_next (is_true_at c.args.mask.now) c.loop-index.index c.is_true.result (sym c.is_true.ensures))
