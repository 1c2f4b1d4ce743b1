use Rattle.std.proofs.Common.{arith, rules, ◌≡◌, Err}
use Rattle.lower_arrays.specs.AnyLayouts.{layout_of}
use Rattle.lower_arrays.proofs.Children.{height_at}
use Rattle.ipc_chunks.specs.Lengths.{dictionaries_below, own_dictionaries}
use Rattle.ipc_chunks.proofs.DictionaryLengths.{below_refused, lengths_more, lengths_then, none_left, refused_here, refused_later}
use Rattle.ipc_chunks.proofs.lengths.+lengths.Goals as goal

pub check_lengths-check_column-requires : goal.check_lengths-check_column-requires
check_lengths-check_column-requires t c =
    (omega (arith, height_at c.args.columns.now c.loop-column.column-index c.column-item.result c.loop-column-test.true c.column-item.is, c.decreases), tt)

pub check_lengths-loop-column-preserved : goal.check_lengths-loop-column-preserved
check_lengths-loop-column-preserved t c =
    let xs = c.args.columns.now in
    let i = c.loop-column.column-index in
    let y = c.column-item.result in (
      λ rest. c.loop-column.invariant.0 (lengths_more xs i y c.loop-column-test.true c.column-item.is c.in_ok-check_column.ensures rest),
      λ e r. c.loop-column.invariant.1 e (refused_later xs i y e c.loop-column-test.true c.column-item.is r),
    )

pub check_lengths-returns : goal.check_lengths-returns
check_lengths-returns t c = c.loop-column.invariant.0 (none_left c.args.columns.now c.loop-column.column-index c.loop-column-test.false)

pub check_lengths-returns-in_err-check_column : goal.check_lengths-returns-in_err-check_column
check_lengths-returns-in_err-check_column t c =
    let fault = c.in_err-check_column.field-0.0 in
    let e : c.from_residual.result ≡ Err fault = search rules in
    rw e
    (c.loop-column.invariant.1 fault
    (refused_here c.args.columns.now c.loop-column.column-index c.column-item.result fault c.loop-column-test.true c.column-item.is c.in_err-check_column.ensures))

pub check_column-returns : goal.check_column-returns
check_column-returns t c =
    let l = layout_of c.args.column.now in
    lengths_then _ (dictionaries_below l) (own_dictionaries l) c.check_own.result c.below.ensures.same c.in_ok-check_lengths.ensures c.check_own.ensures

pub check_column-returns-in_err-check_lengths : goal.check_column-returns-in_err-check_lengths
check_column-returns-in_err-check_lengths t c =
    let l = layout_of c.args.column.now in
    let fault = c.in_err-check_lengths.field-0.0 in
    let e : c.from_residual.result ≡ Err fault = search rules in
    rw e (below_refused _ (dictionaries_below l) (own_dictionaries l) fault c.below.ensures.same c.in_err-check_lengths.ensures)
