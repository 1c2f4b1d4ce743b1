use Rattle.std.proofs.Common.{◌∙◌, ◌<◌, sym, arith}
use Rattle.std.proofs.lemmas.Result.{err_from_is_err_and}
use Rattle.lower.specs.TypeViews.{pairs_of}
use Rattle.ipc_model.proofs.PairLists.{pairs-none, pairs-step}
use Rattle.ipc_schema.proofs.Steps.{pairs-weaker}
use Rattle.ipc_schema.proofs.read.pairs.read_pairs.Goals as goal

pub loop-i-preserved : goal.loop-i-preserved
loop-i-preserved c =
    let v = c.args.tables.now in
    let i = c.loop-i.i in
    let led = sym c.in_ok-pair.ensures in
    pairs-step v i c.in_ok-pair.pair (pairs_of c.loop-i.pairs.entries) (pairs_of c.read_pair.new.pairs.entries) (omega (arith, c.loop-i-test.true, c.len-i-end.ensures)) led c.in_ok-read_pair.ensures
    ∙ c.loop-i.invariant

pub returns-in_err-read_pair : goal.returns-in_err-read_pair
returns-in_err-read_pair c =
    let p = err_from_is_err_and c.from_residual-in_err-read_pair.result c.from_residual-in_err-read_pair.ensures.1 in
    let led = sym c.in_ok-pair.ensures in
    let inside : c.loop-i.i < c.args.tables.now.count = omega (arith, c.loop-i-test.true, c.len-i-end.ensures) in
    rw (p.1, p.2) (pairs-weaker c.in_err-read_pair.field-0.0 _ _
    (λ none. sym c.loop-i.invariant ∙ pairs-none c.args.tables.now c.loop-i.i c.in_ok-pair.pair (pairs_of c.loop-i.pairs.entries) inside led none) c.in_err-read_pair.ensures)
