use Rattle.std.proofs.Common.{◌≡◌, ◌∙◌, sym, arith, Some}
use Rattle.lower.specs.TypeViews.{pairs_of}
use Rattle.ipc_model.specs.Schemas.{with_key_value}
use Rattle.ipc_model.proofs.PairLists.{pairs-step}
use Rattle.ipc_reference_schema.proofs.metadata.pairs_from.Goals as goal

pub loop-i-preserved : goal.loop-i-preserved
loop-i-preserved c =
    let v = c.args.tables.now in
    let i = c.loop-i.i in
    let read : Some (pairs_of c.in-Some.after.entries) ≡ with_key_value c.in-Ok.pair (pairs_of c.loop-i.pairs.entries) = rw c.in-Some.is at c.in_ok-after.ensures in
    pairs-step v i c.in-Ok.pair (pairs_of c.loop-i.pairs.entries) (pairs_of c.in-Some.after.entries) (omega (arith, c.loop-i-test.true, c.len-i-end.ensures))
    (sym c.get.ensures ∙ c.in-Ok.is) (sym read)
    ∙ c.loop-i.invariant
