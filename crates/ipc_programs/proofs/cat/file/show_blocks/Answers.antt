use Rattle.std.proofs.lemmas.Result.{err_from_is_err_and}
use Rattle.ipc_convert.proofs.Own.{own}
use Rattle.ipc_programs.proofs.Blocks.{none_given, one_given, then_fails, then_nothing}
use Rattle.ipc_programs.proofs.PrintSteps.{nothing_printed, prints_then}
use Rattle.ipc_programs.proofs.cat.file.show_blocks.Goals as goal

pub loop-init : goal.loop-init
loop-init g c = record {
  given = none_given g.F.Failures.device _;
  prints = nothing_printed _;
}

pub loop-preserved : goal.loop-preserved
loop-preserved g c =
    let shown = c.in_ok-show_block.ensures.shown c.if-branch.true in
    record {
      given = one_given g.F.Failures.device _ _ _ shown.0 c.loop.invariant.given shown.1;
      prints = prints_then c.loop.invariant.prints c.in_ok-show_block.ensures.prints;
    }

pub returns : goal.returns
returns g c = record {
  shown =
      then_nothing g.F.Failures.device _ _ _ c.loop.invariant.given
      (c.in_ok-show_block.ensures.all c.if-branch.false);
  broken = tt;
  prints = prints_then c.loop.invariant.prints c.in_ok-show_block.ensures.prints;
}

pub returns-in_err-show_block-clause-broken : goal.returns-in_err-show_block-clause-broken
returns-in_err-show_block-clause-broken g c =
    let p = err_from_is_err_and c.from_residual.result c.from_residual.ensures.1 in
    rw (p.1, p.2) (own c.in_err-show_block.field-0.0 _ (λ it.
    let broken = it _ c.in_err-show_block.ensures.broken in
    then_fails g.F.Failures.device _ _ broken.0 _ c.loop.invariant.given broken.1))
