use Rattle.std.proofs.Common.{rules}
use Rattle.std.proofs.lemmas.Result.{err_from_is_err_and}
use Rattle.ipc_file_write.proofs.AppendEnds.{all_ends, here_has, next_all, next_ends, next_left, none_left}
use Rattle.ipc_file_write.proofs.append.greatest_end.Goals as goal

pub returns-in_err-end_of-clause-only : goal.returns-in_err-end_of-clause-only
returns-in_err-end_of-clause-only c =
    let p = err_from_is_err_and c.from_residual.result c.from_residual.ensures.1 in
    let h = c.in_err-end_of.ensures.only in
    rw (p.1, p.2) (h.0, here_has c.args.blocks.now c.loop-block.block-index _ c.loop-block-test.true c.loop-block.invariant.all h.1)

pub loop-block-preserved : goal.loop-block-preserved
loop-block-preserved c =
    let bs = c.args.blocks.now in
    let i = c.loop-block.block-index in
    let e = c.in_ok-end_of.ensures in
    record {
      ends = next_ends bs i _ c.args.from c.loop-block.end _ c.max-end.result c.loop-block-test.true e.ok (search rules) c.loop-block.invariant.ends;
      left = next_left bs i _ c.loop-block-test.true e.natural c.loop-block.invariant.left;
      all = next_all bs i c.loop-block-test.true c.loop-block.invariant.all;
    }

pub returns-clause-ok : goal.returns-clause-ok
returns-clause-ok c = all_ends c.args.blocks.now c.loop-block.block-index c.args.from c.loop-block.end c.loop-block-test.false c.loop-block.invariant.ends

pub returns-clause-natural : goal.returns-clause-natural
returns-clause-natural c = none_left c.args.blocks.now c.loop-block.block-index c.loop-block-test.false c.loop-block.invariant.left
