use Rattle.std.proofs.Common.{rules}
use Rattle.std.proofs.lemmas.Result.{err_from_is_err_and}
use Rattle.ipc_file_write.proofs.PlacedMessages.{next-blocks, next-end, refused_at}
use Rattle.ipc_file_write.proofs.blocks.place_messages.Goals as goal

pub returns-in_err-block-clause-only : goal.returns-in_err-block-clause-only
returns-in_err-block-clause-only c =
    let p = err_from_is_err_and c.from_residual.result c.from_residual.ensures.1 in
    rw (p.1, p.2) (refused_at c.args.place c.args.messages.now c.loop-message.message-index c.message-item.result c.in_err-block.field-0.0 c.loop-message.end c.loop-message-test.true c.message-item.is c.loop-message.invariant.end c.in_err-block.ensures.only)

pub loop-message-preserved : goal.loop-message-preserved
loop-message-preserved c =
    let i = c.loop-message.message-index in
    let block = c.in_ok-block.ensures.block in
    record {
      blocks = next-blocks c.args.place c.loop-message.end c.args.messages.now i c.message-item.result c.loop-message.blocks.items c.push.new.self.items c.in_ok-block.block c.loop-message-test.true c.message-item.is c.loop-message.invariant.end c.loop-message.invariant.blocks
          (search rules) (search rules);
      end = next-end c.args.place c.loop-message.end c.in_ok-block.behind c.args.messages.now i c.message-item.result c.loop-message-test.true c.message-item.is c.loop-message.invariant.end (search rules);
    }
