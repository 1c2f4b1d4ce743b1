use Rattle.ipc_chunks.proofs.MessageLists.{joined_next}
use Rattle.ipc_chunks.proofs.common.join_all.Goals as goal

pub loop-message-preserved : goal.loop-message-preserved
loop-message-preserved c =
    rw c.in_ok-push.ensures.items
    (tt, tt, joined_next c.loop-message.all.items _ _ _ _ _ c.in-Some.ensures.steps.0 c.in_ok-join_pieces.ensures.same c.loop-message.invariant.2)
