use Rattle.std.proofs.Common.{drop, map}
use Rattle.ipc_plan.proofs.Sends.{SentBefore}
use Rattle.ipc_write.specs.Messages.{messages_bytes}
use Rattle.ipc_chunks.specs.Messages.{message_seen}
use Rattle.ipc_write.proofs.common_sync.write_all_encoded.Given as goal

-- The messages that were sent and those that are left are all messages.
abbrev pub invariant-loop-message : goal.invariant-loop-message
invariant-loop-message g l =
    SentBefore g.W.Failures.device l.fn.writer l.writer
    (messages_bytes (map message_seen (drop l.message-index l.messages))) (messages_bytes (map message_seen l.messages))
