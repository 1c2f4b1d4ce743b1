use Rattle.std.proofs.Common.{◌≡◌, ◌++◌, map}
use Rattle.std.specs.Vec.Iter.{into_iter_items}
use Rattle.ipc_chunks.specs.Messages.{data_seen, message_seen}
use Rattle.ipc_chunks.proofs.common.join_all.Given as goal

-- The messages that were joined and those that are left are all messages.
abbrev pub invariant-loop-message : goal.invariant-loop-message
invariant-loop-message l =
    (goal.iterator-loop-message).can_next l.message-iterator × (goal.iterator-loop-message).is_finite l.message-iterator
    × (map data_seen l.all.items ++ map message_seen (into_iter_items l.message-iterator) ≡ map message_seen l.fn.messages.items)
