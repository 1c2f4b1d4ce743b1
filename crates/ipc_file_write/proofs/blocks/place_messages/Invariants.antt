use Rattle.std.proofs.Common.{◌≡◌, ◌+◌, length, map, take}
use Rattle.ipc_file_lemmas.specs.FileBytes.{all_bytes, blocks_at}
use Rattle.ipc_file_write.specs.Blocks.{sent_seen}
use Rattle.ipc_file_write.proofs.blocks.place_messages.Given as goal

abbrev pub invariant-loop-message : goal.invariant-loop-message
invariant-loop-message l = record {
  blocks : l.blocks.items ≡ blocks_at l.place (map sent_seen (take l.message-index l.messages));
  end : l.end ≡ l.place + length (all_bytes (map sent_seen (take l.message-index l.messages)));
}
