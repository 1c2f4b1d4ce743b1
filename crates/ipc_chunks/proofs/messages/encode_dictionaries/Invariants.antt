use Rattle.std.proofs.Common.{All, map, take}
use Rattle.ipc_encode.specs.Appending.{order_of}
use Rattle.ipc_tracker.specs.Listings.{listed}
use Rattle.ipc_chunks.specs.Messages.{AreAllValues, HasWholeBody, message_seen}
use Rattle.ipc_chunks.proofs.messages.encode_dictionaries.Given as goal

abbrev pub invariant-loop-dictionary : goal.invariant-loop-dictionary
invariant-loop-dictionary l = record {
  values : AreAllValues (order_of l.is_little_endian) (map listed (take l.dictionary-index l.dictionaries)) (map message_seen l.encoded.items);
  whole : All HasWholeBody l.encoded.items;
}
